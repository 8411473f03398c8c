use Rattle.pgcommand.proofs.commands.program.Goals as goal

pub returns : goal.returns
returns c =
    let shows = c.in_ok-program.ensures _ _ c.bare.ensures c.show_command.ensures in
    let applies = c.in_ok-program-2.ensures _ _ shows c.apply_command.ensures in
    let dumps = c.in_ok-program-3.ensures _ _ applies c.dump_command.ensures in
    let follows = c.in_ok-program-4.ensures _ _ dumps c.follow_command.ensures in
    let compares = c.in_ok-program-5.ensures _ _ follows c.same_command.ensures in
    let resumes = c.in_ok-program-6.ensures _ _ compares c.resume_command.ensures in
    let numbers = c.in_ok-program-7.ensures _ _ resumes c.lsn_command.ensures in
    c.with_subcommand-8.ensures _ _ numbers c.watch_command.ensures
