use Rattle.pgcommand.proofs.Building.{with_arg}
use Rattle.pgcommand.proofs.commands.follow_command.Goals as goal

pub returns : goal.returns
returns c =
    let one = with_arg _ _ c.proto.result _ _ c.bare_follow.ensures c.proto.ensures.rule c.proto.ensures.local c.in_ok-command.ensures in
    let stored = c.in_ok-command-3.ensures _ (c.in_ok-command-2.ensures _ one) in
    let started = c.in_ok-command-5.ensures _ (c.in_ok-command-4.ensures _ stored) in
    c.with_spool.ensures _ (c.in_ok-with_feed.ensures _ started)
