use Rattle.std.proofs.Common.{subst, sym}
use Rattle.pgcommand.specs.declared.task.Task.{Task}
use Rattle.pgsub_cli.specs.Runs.{Ends}
use Rattle.pgtasks.proofs.running.run_task.Goals as goal

pub returns-in-Apply : goal.returns-in-Apply
returns-in-Apply g c =
    subst (λ (asked : Task).
    Ends g.R.Input.gives g.R.Input.begins g.R.Input.failed g.W.Output.takes g.W.Output.failed asked c.args.left c.args.right
    c.args.out.now c.apply_file.new.out c.apply_file.result)
    (sym c.in-Apply.is) c.apply_file.ensures

pub returns-in-Same : goal.returns-in-Same
returns-in-Same g c =
    subst (λ (asked : Task).
    Ends g.R.Input.gives g.R.Input.begins g.R.Input.failed g.W.Output.takes g.W.Output.failed asked c.args.left c.args.right
    c.args.out.now c.compare_recordings.new.out c.compare_recordings.result)
    (sym c.in-Same.is) c.compare_recordings.ensures
