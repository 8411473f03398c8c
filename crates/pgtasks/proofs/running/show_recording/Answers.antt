use Rattle.std.proofs.Common.{Ok}
use Rattle.pgsub_cli.specs.Runs.{PrintsShown}
use Rattle.pgtasks.proofs.Writing.{prints_sessions}
use Rattle.pgtasks.proofs.running.show_recording.Goals as goal

pub returns : goal.returns
returns g c =
    prints_sessions g.R.Input.gives g.R.Input.begins g.R.Input.failed g.W.Output.takes g.W.Output.failed (λ f. ⊥)
    (PrintsShown c.args.version) c.args.file c.args.out.now
    c.write_printed.new.out c.write_printed.result (Ok c.show.result) c.in_ok-sessions.sessions.items c.as_slice.result.now
    c.as_slice.ensures.value
    c.in_ok-sessions.ensures.sessions c.show.ensures tt c.write_printed.ensures
