use Rattle.pgsub_core.specs.Machine.Faults.{IsReadFault}
use Rattle.pgsub_cli.specs.Runs.{PrintsResumed}
use Rattle.pgtasks.proofs.Writing.{prints_sessions}
use Rattle.pgtasks.proofs.running.resume_recording.Goals as goal

pub returns : goal.returns
returns g c =
    prints_sessions g.R.Input.gives g.R.Input.begins g.R.Input.failed g.W.Output.takes g.W.Output.failed IsReadFault PrintsResumed
    c.args.file c.args.out.now
    c.write_printed.new.out c.write_printed.result c.resume.result c.in_ok-sessions.sessions.items c.as_slice.result.now
    c.as_slice.ensures.value
    c.in_ok-sessions.ensures.sessions c.resume.ensures.resumed c.resume.ensures.fault c.write_printed.ensures
