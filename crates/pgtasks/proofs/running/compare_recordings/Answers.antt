use Rattle.pgtasks.proofs.BothRead.{compares_read, compares_unread}
use Rattle.pgtasks.proofs.running.compare_recordings.Goals as goal

pub returns-in_err-others : goal.returns-in_err-others
returns-in_err-others g c =
    compares_unread g.R.Input.gives g.R.Input.begins g.R.Input.failed g.W.Output.takes g.W.Output.failed c.args.version c.args.left
    c.args.right c.args.out.now
    c.from_residual-in_err-others.result c.in_ok-sessions.sessions.items c.in_err-others.field-0.0 c.from_residual-in_err-others.ensures.1
    c.in_ok-sessions.ensures.sessions c.in_err-others.ensures.unread

pub returns : goal.returns
returns g c =
    compares_read g.R.Input.gives g.R.Input.begins g.R.Input.failed g.W.Output.takes g.W.Output.failed c.args.version c.args.left
    c.args.right c.args.out.now c.compare_sessions.new.out
    c.compare_sessions.result c.in_ok-sessions.sessions.items c.in_ok-others.others.items c.as_slice.result.now c.as_slice-2.result.now
    c.in_ok-sessions.ensures.sessions c.in_ok-others.ensures.sessions
    c.as_slice.ensures.value c.as_slice-2.ensures.value c.compare_sessions.ensures
