use Rattle.std.proofs.Common.{◌++◌, Err, IfErr, inl, refl, subst, sym}
use Rattle.std.specs.String.{string_bytes}
use Rattle.pgapply.specs.Stored.{IsOwnFault}
use Rattle.pgsub_core.specs.declared.fault.Fault.TheVariants.{Memory}
use Rattle.pgsub_core.specs.Machine.Faults.{IsReadFault}
use Rattle.pgsub_cli.specs.Dumped.{PrintsLines}
use Rattle.pgsub_cli.specs.Lines.{IsWriting}
use Rattle.pgsub_cli.proofs.LineSteps.{own_read, stops, unread}
use Rattle.pgsub_cli.proofs.dumping.LineSink.end.Goals as goal

pub returns-in-Some-default-clause-prints : goal.returns-in-Some-default-clause-prints
returns-in-Some-default-clause-prints g c old bytes more writing own last =
    let lines = c.args.self.now.lines in
    subst (λ f. PrintsLines g.W.Output.takes g.W.Output.failed (bytes ++ more) old lines.out (Err f)) (sym c.run_fault.ensures)
    (stops g.W.Output.takes g.W.Output.failed c.in-Some-default.fault
    (subst (λ f. IsWriting g.W.Output.takes g.W.Output.failed old bytes lines.out (string_bytes lines.text) f) c.in-Some-default.is-0
    writing) more)

pub returns-in-None-Ok-false-clause-prints : goal.returns-in-None-Ok-false-clause-prints
returns-in-None-Ok-false-clause-prints g c old bytes more writing own last =
    let lines = c.args.self.now.lines in
    unread g.W.Output.takes g.W.Output.failed
    (subst (λ f. IsWriting g.W.Output.takes g.W.Output.failed old bytes lines.out (string_bytes lines.text) f) c.in-None-Ok-false.is-0
    writing) more Memory (inl refl)

pub returns-in-None-Err-clause-prints : goal.returns-in-None-Err-clause-prints
returns-in-None-Err-clause-prints g c old bytes more writing own last =
    let lines = c.args.self.now.lines in
    unread g.W.Output.takes g.W.Output.failed
    (subst (λ f. IsWriting g.W.Output.takes g.W.Output.failed old bytes lines.out (string_bytes lines.text) f) c.in-None-Err.is-0
    writing) more c.from.result
    (subst IsReadFault (sym c.from.ensures.0) (own_read c.in-None-Err.fault (subst (λ r. IfErr r IsOwnFault) c.in-None-Err.is-1 own)))
