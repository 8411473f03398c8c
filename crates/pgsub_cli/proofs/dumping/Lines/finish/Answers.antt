use Rattle.std.proofs.Common.{◌++◌, Err, subst, sym}
use Rattle.pgsub_cli.specs.DumpText.{position_line}
use Rattle.pgsub_cli.specs.Dumped.{PrintsLines}
use Rattle.pgsub_cli.proofs.LineSteps.{done, stops, unfinished}
use Rattle.pgsub_cli.proofs.dumping.Lines.finish.Goals as goal

pub returns-in-Err-clause-prints : goal.returns-in-Err-clause-prints
returns-in-Err-clause-prints g c old bytes writing =
    subst (λ f. PrintsLines g.W.Output.takes g.W.Output.failed (bytes ++ position_line c.args.position) old c.add_position.new.self.out
    (Err f)) (sym c.run_fault.ensures)
    (stops g.W.Output.takes g.W.Output.failed c.in-Err.fault (c.in-Err.ensures.stays old bytes writing) (position_line c.args.position))

pub returns-in-Err-write-clause-prints : goal.returns-in-Err-write-clause-prints
returns-in-Err-write-clause-prints g c old bytes writing =
    subst (λ f. PrintsLines g.W.Output.takes g.W.Output.failed (bytes ++ position_line c.args.position) old c.write.new.self.out (Err f))
    (sym c.run_fault-in-Err-write.ensures)
    (unfinished g.W.Output.takes g.W.Output.failed old (bytes ++ position_line c.args.position) c.add_position.new.self.out _
    (c.in_default.ensures.added old bytes writing) c.write.new.self.out c.in-Err-write.fault c.in-Err-write.ensures.failed)

pub returns-in-Ok-clause-prints : goal.returns-in-Ok-clause-prints
returns-in-Ok-clause-prints g c old bytes writing =
    done g.W.Output.takes g.W.Output.failed
    (c.in-Ok.ensures.written old (bytes ++ position_line c.args.position) (c.in_default.ensures.added old bytes writing))
    c.in-Ok.ensures.cleared
