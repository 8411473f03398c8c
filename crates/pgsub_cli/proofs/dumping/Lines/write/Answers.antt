use Rattle.std.proofs.Common.{subst}
use Rattle.pgsub_cli.proofs.LineSteps.{flushed}
use Rattle.pgsub_cli.proofs.dumping.Lines.write.Goals as goal

pub returns-in-Ok-clause-written : goal.returns-in-Ok-clause-written
returns-in-Ok-clause-written g c old bytes writing =
    flushed g.W.Output.takes g.W.Output.failed writing c.write_lines.new.self _
    (subst (λ text. g.W.Output.takes c.args.self.now.out text c.write_lines.new.self) c.as_str.ensures.value c.in-Ok.ensures.written)
    c.clear.ensures.bytes
