use Rattle.std.proofs.Common.{Result, inr, subst, sym}
use Rattle.pgsub_cli.specs.declared.fault.Ending.{Ending}
use Rattle.pgsub_cli.specs.declared.fault.RunFault.{RunFault}
use Rattle.pgsub_cli.specs.Runs.{Tells}
use Rattle.pgsub_cli.proofs.Reading.{written_or_failed}
use Rattle.pgsub_cli.proofs.telling.tell.Goals as goal

pub returns-in-Err-fault_line : goal.returns-in-Err-fault_line
returns-in-Err-fault_line g c =
    let wrote = c.write_lines-in-Err-fault_line in
    subst (λ (ended : Result Ending RunFault).
    Tells g.E.Output.takes g.E.Output.failed c.args.left.now c.args.right.now ended c.args.err.now wrote.new.self) (sym c.in-Err.is)
    (inr (written_or_failed wrote.result _ _ wrote.ensures.written wrote.ensures.failed))
