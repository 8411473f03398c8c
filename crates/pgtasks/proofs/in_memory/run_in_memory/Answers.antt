use Rattle.std.proofs.Common.{ℕ, List, subst}
use Rattle.pgsub_cli.specs.declared.reporting.Counted.{Counted}
use Rattle.pgsub_cli.specs.Dumped.{PrintsHeld}
use Rattle.pgsub_cli.specs.Runs.{PrintsNew}
use Rattle.pgsub_cli.proofs.Within.{prints_new_within}
use Rattle.pgtasks.proofs.in_memory.run_in_memory.Goals as goal

pub returns-clause-ends : goal.returns-clause-ends
returns-clause-ends g c =
    let gives : g.row.R.Denot → List ℕ → Type 0 = g.R.Input.gives in
    let begins : g.row.R.Denot → List ℕ → Type 0 = g.R.Input.begins in
    let failed : g.row.R.Denot → Type 0 = g.R.Input.failed in
    let reader : Counted g.row.R.Denot g.row.K.Denot g.row.P.Denot → g.row.R.Denot = λ q. q.file in
    let told = c.count_bytes-told in
    let applied = c.apply_told-ended in (
      applied.result,
      c.status.ensures.status,
      subst (λ i. PrintsHeld g.W.Output.takes g.W.Output.failed (PrintsNew gives begins failed c.args.limits i) c.args.out.now
          applied.new.out applied.result) told.ensures
          (prints_new_within reader gives begins failed g.W.Output.takes g.W.Output.failed c.args.limits told.result c.args.out.now
          applied.new.out applied.result applied.ensures),
      c.tell.ensures,
    )
