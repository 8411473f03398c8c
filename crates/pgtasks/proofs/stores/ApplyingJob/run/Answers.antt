use Rattle.std.proofs.Common.{◌∙◌, ap, sym, subst}
use Rattle.std.specs.FinMap as map
use Rattle.pgsub_cli.proofs.PrintedOver.{prints_all_new}
use Rattle.pgtasks.proofs.stores.ApplyingJob.run.Goals as goal

pub returns : goal.returns
returns g c honest empty =
    let it = g.C.ReplicaStore in
    let told = c.args.self.told in
    let applied = c.apply_over-out in
    prints_all_new g.R.Input.gives g.R.Input.begins g.R.Input.failed (λ s. it.holds s.store) (λ s. it.place s.store) told.limits
    g.W.Output.takes g.W.Output.failed told.input c.new-store.result applied.result.1.1 c.args.self.out applied.result.0
    applied.result.1.0 (subst (λ s. it.holds s map.empty) (sym c.new-store.ensures) empty.held)
    (ap it.place c.new-store.ensures ∙ empty.position) (applied.ensures.prints.1 (honest applied.result.1.1.store))
