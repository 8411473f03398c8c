use Rattle.pgstore.proofs.Replicas.{leaves_synced, on_err, stays_tables}
use Rattle.pgstore.proofs.replica.StoreLedgerStore.settle_with.Goals as goal

pub returns-clause-unchanged : goal.returns-clause-unchanged
returns-clause-unchanged g c serves =
    on_err c.settle_with.result _ _ (c.settle_with.ensures.unchanged serves) (stays_tables g.S.Store c.args.self.now c.settle_with.new.self)

pub returns-clause-crash : goal.returns-clause-crash
returns-clause-crash g c honest =
    leaves_synced g.S.Store _ _ c.args.self.now c.settle_with.new.self c.settle_with.ensures.commits_synced c.reached-staged.ensures.plans
    honest
