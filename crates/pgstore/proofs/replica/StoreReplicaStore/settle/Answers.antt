use Rattle.pgstore.proofs.Replicas.{leaves_staged, on_err, stays_tables}
use Rattle.pgstore.proofs.replica.StoreReplicaStore.settle.Goals as goal

pub returns-clause-unchanged : goal.returns-clause-unchanged
returns-clause-unchanged g c serves =
    on_err c.settle.result _ _ (c.settle.ensures.unchanged serves) (stays_tables g.S.Store c.args.self.now c.settle.new.self)

pub returns-clause-crash : goal.returns-clause-crash
returns-clause-crash g c honest =
    leaves_staged g.S.Store c.args.self.now c.settle.new.self c.settle.ensures.crash c.reached-staged.ensures.plans honest
