use Rattle.pgstore.proofs.Replicas.{stays_tables}
use Rattle.pgstore.proofs.replica.StoreReplicaStore.stage.Goals as goal

pub returns-clause-unchanged : goal.returns-clause-unchanged
returns-clause-unchanged g c serves = stays_tables g.S.Store c.args.self.now c.stage.new.self (c.stage.ensures.unchanged serves)

pub returns-clause-fault : goal.returns-clause-fault
returns-clause-fault g c serves = c.stage.ensures.fault serves.honest (c.stage.ensures.unchanged serves).served
