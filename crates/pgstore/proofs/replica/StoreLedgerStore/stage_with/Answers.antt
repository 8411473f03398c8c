use Rattle.pgstore.proofs.Replicas.{stays_tables}
use Rattle.pgstore.proofs.replica.StoreLedgerStore.stage_with.Goals as goal

pub returns-clause-unchanged : goal.returns-clause-unchanged
returns-clause-unchanged g c serves = stays_tables g.S.Store c.args.self.now c.stage_with.new.self (c.stage_with.ensures.unchanged serves)

pub returns-clause-fault : goal.returns-clause-fault
returns-clause-fault g c serves = c.stage_with.ensures.fault serves.honest (c.stage_with.ensures.unchanged serves).served
