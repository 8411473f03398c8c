use Rattle.pgstore.proofs.Replicas.{stays_tables, shows_tables, if_ok}
use Rattle.pgstore.proofs.replica.StoreReplicaStore.rows.Goals as goal

pub returns-clause-rows : goal.returns-clause-rows
returns-clause-rows g c serves =
    if_ok c.rows.result _ _ (c.rows.ensures.rows serves.honest) (λ rows. shows_tables g.S.Store c.args.self.now rows.items)

pub returns-clause-unchanged : goal.returns-clause-unchanged
returns-clause-unchanged g c serves = stays_tables g.S.Store c.args.self.now c.rows.new.self (c.rows.ensures.unchanged serves)
