use Rattle.pgstore.proofs.Replicas.{holds_with_position, if_ok, stays_tables}
use Rattle.pgstore.proofs.replica.StoreReplicaStore.each_row.Goals as goal

pub returns-clause-front : goal.returns-clause-front
returns-clause-front g c honest tables h =
    c.each_row.ensures.front honest (record { tables = tables; position = c.args.self.now.position })
    (holds_with_position g.S.Store c.args.self.now tables h)

pub returns-clause-all : goal.returns-clause-all
returns-clause-all g c honest = if_ok c.each_row.result.0 _ _ (c.each_row.ensures.all honest) (λ all gives whole tables h.
    gives whole (record { tables = tables; position = c.args.self.now.position }) (holds_with_position g.S.Store c.args.self.now tables h))

pub returns-clause-unchanged : goal.returns-clause-unchanged
returns-clause-unchanged g c serves = stays_tables g.S.Store c.args.self.now c.each_row.new.self (c.each_row.ensures.unchanged serves)
