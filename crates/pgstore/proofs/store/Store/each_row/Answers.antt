use Rattle.pgstore.specs.Sources.{rows_in}
use Rattle.pgstore.proofs.Groups.{unstaged_empty}
use Rattle.pgstore.proofs.Stores.{read_left, stays_store}
use Rattle.pgstore.proofs.store.Store.each_row.Goals as goal

pub invariant_of-self : goal.invariant_of-self
invariant_of-self g c = (
  c.give_rows.ensures.source,
  stays_store g.S.Store (rows_in c.self.inside.source) (rows_in c.give_rows.new.source) c.self.inside.position
      c.give_rows.ensures.crash.clean c.give_rows.ensures.commit c.self.invariant.1
      (read_left g.S.Store (rows_in c.self.inside.source) (rows_in c.give_rows.new.source) c.self.inside.position c.give_rows.ensures.crash)
      g.met.S.Store.settled,
  unstaged_empty g.S.Store (rows_in c.give_rows.new.source) c.self.inside.position c.self.invariant.1.range c.unstage.new.self
      c.self.inside.group c.unstage.ensures,
)

pub returns-clause-formed : goal.returns-clause-formed
returns-clause-formed g c clean = c.give_rows.ensures.formed clean c.self.invariant.1.stored
