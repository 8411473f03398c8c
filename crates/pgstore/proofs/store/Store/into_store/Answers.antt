use Rattle.std.proofs.Common.{subst, sym}
use Rattle.sqlite.specs.Held.{AreDatabases}
use Rattle.sqlite.specs.State.{HasCleanDisk}
use Rattle.pgapply.specs.Stored.{Stored}
use Rattle.pgrows.specs.Rows.{IfServing, state}
use Rattle.pgencoded.specs.DatabaseValue.{AreOf}
use Rattle.pgstore.specs.Sources.{rows_in}
use Rattle.pgstore.specs.StoreValue.{Holds, StoreValue}
use Rattle.pgstore.proofs.Stores.{committed_trees, left_databases}
use Rattle.pgstore.proofs.store.Store.into_store.Goals as goal

pub returns-clause-found : goal.returns-clause-found
returns-clause-found g c =
    subst (λ s. HasCleanDisk (state g.S.Store s) → AreDatabases (state g.S.Store s).may_leave) (sym c.into_store.ensures)
    (left_databases g.S.Store (rows_in c.self.inside.source) c.into_rows.result c.self.inside.position c.self.invariant.1.keeps
    c.into_rows.ensures.survives)

pub returns-clause-holds : goal.returns-clause-holds
returns-clause-holds g c =
    let new = c.into_store.result in
    subst (λ (s : StoreValue g.row.S.Denot). IfServing g.S.Store new ((v : Stored) → Holds g.S.Store s v
    → AreOf v (state g.S.Store s.rows).committed.trees)) c.self.view_is
    (committed_trees g.S.Store (rows_in c.self.inside.source) new c.self.inside.position c.self.inside.group c.self.invariant.1
    (rw c.into_store.ensures c.into_rows.ensures.survives.clean)
    (rw c.into_store.ensures (λ clean still. (c.into_rows.ensures.begun clean still).0)))
