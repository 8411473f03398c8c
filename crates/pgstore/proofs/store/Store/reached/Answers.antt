use Rattle.std.proofs.Common.{◌≡◌, subst}
use Rattle.pgapply.specs.Taken as taken
use Rattle.pgapply.specs.Value.{Tables}
use Rattle.pgstore.specs.Sources.{rows_in}
use Rattle.pgstore.specs.StoreValue.{HasTables, Plans, Serves, StoreValue}
use Rattle.pgstore.proofs.Groups.{held_begins, held_is, some_planned}
use Rattle.pgstore.proofs.store.Store.reached.Goals as goal

pub returns-clause-settled : goal.returns-clause-settled
returns-clause-settled g c =
    subst (λ (s : StoreValue g.row.S.Denot). s.group.reach ≡ s.position → taken.Settles (HasTables g.S.Store) (Plans g.S.Store) s s)
    c.self.view_is
    (held_is g.S.Store (record { rows = rows_in c.self.inside.source; position = c.self.inside.position; group = c.self.inside.group })
    c.self.invariant.2)

pub returns-clause-begins : goal.returns-clause-begins
returns-clause-begins g c =
    subst (λ (s : StoreValue g.row.S.Denot). s.group.reach ≡ s.position → taken.Begins (HasTables g.S.Store) (Plans g.S.Store) s s)
    c.self.view_is
    (held_begins g.S.Store (record { rows = rows_in c.self.inside.source; position = c.self.inside.position; group = c.self.inside.group })
    c.self.invariant.2)

pub returns-clause-plans : goal.returns-clause-plans
returns-clause-plans g c =
    subst (λ (s : StoreValue g.row.S.Denot). Serves g.S.Store s → (t : Tables) × Plans g.S.Store s t) c.self.view_is
    (some_planned g.S.Store (rows_in c.self.inside.source) c.self.inside.position c.self.inside.group c.self.invariant.1 c.self.invariant.2)
