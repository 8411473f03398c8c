use Rattle.std.proofs.Common.{◌≡◌, Some}
use Rattle.sqlite_trees.specs.View.{IsClean, IsQuiet}
use Rattle.pgtables.specs.Kept.{without_rows}
use Rattle.pgrows.specs.Rows.{IsUnder, Keeps, tables_of}
use Rattle.pgrows.proofs.relation.clear.Given as goal

abbrev pub invariant-loop : goal.invariant-loop
invariant-loop g l =
    (IsClean (g.S.Store.view l.store) → IsUnder (g.S.Store.view l.store) (Some l.top))
    × (IsClean (g.S.Store.view l.store)
    → without_rows l.oid (tables_of g.S.Store l.store) ≡ without_rows l.oid (tables_of g.S.Store l.fn.store))
    × (IsClean (g.S.Store.view l.store) → Keeps g.S.Store l.fn.store l.store)
    × IsQuiet g.S.Store.view g.S.Store.faults g.S.Store.recovers g.S.Store.is_shielded l.fn.store l.store
