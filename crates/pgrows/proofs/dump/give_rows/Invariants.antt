use Rattle.std.specs.Prelude.{IsSome}
use Rattle.sqlite_trees.specs.View.{IsClean, IsQuiet}
use Rattle.pgrows.proofs.Given.{IsGiving}
use Rattle.pgrows.proofs.dump.give_rows.Given as goal

abbrev pub invariant-loop : goal.invariant-loop
invariant-loop g l =
    (IsClean (g.S.Store.view l.store)
    → IsGiving (g.S.Store.view l.fn.store) (g.S.Store.view l.store) (λ start. g.T.RowSink.has_taken start l.fn.sink)
    (λ start. g.T.RowSink.has_taken start l.sink) l.definition l.known)
    × IsSome ((g.S.Store.view l.store).cursors 0)
    × IsQuiet g.S.Store.view g.S.Store.faults g.S.Store.recovers g.S.Store.is_shielded l.fn.store l.store
