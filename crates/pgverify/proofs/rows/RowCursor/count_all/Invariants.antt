use Rattle.std.proofs.Common.{IsSome}
use Rattle.sqlite_trees.specs.View.{IsClean, IsQuiet}
use Rattle.sqlite_exec.specs.Calls.{OnlyReads}
use Rattle.pgverify.specs.Seen.{HasGiven}
use Rattle.pgverify.proofs.rows.RowCursor.count_all.Given as goal

abbrev pub invariant-rows : goal.invariant-rows
invariant-rows g l =
    let old = g.S.Store.view l.fn.store in
    let now = g.S.Store.view l.store in
    IsSome (now.cursors 1) × (IsClean now → OnlyReads old now)
    × IsQuiet g.S.Store.view g.S.Store.faults g.S.Store.recovers g.S.Store.is_shielded l.fn.store l.store
    × (IsClean now → HasGiven old l.fn.self.row l.fn.self.count → HasGiven now l.self.row l.self.count)
