use Rattle.std.proofs.Common.{◌≡◌, ◌++◌, List, [], IsSome}
use Rattle.sqlite.specs.Order.{Row}
use Rattle.sqlite_trees.specs.View.{IsClean, IsQuiet}
use Rattle.sqlite_exec.specs.Calls.{OnlyReads}
use Rattle.sqlite_exec.specs.Loops.{left_of}
use Rattle.pgverify.proofs.walk.walk.Given as goal

abbrev pub invariant-entries : goal.invariant-entries
invariant-entries g l =
    let old = g.S.Store.view l.fn.store in
    let now = g.S.Store.view l.store in
    IsSome (now.cursors 0) × (IsClean now → OnlyReads old now)
    × IsQuiet g.S.Store.view g.S.Store.faults g.S.Store.recovers g.S.Store.is_shielded l.fn.store l.store
    × (IsClean now → g.V.TreeVisitor.has_seen l.fn.visitor l.fn.visitor []
    → (done : List Row) × g.V.TreeVisitor.has_seen l.fn.visitor l.visitor done × (done ++ left_of now 0 ≡ old.trees l.fn.tree))
