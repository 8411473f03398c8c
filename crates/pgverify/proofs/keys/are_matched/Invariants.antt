use Rattle.std.proofs.Common.{IsSome}
use Rattle.sqlite_trees.specs.View.{IsClean, IsQuiet}
use Rattle.sqlite_exec.specs.Calls.{OnlyReads}
use Rattle.sqlite_exec.specs.Loops.{left_of}
use Rattle.pgverify.specs.Seen.{HasGiven}
use Rattle.pgverify.proofs.Matching.{IsMatching}
use Rattle.pgverify.proofs.keys.are_matched.Given as goal

abbrev pub invariant-entries : goal.invariant-entries
invariant-entries g l =
    let old = g.S.Store.view l.fn.store in
    let now = g.S.Store.view l.store in
    IsSome (now.cursors 0) × IsSome (now.cursors 1) × (IsClean now → OnlyReads old now)
    × IsQuiet g.S.Store.view g.S.Store.faults g.S.Store.recovers g.S.Store.is_shielded l.fn.store l.store
    × (IsClean now → HasGiven now l.rows.row l.rows.count)
    × (IsClean now → IsMatching g.C.RowCheck.accepts l.check (old.trees 1) (old.trees 2) l.last (left_of now 0) l.count)
