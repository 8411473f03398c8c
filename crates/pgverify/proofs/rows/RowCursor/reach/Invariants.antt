use Rattle.std.proofs.Common.{IsSome}
use Rattle.sqlite_trees.specs.View.{IsClean, IsQuiet, StayLive}
use Rattle.sqlite_exec.specs.Calls.{ReadsFrom}
use Rattle.pgverify.specs.Seen.{HasGiven}
use Rattle.pgverify.proofs.rows.RowCursor.reach.Given as goal

abbrev pub invariant-rows : goal.invariant-rows
invariant-rows g l =
    let old = g.S.Store.view l.fn.store in
    let now = g.S.Store.view l.store in
    IsSome (now.cursors 1) × StayLive old now × (IsClean now → ReadsFrom 1 old now)
    × IsQuiet g.S.Store.view g.S.Store.faults g.S.Store.recovers g.S.Store.is_shielded l.fn.store l.store
    × (IsClean now → HasGiven old l.fn.self.row l.fn.self.count → HasGiven now l.self.row l.self.count)
