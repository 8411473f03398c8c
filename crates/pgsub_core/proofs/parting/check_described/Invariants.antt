use Rattle.std.proofs.Common.{◌-◌, ◌≤◌}
use Rattle.std.specs.Prelude.{IsTrue}
use Rattle.pgspool.specs.Labels.{items_of, held_of}
use Rattle.pgsub_core.proofs.PartChanges.{AreKept, Comes}
use Rattle.pgsub_core.proofs.parting.check_described.Given as goal

abbrev pub invariant-loop-from : goal.invariant-loop-from
invariant-loop-from g l =
    let it = g.P.Spools in
    AreKept it.held it.most it.is_honest l.fn.spools l.spools
    × ((l.from ≤ l.end)
    × (IsTrue (it.is_honest l.spools) → Comes l.fn.book (items_of (held_of (it.held l.fn.spools) l.xid)) l.book l.from))

abbrev pub decreases-loop-from : goal.decreases-loop-from
decreases-loop-from g l = l.end - l.from
