use Rattle.std.proofs.Common.{◌≡◌, ◌-◌, ◌≤◌, drop}
use Rattle.std.specs.Prelude.{IsTrue}
use Rattle.pgspool.specs.Labels.{items_of, held_of}
use Rattle.pgsub_core.specs.Machine.Replica.{all_cached}
use Rattle.pgsub_core.proofs.PartChanges.{AreKept}
use Rattle.pgsub_core.proofs.parting.cache_parts.Given as goal

abbrev pub invariant-loop-from : goal.invariant-loop-from
invariant-loop-from g l =
    let it = g.P.Spools in
    let items = items_of (held_of (it.held l.fn.spools) l.xid) in
    AreKept it.held it.most it.is_honest l.fn.spools l.spools
    × ((l.from ≤ l.end)
    × (IsTrue (it.is_honest l.spools) → all_cached l.book (drop l.from items) ≡ all_cached l.fn.book items))

abbrev pub decreases-loop-from : goal.decreases-loop-from
decreases-loop-from g l = l.end - l.from
