use Rattle.std.proofs.Common.{◌≡◌, ◌<◌}
use Rattle.pgspool.specs.Labels.{items_of, held_of}
use Rattle.pgsub_core.specs.Machine.Replica.{all_cached}
use Rattle.pgsub_core.specs.Calls.Parting.{part}
use Rattle.pgsub_core.proofs.parting.cache_part.Given as goal

abbrev pub invariant-loop-place : goal.invariant-loop-place
invariant-loop-place g l =
    let items = items_of (held_of (g.P.Spools.held l.spools) l.xid) in
    ((l.from < l.to → g.P.Spools.is_part l.spools l.xid l.from l.to)
    → all_cached l.book (part items l.place l.to) ≡ all_cached l.fn.book (part items l.from l.to))
