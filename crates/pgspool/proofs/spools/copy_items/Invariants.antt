use Rattle.std.proofs.Common.{◌≡◌, take}
use Rattle.pgspool.specs.Labels.{items_of, held_of}
use Rattle.pgspool.proofs.spools.copy_items.Given as goal

abbrev pub invariant-loop-place : goal.invariant-loop-place
invariant-loop-place g l =
    g.P.Spools.is_loaded l.spools l.xid → l.copies.items ≡ take l.place (items_of (held_of (g.P.Spools.held l.spools) l.xid))
