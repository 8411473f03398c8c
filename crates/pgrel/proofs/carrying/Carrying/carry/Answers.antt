use Rattle.std.proofs.Common.{◌≤◌, length, sym, subst}
use Rattle.pgtuple.specs.Limits.{IsTuple}
use Rattle.pgrel.proofs.CarriedRows.{placed_are_tuple}
use Rattle.pgrel.proofs.carrying.Carrying.carry.Goals as goal

pub from_vec-requires : goal.from_vec-requires
from_vec-requires c =
    let places = c.as_slice-places.result.now in
    let most = subst (λ ps. length ps ≤ 1600) (sym c.as_slice-places.ensures.value) c.self.invariant in
    subst IsTuple (sym c.loop-place.invariant)
    (placed_are_tuple c.args.row.now places c.loop-place.place-index c.width-width.ensures.limits most)
