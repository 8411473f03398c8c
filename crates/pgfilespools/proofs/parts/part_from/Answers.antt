use Rattle.std.proofs.Common.{◌∙◌, sym, ap}
use Rattle.pgspool.specs.declared.first_place.FirstPlace.{FirstPlace}
use Rattle.pgfilespools.proofs.Parting.{part_bounds}
use Rattle.pgfilespools.proofs.parts.part_from.Goals as goal

pub returns : goal.returns
returns c held place bytes is =
    let same = ap (λ (p : FirstPlace). p.place) c.end.view_is in
    part_bounds held c.args.parts.now is c.partition_point-next.result c.args.from c.place_before-first.result c.place_at.result c.args.end
    place bytes
    (sym (ap (λ (p : FirstPlace). p.place) c.first.view_is) ∙ c.if-first-from.false)
    (λ e. c.if-from-end.false (e ∙ sym same))
    (c.place_before-first.ensures.place held is)
    (λ p there. c.place_before-first.ensures.before held p is there)
    c.place_at.ensures
