use Rattle.std.proofs.Common.{◌∙◌, sym}
use Rattle.pgfeed.proofs.Places.{no_place, one_place}
use Rattle.pgfeed.proofs.told.newest.Goals as goal

pub returns-then-is_some : goal.returns-then-is_some
returns-then-is_some c =
    one_place _ _ c.in-Some.other.now c.args.def.now c.place-place.result c.in-Some.ensures.steps c.place-place.ensures
    (sym c.is_some.ensures ∙ c.if-is_some.true) ∙ c.loop-other.invariant

pub loop-other-preserved : goal.loop-other-preserved
loop-other-preserved c =
    no_place _ _ c.in-Some.other.now c.args.def.now c.place-place.result c.in-Some.ensures.steps c.place-place.ensures
    (sym c.is_some.ensures ∙ c.if-is_some.false) ∙ c.loop-other.invariant
