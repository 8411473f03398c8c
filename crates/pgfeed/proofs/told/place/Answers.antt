use Rattle.std.proofs.Common.{◌∙◌, sym}
use Rattle.pgfeed.proofs.Places.{place_before, place_later}
use Rattle.pgfeed.proofs.told.place.Goals as goal

pub returns-then-is_some : goal.returns-then-is_some
returns-then-is_some c =
    c.if_there.ensures
    ∙ place_later c.args.told.now c.args.fresh.now c.args.def.now c.newest-by_this.result c.newest-by_this.ensures
    (sym c.is_some.ensures ∙ c.if-is_some.true)

pub returns : goal.returns
returns c =
    c.if_there-2.ensures
    ∙ place_before c.args.told.now c.args.fresh.now c.args.def.now c.newest-by_this.result c.newest-before.result c.newest-by_this.ensures
    (sym c.is_some.ensures ∙ c.if-is_some.false) c.newest-before.ensures
