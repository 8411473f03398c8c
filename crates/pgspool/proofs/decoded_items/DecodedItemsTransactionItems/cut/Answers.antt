use Rattle.std.proofs.Common.{◌∙◌}
use Rattle.pgspool.proofs.FirstPlaceLemmas.{TellsCut}
use Rattle.pgspool.proofs.IndexLemmas.{AreIndexed-cut, tells_cut, cut_none, left_of_cut}
use Rattle.pgspool.proofs.decoded_items.DecodedItemsTransactionItems.cut.Goals.{In-Some}
use Rattle.pgspool.proofs.decoded_items.DecodedItemsTransactionItems.cut.Goals as goal

pub returns-in_default-clause-held : goal.returns-in_default-clause-held
returns-in_default-clause-held c = rw (← c.self.view_is) (cut_none _ _ _ c.args.subxid c.self.invariant c.in_default.ensures.value)

tells : (c : In-Some) → TellsCut c.args.subxid c.self.inside.items.items c.self.inside.firsts.entries c.in-Some.index c.in-Some.first.now
tells c = tells_cut _ _ _ c.args.subxid c.in-Some.index _ c.in-Some.first.now c.self.invariant c.in-Some.ensures.value
    c.in-Some.ensures.index c.in-Some.ensures.entry

pub overflow_sub-freed : goal.overflow_sub-freed
overflow_sub-freed c = (left_of_cut c.args.subxid c.self.inside.items.items _ _ c.self.invariant.counted (tells c).bytes).0

pub invariant_of-self : goal.invariant_of-self
invariant_of-self c =
    let t = tells (goal.at.invariant_of-self c).In-Some in
    AreIndexed-cut c.self.inside.items.items _ _ c.args.subxid c.self.invariant _ _ _ (c.truncate.ensures.items ∙ t.kept)
    (c.truncate-2.ensures.entries ∙ t.before) t.bytes

pub returns-clause-held : goal.returns-clause-held
returns-clause-held c =
    let t = tells (goal.at.returns-clause-held c).In-Some in
    rw (← c.self.view_is) (c.give_back_all.ensures ∙ c.truncate.ensures.items ∙ t.kept)

pub returns-clause-freed : goal.returns-clause-freed
returns-clause-freed c =
    let t = tells (goal.at.returns-clause-freed c).In-Some in
    let freed = (left_of_cut c.args.subxid c.self.inside.items.items _ _ c.self.invariant.counted t.bytes).1 in
    rw (c.give_back_all.ensures ∙ c.truncate.ensures.items ∙ t.kept, ← c.self.view_is) freed
