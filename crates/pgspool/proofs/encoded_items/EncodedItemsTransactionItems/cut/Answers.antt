use Rattle.std.proofs.Common.{◌+◌, ◌-◌, ap, ◌∙◌}
use Rattle.std.specs.Prelude.{slice_get}
use Rattle.pgspool.specs.Labels.{cut, costs}
use Rattle.pgspool.specs.Marks.{start_or, held_in}
use Rattle.pgspool.specs.AreEncoded.{AreEncoded}
use Rattle.pgspool.proofs.FirstPlaceLemmas.{TellsCut}
use Rattle.pgspool.proofs.IndexLemmas.{tells_cut, cut_none, left_of_cut}
use Rattle.pgspool.proofs.EncodedLemmas.{cut_off, seen, kept}
use Rattle.pgspool.proofs.encoded_items.EncodedItemsTransactionItems.cut.Goals.{In-Some}
use Rattle.pgspool.proofs.encoded_items.EncodedItemsTransactionItems.cut.Goals.{After-truncate-3}
use Rattle.pgspool.proofs.encoded_items.EncodedItemsTransactionItems.cut.Goals as goal

pub returns-in_default-clause-held : goal.returns-in_default-clause-held
returns-in_default-clause-held c = rw (← c.self.view_is) (cut_none _ _ _ c.args.subxid c.self.invariant.index c.in_default.ensures.value)

tells : (c : In-Some) → TellsCut c.args.subxid (held_in c.self.inside.marks.items c.self.inside.buffer.items) c.self.inside.firsts.entries
    c.in-Some.index c.in-Some.first.now
tells c = tells_cut _ _ _ c.args.subxid c.in-Some.index _ c.in-Some.first.now c.self.invariant.index c.in-Some.ensures.value
    c.in-Some.ensures.index c.in-Some.ensures.entry

pub overflow_sub-freed : goal.overflow_sub-freed
overflow_sub-freed c = (left_of_cut c.args.subxid _ _ _ c.self.invariant.index.counted (tells c).bytes).0

after : (c : After-truncate-3)
    → TellsCut c.args.subxid (held_in c.self.inside.marks.items c.self.inside.buffer.items) c.self.inside.firsts.entries c.in-Some.index
    c.in-Some.first.now → AreEncoded (cut c.args.subxid (held_in c.self.inside.marks.items c.self.inside.buffer.items))
    c.truncate-2.new.self.items c.truncate.new.self.items c.truncate-3.new.self.entries c.in-Some.first.now.bytes
after c t =
    let start = c.start_of-start.ensures
    ∙ (λ i. start_or ((c.len.ensures ∙ c.self.inside.buffer.ok.0) i)
    (slice_get (c.as_slice.ensures.value i) c.in-Some.first.now.place)) in
    rw (c.truncate-2.ensures.items, c.truncate.ensures.items)
    (cut_off _ _ _ _ _ c.self.invariant c.args.subxid c.in-Some.first.now.place c.start_of-start.result c.truncate-3.new.self.entries
    c.in-Some.first.now.bytes t.kept (c.truncate-3.ensures.entries ∙ t.before) t.bytes start)

pub invariant_of-self : goal.invariant_of-self
invariant_of-self c = kept _ _ _ _ _ (after (goal.at.invariant_of-self c).After-truncate-3 (tells (goal.at.invariant_of-self c).In-Some))

pub returns-clause-held : goal.returns-clause-held
returns-clause-held c = c.give_back_all.ensures
    ∙ seen _ _ _ _ _ (after (goal.at.returns-clause-held c).After-truncate-3 (tells (goal.at.returns-clause-held c).In-Some))
    ∙ ap (cut c.args.subxid) c.self.view_is

pub returns-clause-freed : goal.returns-clause-freed
returns-clause-freed c =
    let t = tells (goal.at.returns-clause-freed c).In-Some in
    ap (λ held. costs held + (c.self.inside.bytes - c.in-Some.first.now.bytes)) c.give_back_all.ensures
    ∙ ap (λ held. costs held + (c.self.inside.bytes - c.in-Some.first.now.bytes))
    (seen _ _ _ _ _ (after (goal.at.returns-clause-freed c).After-truncate-3 t))
    ∙ (left_of_cut c.args.subxid _ _ _ c.self.invariant.index.counted t.bytes).1 ∙ ap costs c.self.view_is
