use Rattle.std.proofs.Common.{◌≡◌, ◌+◌, Some, false, List, ℕ, ap, sym, ◌∙◌, arith, length}
use Rattle.std.proofs.Common.{slice_get}
use Rattle.std.specs.Prelude.{option_map, slice_range}
use Rattle.pglogical.specs.Reading.{message_at}
use Rattle.pgspool.specs.Labels.{LabelledItem}
use Rattle.pgspool.specs.Marks.{start_or, item_at_all}
use Rattle.pgspool.proofs.EncodedLemmas.{IsItemAt, item_at, count_is, none_there, spellable_there}
use Rattle.pgspool.proofs.encoded_items.EncodedItemsTransactionItems.item.Goals.{After-start_of-end}
use Rattle.pgspool.proofs.encoded_items.EncodedItemsTransactionItems.item.Goals.{After-read_item}
use Rattle.pgspool.proofs.encoded_items.EncodedItemsTransactionItems.item.Goals as goal

pub returns-then-index-len-clause-value : goal.returns-then-index-len-clause-value
returns-then-index-len-clause-value c =
    let held = c.args.self.now in
    let count : length c.self.inside.marks.items ≡ length held = count_is _ _ _ _ _ c.self.invariant ∙ ap length c.self.view_is in
    sym (ap (option_map (λ (l : LabelledItem). l.1))
    (none_there c.args.index held (omega (arith, count, c.len.ensures, c.self.inside.marks.ok.0))))

here : (c : After-start_of-end) → IsItemAt _ _ _ _ _ c.self.invariant c.args.index c.start_of-start.result c.start_of-end.result
here c =
    item_at _ _ _ _ _ c.self.invariant c.args.index c.start_of-start.result c.start_of-end.result
    (omega (arith, c.if-index-len.false, c.len.ensures, c.self.inside.marks.ok.0))
    (c.start_of-start.ensures
    ∙ (λ i. start_or ((c.len-len.ensures ∙ c.self.inside.buffer.ok.0) i) (slice_get (c.as_slice.ensures.value i) c.args.index)))
    (c.start_of-end.ensures ∙ (λ i.
    start_or ((c.len-len.ensures ∙ c.self.inside.buffer.ok.0) i) (slice_get (c.as_slice-2.ensures.value i) (c.args.index + 1))))

pub part-requires-clause-order : goal.part-requires-clause-order
part-requires-clause-order c = (here (goal.at.part-requires-clause-order c).After-start_of-end).order

pub part-requires-clause-inside : goal.part-requires-clause-inside
part-requires-clause-inside c = rw c.as_slice-3.ensures.value (here (goal.at.part-requires-clause-inside c).After-start_of-end).inside

pub returns-clause-value : goal.returns-clause-value
returns-clause-value c =
    let h = here (goal.at.returns-clause-value c).After-start_of-end in
    let bytes = c.part.ensures ∙ ap (λ (b : List ℕ). slice_range b c.start_of-start.result c.start_of-end.result) c.as_slice-3.ensures.value
    ∙ h.part in
    let read : c.read_item.result ≡ Some h.item.1 =
    c.read_item.ensures ∙ ap (λ (b : List ℕ). item_at_all (message_at false b)) bytes ∙ ap item_at_all h.readable in
    let held = ap (λ (l : List LabelledItem). slice_get l c.args.index) (sym c.self.view_is) ∙ h.found in
    read ∙ sym (ap (option_map (λ (l : LabelledItem). l.1)) held)

pub returns-clause-spellable : goal.returns-clause-spellable
returns-clause-spellable c =
    let h = here (goal.at.returns-clause-spellable c).After-start_of-end in
    let bytes = c.part.ensures ∙ ap (λ (b : List ℕ). slice_range b c.start_of-start.result c.start_of-end.result) c.as_slice-3.ensures.value
    ∙ h.part in
    let read : c.read_item.result ≡ Some h.item.1 =
    c.read_item.ensures ∙ ap (λ (b : List ℕ). item_at_all (message_at false b)) bytes ∙ ap item_at_all h.readable in
    rw read (spellable_there c.args.index _ h.item c.self.invariant.index.spellable h.found)
