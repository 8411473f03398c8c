use Rattle.std.proofs.Common.{◌+◌, [], drop, ap, sym, ◌∙◌, inl, inr, Ok, arith}
use Rattle.std.proofs.lemmas.Bool.Decides.{nat_tests}
use Rattle.pgspool.specs.Labels.{items_of, held_of}
use Rattle.pgsub_core.specs.Server.Described.{described_from}
use Rattle.pgsub_core.specs.Machine.Replica.{RelationCache, all_cached}
use Rattle.pgsub_core.specs.Calls.Drafts.{known_to, behind_changes}
use Rattle.pgsub_core.proofs.DescribedChanges.{item_at, items-length, lacks_behind, on_residual}
use Rattle.pgsub_core.proofs.DescribedChanges.{described_whole}
use Rattle.pgsub_core.proofs.Beside.{of_described}
use Rattle.pgsub_core.proofs.describing.describe.Goals as goal

pub loop-place-preserved : goal.loop-place-preserved
loop-place-preserved g c = (
  λ loaded.
      let held = held_of (g.P.Spools.held c.args.spools.now) c.args.xid in
      let next = item_at held c.loop-place.place c.unwrap-item.result (sym c.unwrap-item.ensures ∙ c.item.ensures.value loaded) in
      let left = drop (c.loop-place.place + 1) (items_of held) in
      let was = c.loop-place.invariant.0 loaded in (
        c.in_ok-describe_item.ensures.changes left
            ∙ ap (λ items. behind_changes c.loop-place.draft.work.changes (described_from (known_to c.loop-place.book) items)) (sym next)
            ∙ was.0,
        ap (λ (book : RelationCache). all_cached book left) c.in_ok-describe_item.ensures.cached
            ∙ sym (ap (all_cached c.loop-place.book) next) ∙ was.1,
      ),
  c.in_ok-describe_item.ensures.numbers,
)

pub returns-in_err-describe_item-clause-refused : goal.returns-in_err-describe_item-clause-refused
returns-in_err-describe_item-clause-refused g c loaded =
    let held = held_of (g.P.Spools.held c.args.spools.now) c.args.xid in
    let next = item_at held c.loop-place.place c.unwrap-item.result (sym c.unwrap-item.ensures ∙ c.item.ensures.value loaded) in
    on_residual c.from_residual.result c.in_err-describe_item.field-0.0 _ c.from_residual.ensures.1
    (elim c.in_err-describe_item.ensures.refused [
      | inl memory ↦ inl memory
      | inr lacks ↦ inr (lacks_behind c.loop-place.draft.work.changes []
          (described_from (known_to c.loop-place.book) (drop c.loop-place.place (items_of held)))
          (described_from (known_to c.args.book.now) (items_of held)) c.in_err-describe_item.field-0.0
          (c.loop-place.invariant.0 loaded).0 (rw next (lacks (drop (c.loop-place.place + 1) (items_of held)))))
    ])

pub returns-in_err-describe_item-clause-own : goal.returns-in_err-describe_item-clause-own
returns-in_err-describe_item-clause-own g c =
    on_residual c.from_residual.result c.in_err-describe_item.field-0.0 _ c.from_residual.ensures.1
    (elim c.in_err-describe_item.ensures.refused [
      | inl memory ↦ of_described (Ok []) c.in_err-describe_item.field-0.0 (inl memory)
      | inr lacks ↦ of_described _ c.in_err-describe_item.field-0.0 (inr (lacks []))
    ])

pub returns-clause-changes : goal.returns-clause-changes
returns-clause-changes g c loaded =
    let held = held_of (g.P.Spools.held c.args.spools.now) c.args.xid in
    let counted = items-length held in
    let end = c.count-place-end.ensures in
    let test = c.loop-place-test.false in
    described_whole c.loop-place.draft.work.changes (known_to c.loop-place.book) (items_of held) c.loop-place.place _
    (grind (arith, nat_tests)) (c.loop-place.invariant.0 loaded).0
