use Rattle.std.proofs.Common.{◌<◌, ◌+◌, [], ap, sym, ◌∙◌, inl, inr, Ok, arith}
use Rattle.pgspool.specs.Labels.{items_of, held_of}
use Rattle.pgsub_core.specs.Server.Described.{described_from}
use Rattle.pgsub_core.specs.Machine.Replica.{RelationCache, all_cached}
use Rattle.pgsub_core.specs.Calls.Drafts.{known_to, behind_changes}
use Rattle.pgsub_core.specs.Calls.Parting.{part}
use Rattle.pgsub_core.proofs.DescribedChanges.{item_at, lacks_behind, on_residual}
use Rattle.pgsub_core.proofs.PartChanges.{part_at, part_end, described_part}
use Rattle.pgsub_core.proofs.Beside.{of_described}
use Rattle.pgsub_core.proofs.parting.describe_part.Goals as goal

pub loop-place-preserved : goal.loop-place-preserved
loop-place-preserved g c = (
  λ read.
      let less : c.loop-place.place < c.args.to = c.loop-place-test.true in
      let wide : c.args.from < c.args.to = omega (arith, c.loop-place.auto.place) in
      let held = held_of (g.P.Spools.held c.args.spools.now) c.args.xid in
      let at = item_at held c.loop-place.place c.unwrap-item.result
      (sym c.unwrap-item.ensures ∙ c.part_item.ensures.value c.args.from c.args.to (read wide) c.loop-place.auto.place less) in
      let next = part_at (items_of held) c.loop-place.place c.args.to c.unwrap-item.result less at in
      let left = part (items_of held) (c.loop-place.place + 1) c.args.to in
      let was = c.loop-place.invariant.0 read in (
        c.in_ok-describe_item.ensures.changes left
            ∙ ap (λ items. behind_changes c.loop-place.draft.work.changes (described_from (known_to c.loop-place.book) items)) (sym next)
            ∙ was.0,
        ap (λ (book : RelationCache). all_cached book left) c.in_ok-describe_item.ensures.cached
            ∙ sym (ap (all_cached c.loop-place.book) next) ∙ was.1,
      ),
  c.in_ok-describe_item.ensures.numbers,
)

pub returns-in_err-describe_item-clause-refused : goal.returns-in_err-describe_item-clause-refused
returns-in_err-describe_item-clause-refused g c read =
    let less : c.loop-place.place < c.args.to = c.loop-place-test.true in
    let wide : c.args.from < c.args.to = omega (arith, c.loop-place.auto.place) in
    let held = held_of (g.P.Spools.held c.args.spools.now) c.args.xid in
    let at = item_at held c.loop-place.place c.unwrap-item.result
    (sym c.unwrap-item.ensures ∙ c.part_item.ensures.value c.args.from c.args.to (read wide) c.loop-place.auto.place less) in
    let next = part_at (items_of held) c.loop-place.place c.args.to c.unwrap-item.result less at in
    on_residual c.from_residual.result c.in_err-describe_item.field-0.0 _ c.from_residual.ensures.1
    (elim c.in_err-describe_item.ensures.refused [
      | inl memory ↦ inl memory
      | inr lacks ↦ inr (lacks_behind c.loop-place.draft.work.changes []
          (described_from (known_to c.loop-place.book) (part (items_of held) c.loop-place.place c.args.to))
          (described_from (known_to c.args.book.now) (part (items_of held) c.args.from c.args.to)) c.in_err-describe_item.field-0.0
          (c.loop-place.invariant.0 read).0 (rw next (lacks (part (items_of held) (c.loop-place.place + 1) c.args.to))))
    ])

pub returns-in_err-describe_item-clause-own : goal.returns-in_err-describe_item-clause-own
returns-in_err-describe_item-clause-own g c =
    on_residual c.from_residual.result c.in_err-describe_item.field-0.0 _ c.from_residual.ensures.1
    (elim c.in_err-describe_item.ensures.refused [
      | inl memory ↦ of_described (Ok []) c.in_err-describe_item.field-0.0 (inl memory)
      | inr lacks ↦ of_described _ c.in_err-describe_item.field-0.0 (inr (lacks []))
    ])

pub returns-clause-changes : goal.returns-clause-changes
returns-clause-changes g c read =
    let items = items_of (held_of (g.P.Spools.held c.args.spools.now) c.args.xid) in
    described_part c.loop-place.draft.work.changes c.loop-place.book items c.loop-place.place c.args.to _
    (omega (arith, c.loop-place-test.false)) (c.loop-place.invariant.0 read).0

pub returns-clause-cached : goal.returns-clause-cached
returns-clause-cached g c read =
    let items = items_of (held_of (g.P.Spools.held c.args.spools.now) c.args.xid) in
    ap (all_cached c.loop-place.book) (sym (part_end items c.loop-place.place c.args.to (omega (arith, c.loop-place-test.false))))
    ∙ (c.loop-place.invariant.0 read).1
