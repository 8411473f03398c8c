use Rattle.std.proofs.Common.{◌++◌, ◌∷◌, [], ◌∙◌, sym}
use Rattle.pgspool.specs.Labels.{held_of}
use Rattle.pgspool.proofs.CopiedItems.{taken_item}
use Rattle.pgspool.proofs.spools.copy_items.Goals as goal

pub loop-place-preserved : goal.loop-place-preserved
loop-place-preserved g c = λ loaded.
    let read = sym c.unwrap-item.ensures ∙ c.item.ensures.value loaded in
    c.in_ok-push.ensures.items
    ∙ (λ i. c.loop-place.invariant loaded i ++ c.in_ok-to_item.ensures.same i ∷ [])
    ∙ taken_item (held_of (g.P.Spools.held c.args.spools.now) c.args.xid) c.loop-place.place c.unwrap-item.result read
