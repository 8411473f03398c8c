use Rattle.std.proofs.Common.{◌<◌, ◌+◌, ap, sym, ◌∙◌, arith}
use Rattle.pgspool.specs.Labels.{items_of, held_of}
use Rattle.pgsub_core.specs.Machine.Replica.{RelationCache, all_cached}
use Rattle.pgsub_core.specs.Calls.Parting.{part}
use Rattle.pgsub_core.proofs.DescribedChanges.{item_at}
use Rattle.pgsub_core.proofs.PartChanges.{part_at, part_end}
use Rattle.pgsub_core.proofs.parting.cache_part.Goals as goal

pub loop-place-preserved : goal.loop-place-preserved
loop-place-preserved g c read =
    let less : c.loop-place.place < c.args.to = c.loop-place-test.true in
    let wide : c.args.from < c.args.to = omega (arith, c.loop-place.auto.place) in
    let held = held_of (g.P.Spools.held c.args.spools.now) c.args.xid in
    let at = item_at held c.loop-place.place c.unwrap-item.result
    (sym c.unwrap-item.ensures ∙ c.part_item.ensures.value c.args.from c.args.to (read wide) c.loop-place.auto.place less) in
    let next = part_at (items_of held) c.loop-place.place c.args.to c.unwrap-item.result less at in
    ap (λ (book : RelationCache). all_cached book (part (items_of held)
    (c.loop-place.place + 1) c.args.to)) c.in_ok-cache_item.ensures.cached
    ∙ sym (ap (all_cached c.loop-place.book) next) ∙ c.loop-place.invariant read

pub returns-clause-cached : goal.returns-clause-cached
returns-clause-cached g c read =
    let items = items_of (held_of (g.P.Spools.held c.args.spools.now) c.args.xid) in
    ap (all_cached c.loop-place.book) (sym (part_end items c.loop-place.place c.args.to (omega (arith, c.loop-place-test.false))))
    ∙ c.loop-place.invariant read
