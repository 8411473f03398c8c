use Rattle.std.proofs.Common.{◌<◌, ◌++◌, ◌∷◌, [], ◌∙◌, ap, arith, subst, length, List}
use Rattle.pgpast.specs.Loaded.{slot_under, slots_of}
use Rattle.pgpast.specs.declared.record.Record.{Record}
use Rattle.pgpast.proofs.Slots.{begun_from, grown_from}
use Rattle.pgpast.proofs.loading.chain_from.Goals as goal

pub loop-slot-init : goal.loop-slot-init
loop-slot-init c =
    begun_from c.args.bytes.now c.args.newest c.args.first c.push.new.self.items
    (c.in_ok-push.ensures.items ∙ ap (λ (xs : List Record). xs ++ c.args.first ∷ []) c.new-chain.ensures.items) c.requires.0 c.requires.1

pub loop-slot-preserved : goal.loop-slot-preserved
loop-slot-preserved c =
    let bytes = c.args.bytes.now in
    let few : length c.loop-slot.chain.items < slots_of bytes =
    omega (arith, c.loop-slot-test.true, c.len.ensures, c.loop-slot.chain.ok, c.count_of-count.ensures.is) in
    grown_from bytes c.args.newest c.args.first c.loop-slot.chain.items c.push-in-loop-slot.new.self.items c.loop-slot.slot
    c.slot_before-slot.result c.in-Some.record c.loop-slot.invariant
    (c.slot_before-slot.ensures.is ∙ ap (λ k. slot_under k c.loop-slot.slot) c.count_of-count.ensures.is)
    (subst (λ n. c.slot_before-slot.result < n) c.count_of-count.ensures.is c.slot_before-slot.ensures.below) few
    c.in-Some.ensures.some.0 c.in-Some.ensures.some.1 c.in_ok-push-2.ensures.items
