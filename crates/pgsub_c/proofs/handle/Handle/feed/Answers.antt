use Rattle.std.proofs.Common.{ℤ, Some, ap, sym, subst, ◌∙◌, w64}
use Rattle.std.proofs.lemmas.Int.{to_z-of_z}
use Rattle.pgembed.specs.InMemory.{HasFed}
use Rattle.pgsub_c.proofs.Called.{called}
use Rattle.pgsub_c.proofs.handle.Handle.feed.Goals as goal

pub returns : goal.returns
returns c =
    let was = c.in-Some.ensures.some ∙ ap Some (sym c.deref_mut.ensures.value) in
    let f = c.feed-number in
    let fed = subst (λ (z : ℤ).
    HasFed z c.deref_mut.result.now c.args.piece.now f.new.self c.args.text.now f.new.text f.new.text_length f.result)
    (to_z-of_z w64 c.args.clock c.ranges.clock) f.ensures in
    called _ _ c.deref_mut.result.now f.new.self was c.put.ensures fed
