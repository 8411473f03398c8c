use Rattle.std.proofs.Common.{◌≡◌, ℤ, subst, w64}
use Rattle.std.proofs.lemmas.Int.{to_z-of_z}
use Rattle.pgembed.specs.InMemory.{HasFed}
use Rattle.pgembed.specs.Passed.{PassesNothing}
use Rattle.pgsub_c.specs.Held.{Calls}
use Rattle.pgsub_c.proofs.pgsub_feed.Goals as goal

pub returns : goal.returns
returns c =
    let f = c.feed in
    subst (λ (z : ℤ). Calls
    (λ old new. HasFed z old c.args.piece.now new c.args.text.now f.new.text f.new.text_length f.result)
    ((f.result ≡ 12) × PassesNothing c.args.text.now f.new.text f.new.text_length)
    c.args.handle.now.pointer.value f.new.self.pointer.value) (to_z-of_z w64 c.args.clock c.ranges.clock) f.ensures
