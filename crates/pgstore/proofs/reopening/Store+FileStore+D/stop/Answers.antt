use Rattle.std.proofs.Common.{inl, inr}
use Rattle.std.proofs.Math.Logic.{∥∥₁_map}
use Rattle.pgstore.proofs.reopening.Store+FileStore+D.stop.Goals as goal

pub returns : goal.returns
returns g c = record {
  left = λ clean image may. ∥∥₁_map (c.stop.ensures.left clean image may) (λ it. (
    it.0,
    elim (c.into_store.ensures.crash.crash (c.stop.ensures.clean clean) it.0 it.1) [
      | inl left ↦ left
      | inr none ↦ absurd none
    ],
    it.2,
  ));
}
