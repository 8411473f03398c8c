-- What a crash may leave, of one call after the other.
use Rattle.std.proofs.Common.{◌≡◌, ◌≤◌, inl, inr, ℕ, sym, ap, subst, ◌∙◌}
use Rattle.pgsub_core.specs.Subscriber.Crashing.{LeavesOldOr}

module _ {C : Type 0} (place : C → ℕ) (reopens : C → C → Type 0) (serves : C → Type 0) where
  -- by a call that does something with the store, behind others
  pub leaves_then : (is is' : C → Type 0) (old mid new : C) → LeavesOldOr place reopens serves is old mid
      → LeavesOldOr place reopens serves is' mid new → (serves mid → serves old)
      → ((other : C) → serves mid → is' other → is other) → LeavesOldOr place reopens serves is old new
  leaves_then is is' old mid new first second served go other left = elim (second other left) [
    | inl was ↦ elim (first other was.0) [
      | inl before ↦ inl (before.0, was.1 ∙ before.1)
      | inr one ↦ inr (one.0, subst (λ (p : ℕ). p ≤ place other) (sym was.1) one.1, one.2)
    ]
    | inr one ↦ inr (served one.0, one.1, go other one.0 one.2)
  ]

  -- the store is as it was
  pub leaves_same : (is : C → Type 0) (old new : C) → new ≡ old → LeavesOldOr place reopens serves is old new
  leaves_same is old new same other left = inl (subst (λ (s : C). reopens s other) same left, ap place same)

  -- the same told in other words
  pub leaves_as : (is is' : C → Type 0) (old new : C) → LeavesOldOr place reopens serves is old new → ((other : C) → is other → is' other)
      → LeavesOldOr place reopens serves is' old new
  leaves_as is is' old new leaves go other left =
      elim (leaves other left) [ inl was ↦ inl was | inr one ↦ inr (one.0, one.1, go other one.2) ]
