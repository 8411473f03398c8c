-- The entries of a map, copied one after the other.
use Rattle.std.proofs.Common.{◌≡◌, ◌≤◌, ◌+◌, ℕ, zero, suc, List, [], ◌∷◌, ◌++◌, length, Option}
use Rattle.std.proofs.Common.{Some, None}
use Rattle.std.proofs.Common.{false, refl, ap, subst, ◌∙◌, nat_eq, arith}
use Rattle.std.specs.Prelude.{slice_get, take}
use Rattle.std.specs.List.{AllByRecursion, IsDistinct}
use Rattle.std.specs.Map.{lookup, keys_of}
use Rattle.std.proofs.lemmas.Bool.Decides.{nat_tests}
use Rattle.std.proofs.lemmas.Map.Keys.{IsDistinct-head, IsDistinct-tail}

module _ {X : Type 0} where
  key_at : (P : ℕ → Type 0) (es : List (ℕ × X)) (i : ℕ) (k : ℕ) (v : X) → AllByRecursion P (keys_of es) → slice_get es i ≡ Some (k, v) → P k
  key_at P [] i k v h at = absurd (cc)
  key_at P (e ∷ es) zero k v h at =
      let same : e.0 ≡ k = ap (λ (r : Option (ℕ × X)). elim r [ Some x ↦ x.0 | None ↦ e.0 ]) at in subst P same h.0
  key_at P (e ∷ es) (suc i) k v h at = key_at P es i k v h.1 at

  -- no entry before one of them has its key
  pub absent_before : (es : List (ℕ × X)) (i k : ℕ) (v : X) → IsDistinct nat_eq (keys_of es) → slice_get es i ≡ Some (k, v)
      → lookup (nat_eq k) (take i es) ≡ None
  absent_before [] zero k v h at = refl
  absent_before [] (suc i) k v h at = refl
  absent_before (e ∷ es) zero k v h at = refl
  absent_before (e ∷ es) (suc i) k v h at =
      let apart : nat_eq e.0 k ≡ false = key_at (λ q. nat_eq e.0 q ≡ false) es i k v (IsDistinct-head nat_eq e.0 (keys_of es) h) at in
      let other : nat_eq k e.0 ≡ false = grind (arith, nat_tests) in
      rw other (absent_before es i k v (IsDistinct-tail nat_eq e.0 (keys_of es) h) at)

  take_next : (es : List (ℕ × X)) (i : ℕ) (e : ℕ × X) → slice_get es i ≡ Some e → take (suc i) es ≡ take i es ++ e ∷ []
  take_next [] i e at = absurd (cc)
  take_next (x ∷ es) zero e at = let same : x ≡ e = cc in ap (λ y. y ∷ []) same
  take_next (x ∷ es) (suc i) e at = ap (λ ys. x ∷ ys) (take_next es i e at)

  pub take_one : (es : List (ℕ × X)) (i : ℕ) (e : ℕ × X) → slice_get es i ≡ Some e → take (i + 1) es ≡ take i es ++ e ∷ []
  take_one es i e at = let next : i + 1 ≡ suc i = omega arith in ap (λ n. take n es) next ∙ take_next es i e at

  pub take_whole : (es : List (ℕ × X)) (n : ℕ) → length es ≤ n → take n es ≡ es
  take_whole [] zero h = refl
  take_whole [] (suc n) h = refl
  take_whole (e ∷ es) zero h = absurd (omega arith)
  take_whole (e ∷ es) (suc n) h = ap (λ ys. e ∷ ys) (take_whole es n (omega arith))
