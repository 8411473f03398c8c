-- A list whose elements all stand in another, none of them twice, and which is as long, has the
-- elements of that one.
use Rattle.std.proofs.Common.{◌≡◌, ◌≢◌, ◌≤◌, inl, inr, List, [], ◌∷◌}
use Rattle.std.proofs.Common.{◌++◌, length, suc, refl, sym, ap}
use Rattle.std.proofs.Common.{subst, arith, IsPermutation}
use Rattle.std.proofs.lemmas.List.Sorted.{IsPermutation-refl, IsPermutation-sym}
use Rattle.std.proofs.lemmas.List.Sorted.{IsPermutation-trans}
use Rattle.std.proofs.lemmas.List.Sorted.{IsPermutation-cons, IsPermutation-middle}
use Rattle.std.proofs.lemmas.List.Sorted.{length_permutation}
use Rattle.sqlite_trees.specs.Tree.{IsAscending}
use Rattle.sqlite_rules.specs.Lists.{Has}
use Rattle.sqlite_rules.proofs.ListLemmas.{all_has}

module _ {X : Type 0} where
  split : (ys : List X) (x : X) → Has ys x → (front : List X) × (back : List X) × (ys ≡ front ++ x ∷ back)
  split [] x h = absurd h
  split (y ∷ ys) x (inl is) = ([], ys, ap (λ z. z ∷ ys) (sym is))
  split (y ∷ ys) x (inr later) =
      let it = split ys x later in
      (y ∷ it.0, it.1, ap (λ l. y ∷ l) it.2)

  -- what isn't this element is one of the rest
  in_rest : (front : List X) (x : X) (back : List X) (z : X) → Has (front ++ x ∷ back) z → x ≢ z → Has (front ++ back) z
  in_rest [] x back z (inl is) other = absurd (other (sym is))
  in_rest [] x back z (inr h) other = h
  in_rest (f ∷ front) x back z (inl is) other = inl is
  in_rest (f ∷ front) x back z (inr h) other = inr (in_rest front x back z h other)

  pub are_all : (xs ys : List X) → IsAscending (λ a b. a ≢ b) xs → ((x : X) → Has xs x → Has ys x) → length ys ≤ length xs
      → IsPermutation xs ys
  are_all [] [] apart each few = IsPermutation-refl []
  are_all [] (y ∷ ys) apart each few = absurd (omega (arith, few))
  are_all (x ∷ xs) ys apart each few =
      let at = split ys x (each x (inl refl)) in
      let rest = at.0 ++ at.1 in
      let out : IsPermutation (x ∷ rest) ys =
      subst (IsPermutation (x ∷ rest)) (sym at.2) (IsPermutation-sym _ _ (IsPermutation-middle at.0 x at.1)) in
      let count : length ys ≡ suc (length rest) = length_permutation _ _ out in
      let there = λ (z : X) (h : Has xs z). in_rest at.0 x at.1 z (subst (λ l. Has l z) at.2 (each z (inr h)))
      (all_has (λ b. x ≢ b) xs z apart.0 h) in
      IsPermutation-trans _ _ _ (IsPermutation-cons x _ _ (are_all xs rest apart.1 there (omega (arith, count, few)))) out
