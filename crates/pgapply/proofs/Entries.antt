-- What holds of each row of a map holds of each entry of its list.
use Rattle.std.proofs.Common.{◌≡◌, List, [], ◌∷◌, Some, None, cond, refl, sym, ap, ◌∙◌, inl, inr}
use Rattle.std.specs.Prelude.{T, Bool, true, false, ◌&&◌}
use Rattle.std.specs.List.{AllByRecursion}
use Rattle.std.specs.Ordering.{eq_by_cmp, is_eq, is_lt}
use Rattle.std.specs.declared.cmp.Ordering.{Ordering}
use Rattle.std.specs.declared.cmp.Ordering.TheVariants.{Less, Equal, Greater}
use Rattle.std.specs.Cmp.{IsTotalOrder}
use Rattle.std.specs.FinMap as map
use Rattle.std.specs.FinMap.{IsAntisymmetric, find, is_sorted, entries_sorted, get-entries}
use Rattle.std.specs.FinMap.Entries.{below_all}
use Rattle.std.proofs.lemmas.Bool.{cases_Bool}
use Rattle.std.proofs.lemmas.Cmp.{tied_itself}

first : (a b : Bool) → T (a && b) → T a
first true b p = tt
first false b p = p

second : (a b : Bool) → T (a && b) → T b
second true b p = p
second false b p = absurd p

equal : (o : Ordering) → is_eq o ≡ true → o ≡ Equal
equal Less e = absurd (cc)
equal Equal e = refl
equal Greater e = absurd (cc)

less : (o : Ordering) → T (is_lt o) → o ≡ Less
less Less p = refl
less Equal p = absurd p
less Greater p = absurd p

module _ {K X : Type 0} {R : K → K → Ordering} (total : IsTotalOrder R) (same : IsAntisymmetric R) where
  -- a key below all others isn't among them
  missing : (k : K) (es : List (K × X)) → T (below_all R k es) → find R k es ≡ None
  missing k [] p = refl
  missing k (e ∷ es) p = ap (λ o. cond (is_eq o) (Some e.1) (find R k es)) (less _ (first _ _ p)) ∙ missing k es (second _ _ p)

  module _ (P : K → X → Type 0) where
    each_found : (es : List (K × X)) → T (is_sorted R es) → ((k : K) (x : X) → find R k es ≡ Some x → P k x)
        → AllByRecursion (λ (e : K × X). P e.0 e.1) es
    each_found [] p h = tt
    each_found (e ∷ es) p h = (
      h e.0 e.1 (ap (λ o. cond (is_eq o) (Some e.1) (find R e.0 es)) (tied_itself total e.0)),
      each_found es (second _ _ p) (λ k x is. h k x (elim (cases_Bool (eq_by_cmp R k e.0)) [
        | inr apart ↦ ap (λ b. cond b (Some e.1) (find R k es)) apart ∙ is
        | inl here ↦ absurd (let none = sym (ap (λ q. find R q es) (same k e.0 (equal _ here)) ∙ missing e.0 es (first _ _ p)) ∙ is in cc)
      ])),
    )

    pub each_entry : (m : map.FinMap R X) → ((k : K) (x : X) → map.get m k ≡ Some x → P k x)
        → AllByRecursion (λ (e : K × X). P e.0 e.1) (map.entries m)
    each_entry m h = each_found (map.entries m) (entries_sorted m) (λ k x is. h k x (get-entries m k ∙ is))
