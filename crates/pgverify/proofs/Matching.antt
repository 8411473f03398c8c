-- The entries of the index that were matched with rows so far.
use Rattle.std.proofs.Common.{◌≡◌, ◌+◌, ◌++◌, ◌⊎◌, inl, inr, ℕ, List, []}
use Rattle.std.proofs.Common.{◌∷◌, length, refl, sym, ap, subst, ◌∙◌}
use Rattle.std.proofs.Common.{append_assoc, append-nil, Bool, true, Ok, Result, eqb, eqb-true}
use Rattle.std.proofs.lemmas.List.{length-append}
use Rattle.sqlite_value.specs.Order.{Row}
use Rattle.sqlite_rules.specs.Lists.{Has}
use Rattle.sqlite_rules.proofs.ListLemmas.{has_either}
use Rattle.pgtables.specs.Kept.{Copies}
use Rattle.pgverify.specs.Seen.{AreApart, AreMatched, HaveOwnKeys, IsNamed, IsSameKey}
use Rattle.pgverify.proofs.OwnKeys.{none_yet, own_on}

module _ {C : Type 0} (accepts : C → ℕ → List ℕ → Copies → Type 0) (check : C) (rows entries : List Row) where
  -- so many entries were matched, this one last, and these are left
  pub record IsMatching (last : Row) (left : List Row) (count : ℕ) : Type 0 where
    pub done : List Row
    pub named : (entry : Row) → Has done entry → IsNamed accepts check rows entry
    pub own : HaveOwnKeys last done
    pub many : length done ≡ count
    pub all : done ++ left ≡ entries

  pub none_matched : (last : Row) → IsMatching last entries 0
  none_matched last = record { done = []; named = λ e none. absurd none; own = none_yet last; many = refl; all = refl }

  named_on : (done : List Row) (e : Row) → ((f : Row) → Has done f → IsNamed accepts check rows f) → IsNamed accepts check rows e
      → (f : Row) → Has done f ⊎ Has (e ∷ []) f → IsNamed accepts check rows f
  named_on done e each one f (inl before) = each f before
  named_on done e each one f (inr (inl is)) = subst (IsNamed accepts check rows) (sym is) one
  named_on done e each one f (inr (inr none)) = absurd none

  pub one_matched : (last e : Row) (left : List Row) (count : ℕ) → IsMatching last (e ∷ left) count → ¬ IsSameKey last e
      → IsNamed accepts check rows e → IsMatching e left (count + 1)
  one_matched last e left count so_far other one = record {
    done = so_far.done ++ e ∷ [];
    named = λ f h. named_on so_far.done e so_far.named one f (has_either so_far.done (e ∷ []) f h);
    own = own_on last e so_far.done so_far.own other;
    many = length-append so_far.done (e ∷ []) ∙ ap (λ n. n + 1) so_far.many;
    all = append_assoc so_far.done (e ∷ []) left ∙ so_far.all;
  }

  pub all_matched : (last : Row) (count : ℕ) → IsMatching last [] count → count ≡ length rows → AreMatched accepts check rows entries
  all_matched last count so_far same =
      let is : so_far.done ≡ entries = sym (append-nil so_far.done) ∙ so_far.all in
      record {
        named = λ e h. so_far.named e (subst (λ l. Has l e) (sym is) h);
        apart = subst AreApart is so_far.own.apart;
        count = sym (ap length is) ∙ so_far.many ∙ same;
      }

pub same_count : {E : Type 0} (m n : ℕ) → ◌≡◌ {A = Result Bool E} (Ok (eqb m n)) (Ok true) → m ≡ n
same_count m n is = eqb-true m n (let same : eqb m n ≡ true = cc in same)
