-- Rows that were read by rising rowids are those of a tree, of which then none stands twice.
use Rattle.std.proofs.Common.{◌≡◌, ◌⊎◌, inl, inr, ℕ, ℤ, ◌<ℤ◌, Bool, true, false, not, ◌&&◌, List}
use Rattle.std.proofs.Common.{[], ◌∷◌, ◌++◌, map, filter, refl, sym, ap, subst, ◌∙◌, true≢false}
use Rattle.std.specs.List.{AllByRecursion, IsDistinct}
use Rattle.std.specs.List.Sorted.{IsPermutation}
use Rattle.std.specs.Ordering.{is_eq, int_cmp, eq_by_cmp}
use Rattle.std.specs.FinMap.{int_cmp-IsAntisymmetric}
use Rattle.std.specs.Int.Signed.{<ℤ_irrefl}
use Rattle.std.proofs.lemmas.Bool.{cases_Bool, and_parts}
use Rattle.std.proofs.lemmas.Cmp.{int_cmp_total, tied_itself, eq_by_cmp_equiv}
use Rattle.std.proofs.lemmas.List.Sorted.{IsPermutation-map, IsPermutation-sym}
use Rattle.std.proofs.lemmas.Map.Keys.{IsDistinct-IsPermutation}
use Rattle.sqlite.specs.declared.types.Value.{Value}
use Rattle.sqlite.specs.declared.types.Value.TheVariants.{Null, Int, Real, Text, Blob}
use Rattle.sqlite.specs.Order.{Row}
use Rattle.sqlite_sql.specs.Ops.{is_null}
use Rattle.sqlite.specs.Tree.{Trees, rowid, IsAscending}
use Rattle.sqlite.specs.Term.{Term, col}
use Rattle.sqlite.specs.Query.{IsAnswer, output, Output}
use Rattle.sqlite_rules.specs.Edit.{id_in}
use Rattle.sqlite_rules.specs.Lists.{Has}
use Rattle.sqlite_rules.proofs.ListLemmas.{all_from, all_has}
use Rattle.pgtables.specs.Kept.{IsApart}
use Rattle.pgtables.proofs.Maps.{equal}
use Rattle.pgtables.proofs.Queries.{shows, chosen, map_twice, permuted_has, has_mapped, mapped_has}
use Rattle.pgtables.proofs.FoundTexts.{by_rowid}

-- ---- tests that can't all hold

pub never : false ≡ true → ⊥
never h = true≢false (sym h)

pub after : (a : Bool) {b : Bool} → (b ≡ true → ⊥) → (a && b) ≡ true → ⊥
after a {b} none h = none (and_parts a b h).1

abbrev pub some : Value → Bool
some v = not (is_null v)

pub null_is : (v : Value) → is_null v ≡ true → v ≡ Null
null_is Null h = refl
null_is (Int n) h = absurd (never h)
null_is (Real x) h = absurd (never h)
null_is (Text t) h = absurd (never h)
null_is (Blob b) h = absurd (never h)

-- ---- lists that rise

all_on : {X : Type 0} (P : X → Type 0) (xs : List X) (y : X) → AllByRecursion P xs → P y → AllByRecursion P (xs ++ y ∷ [])
all_on P [] y all one = (one, tt)
all_on P (x ∷ xs) y all one = (all.0, all_on P xs y all.1 one)

pub ascends_on : {X : Type 0} (R : X → X → Type 0) (xs : List X) (y : X) → IsAscending R xs → ((x : X) → Has xs x → R x y)
    → IsAscending R (xs ++ y ∷ [])
ascends_on R [] y up each = (tt, tt)
ascends_on R (x ∷ xs) y up each = (all_on (R x) xs y up.0 (each x (inl refl)), ascends_on R xs y up.1 (λ z h. each z (inr h)))

pub has_on : {X : Type 0} (xs : List X) (y z : X) → Has (xs ++ y ∷ []) z → Has xs z ⊎ (z ≡ y)
has_on [] y z (inl is) = inr is
has_on [] y z (inr none) = absurd none
has_on (x ∷ xs) y z (inl is) = inl (inl is)
has_on (x ∷ xs) y z (inr later) = elim (has_on xs y z later) [ inl h ↦ inl (inr h) | inr is ↦ inr is ]

-- ---- rows by rising rowids

abbrev pub number : Row → ℤ
number r = id_in (rowid r)

abbrev pub IsRising : List Row → Type 0
IsRising = IsAscending (λ a b. number a <ℤ number b)

not_below : (m n : ℤ) → m ≡ n → ¬ (m <ℤ n)
not_below m n same below = <ℤ_irrefl (subst (λ k. m <ℤ k) (sym same) below)

pub once : (rows : List Row) → IsRising rows → (x y : Row) → Has rows x → Has rows y → number x ≡ number y → x ≡ y
once [] up x y hx hy e = absurd hx
once (z ∷ zs) up x y (inl p) (inl q) e = p ∙ sym q
once (z ∷ zs) up x y (inl p) (inr q) e = absurd (not_below (number z) (number y) (sym (ap number p) ∙ e) (all_has _ zs y up.0 q))
once (z ∷ zs) up x y (inr p) (inl q) e = absurd (not_below (number z) (number x) (sym (ap number q) ∙ sym e) (all_has _ zs x up.0 p))
once (z ∷ zs) up x y (inr p) (inr q) e = once zs up.1 x y p q e

abbrev pub same_number : ℤ → ℤ → Bool
same_number = eq_by_cmp int_cmp

numbers_apart : (rows : List Row) → IsRising rows → IsDistinct same_number (map number rows)
unfolding IsDistinct
numbers_apart [] up = tt
numbers_apart (r ∷ rows) up = (
  all_from _ (map number rows) (λ k h.
      let s = has_mapped number rows k h in
      elim (cases_Bool (same_number (number r) k)) [
        | inr other ↦ other
        | inl tie ↦ absurd (not_below (number r) (number s.0) (int_cmp-IsAntisymmetric (number r) k (equal _ tie) ∙ s.2)
            (all_has _ rows s.0 up.0 s.1))
      ]),
  numbers_apart rows up.1,
)

rows_apart : (rows : List Row) → IsDistinct same_number (map number rows) → IsApart rows
unfolding IsDistinct
rows_apart [] apart = tt
rows_apart (r ∷ rows) apart = (
  all_from _ rows (λ s h same.
      let tie : same_number (number r) (number s) ≡ true =
      ap (λ v. same_number (number r) (id_in v)) (sym same) ∙ ap is_eq (tied_itself int_cmp_total (number r)) in
      true≢false (sym tie ∙ all_has _ (map number rows) (number s) apart.0 (mapped_has number rows s h))),
  rows_apart rows apart.1,
)

-- ---- the answer that shows all rows of a tree

filter_all : {A : Type 0} (xs : List A) → filter (λ x. true) xs ≡ xs
filter_all [] = refl
filter_all (x ∷ xs) = ap (λ l. x ∷ l) (filter_all xs)

module _ (db : Trees) (tree : ℕ) (more : List Term) (rows : List Row) (a : IsAnswer (by_rowid tree (col 1 0 ∷ more)) db [] rows) where
  abbrev pub show : Row → Row
  show r = shows (col 1 0 ∷ more) [] r

  pub all_shown : IsPermutation (map show (db tree)) rows
  all_shown =
      let staged : a.staged ≡ map (λ r. [] ∷ r ∷ []) (db tree) =
      a.grouped ∙ chosen (λ _. true) (λ r. [] ∷ r ∷ []) (db tree) ∙ ap (map (λ r. [] ∷ r ∷ [])) (filter_all (db tree)) in
      let kept = a.distinct ∙ ap (map (output (by_rowid tree (col 1 0 ∷ more)))) staged ∙ map_twice _ _ _ in
      let moved = IsPermutation-map (λ (o : Output). o.1) a.kept a.ordered a.same in
      let from = ap (map (λ (o : Output). o.1)) kept ∙ map_twice _ _ _ in
      subst (λ l. IsPermutation l rows) from (subst (IsPermutation _) (sym a.shown) moved)

  pub from_tree : (x : Row) → Has rows x → (r : Row) × Has (db tree) r × (x ≡ show r)
  from_tree x h = has_mapped _ _ x (permuted_has _ _ x (IsPermutation-sym _ _ all_shown) h)

  pub in_answer : (r : Row) → Has (db tree) r → Has rows (show r)
  in_answer r h = permuted_has _ _ _ all_shown (mapped_has show _ r h)

  pub tree_apart : IsRising rows → IsApart (db tree)
  tree_apart up = rows_apart (db tree) (subst (IsDistinct same_number) (map_twice show number (db tree))
      (IsDistinct-IsPermutation same_number (eq_by_cmp_equiv int_cmp_total).symm (map number rows) (map number (map show (db tree)))
      (IsPermutation-map number rows _ (IsPermutation-sym _ _ all_shown)) (numbers_apart rows up)))
