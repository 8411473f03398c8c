-- The rows of the tables of bytes, in the order of their keys, are the rows of the value, relation
-- by relation.
use Rattle.std.proofs.Common.{◌≡◌, ◌⊎◌, ℕ, List, [], ◌∷◌, ◌++◌, map, Bool, true, false, cond}
use Rattle.std.proofs.Common.{Option, Some, None, refl, sym, ap, subst, ◌∙◌, inl, inr, true≢false}
use Rattle.std.specs.Prelude.{T, ◌&&◌, option_map, IsSome}
use Rattle.std.specs.List.{flat_map}
use Rattle.std.specs.Ordering.{nat_cmp, eq_by_cmp, is_eq, is_lt, ordering_then, ordering_reverse}
use Rattle.std.specs.declared.cmp.Ordering.{Ordering}
use Rattle.std.specs.declared.cmp.Ordering.TheVariants.{Less, Equal, Greater}
use Rattle.std.specs.Cmp.{IsTotalOrder, nat_cmp_total}
use Rattle.std.specs.Cmp.Lexicographic.{slice_cmp, nat_list_cmp_total}
use Rattle.std.specs.FinMap as finite
use Rattle.std.specs.FinMap.{find, is_sorted, entries_sorted, get-entries, nat_cmp-IsAntisymmetric}
use Rattle.std.specs.FinMap.{slice_cmp-IsAntisymmetric}
use Rattle.std.specs.FinMap.Entries.{below_all, same_entries}
use Rattle.std.proofs.lemmas.Bool.{cases_Bool}
use Rattle.std.proofs.lemmas.Cmp.{tied_itself}
use Rattle.pgtables.specs.Kept as stored
use Rattle.pgtables.specs.DumpOrder.{AreNamed}
use Rattle.pgtables.proofs.Maps.{equal, cases_Option}
use Rattle.pgapply.specs.Value.{Row, Table, Tables}
use Rattle.pgencoded.specs.Spelled.{IsSpelled, spelled_definition, spelled_row, row_in}

abbrev R : List ℕ → List ℕ → Ordering
R = slice_cmp nat_cmp

abbrev Entry : Type 0
Entry = List ℕ × stored.Copies

-- a row of a relation under its key in the tables
abbrev pub placed : ℕ → List ℕ × Row → Entry
placed oid e = (oid ∷ e.0, spelled_row e.1)

abbrev pub placed_rows : ℕ × Table → List Entry
placed_rows e = map (placed e.0) (finite.entries e.1.rows)

-- membership, by recursion
abbrev pub Has : {X : Type 0} → List X → X → Type 0
Has [] x = ⊥
Has (y ∷ ys) x = (x ≡ y) ⊎ Has ys x

-- ---- tests of lists

both : (a b : Bool) → T a → T b → T (a && b)
both true b p q = q
both false b p q = p

first : (a b : Bool) → T (a && b) → T a
first true b p = tt
first false b p = p

second : (a b : Bool) → T (a && b) → T b
second true b p = p
second false b p = absurd p

less : (o : Ordering) → T (is_lt o) → o ≡ Less
less Less p = refl
less Equal p = absurd p
less Greater p = absurd p

module _ {K X : Type 0} (S : K → K → Ordering) where
  below_joined : (k : K) (es fs : List (K × X)) → T (below_all S k es) → T (below_all S k fs) → T (below_all S k (es ++ fs))
  below_joined k [] fs p q = q
  below_joined k (e ∷ es) fs p q = both _ _ (first _ _ p) (below_joined k es fs (second _ _ p) q)

  -- the keys of two lists rise if those of each do and each of the first list is below all of the
  -- second
  joined_rises : (es fs : List (K × X)) → T (is_sorted S es) → T (is_sorted S fs) → ((e : K × X) → Has es e → T (below_all S e.0 fs))
      → T (is_sorted S (es ++ fs))
  joined_rises [] fs p q below = q
  joined_rises (e ∷ es) fs p q below =
      both _ _ (below_joined e.0 es fs (first _ _ p) (below e (inl refl))) (joined_rises es fs (second _ _ p) q (λ x h. below x (inr h)))

  found_joined : (k : K) (es fs : List (K × X)) → find S k es ≡ None → find S k (es ++ fs) ≡ find S k fs
  found_joined k [] fs none = refl
  found_joined k (e ∷ es) fs none = elim (cases_Bool (eq_by_cmp S k e.0)) [
    | inl here ↦ let is : Some e.1 ≡ None = rw here at none in absurd cc
    | inr there ↦ rw there (found_joined k es fs (rw there at none))
  ]

  found_first : (k : K) (es fs : List (K × X)) → find S k fs ≡ None → find S k (es ++ fs) ≡ find S k es
  found_first k [] fs none = none
  found_first k (e ∷ es) fs none = ap (cond (eq_by_cmp S k e.0) (Some e.1)) (found_first k es fs none)

  module _ (total : IsTotalOrder S) where
    above : (f e : K × X) (es : List (K × X)) → T (below_all S f.0 es) → Has es e → S e.0 f.0 ≡ Greater
    above f e [] q h = absurd h
    above f e (g ∷ es) q (inl is) = total.antisymm e.0 f.0 ∙ ap ordering_reverse (ap (λ x. S f.0 x.0) is ∙ less _ (first _ _ q))
    above f e (g ∷ es) q (inr h) = above f e es (second _ _ q) h

    -- what stands in a list in order is found
    stands : (es : List (K × X)) → T (is_sorted S es) → (e : K × X) → Has es e → find S e.0 es ≡ Some e.1
    stands [] p e h = absurd h
    stands (f ∷ es) p e (inl is) =
        ap (λ x. find S x.0 (f ∷ es)) is ∙ ap (λ o. cond (is_eq o) (Some f.1) (find S f.0 es)) (tied_itself total f.0)
        ∙ ap (λ x. Some x.1) (sym is)
    stands (f ∷ es) p e (inr later) =
        ap (λ o. cond (is_eq o) (Some f.1) (find S e.0 es)) (above f e es (first _ _ p) later) ∙ stands es (second _ _ p) e later

  -- a key below all others isn't among them
  missing : (k : K) (es : List (K × X)) → T (below_all S k es) → find S k es ≡ None
  missing k [] p = refl
  missing k (e ∷ es) p = ap (λ o. cond (is_eq o) (Some e.1) (find S k es)) (less _ (first _ _ p)) ∙ missing k es (second _ _ p)

-- ---- the rows of one relation

abbrev keys_compared : (o p : ℕ) (i j : List ℕ) → R (o ∷ i) (p ∷ j) ≡ ordering_then (nat_cmp o p) (R i j)
keys_compared o p i j = refl

own_keys : (o : ℕ) (i j : List ℕ) → R (o ∷ i) (o ∷ j) ≡ R i j
own_keys o i j = ap (λ r. ordering_then r (R i j)) (tied_itself nat_cmp_total o)

below_own : (o : ℕ) (i : List ℕ) (rs : List (List ℕ × Row)) → below_all R (o ∷ i) (map (placed o) rs) ≡ below_all R i rs
below_own o i [] = refl
below_own o i (r ∷ rs) = λ k. is_lt (own_keys o i r.0 k) && below_own o i rs k

own_rises : (o : ℕ) (rs : List (List ℕ × Row)) → is_sorted R (map (placed o) rs) ≡ is_sorted R rs
own_rises o [] = refl
own_rises o (r ∷ rs) = λ k. below_own o r.0 rs k && own_rises o rs k

below_later : (o p : ℕ) (i : List ℕ) (rs : List (List ℕ × Row)) → nat_cmp o p ≡ Less → T (below_all R (o ∷ i) (map (placed p) rs))
below_later o p i [] less = tt
below_later o p i (r ∷ rs) less = both _ _ (subst (λ c. T (is_lt (ordering_then c (R i r.0)))) (sym less) tt) (below_later o p i rs less)

one_mapped : (b : Bool) (row : Row) (here : Option stored.Copies) (there : Option Row) → here ≡ option_map spelled_row there
    → cond b (Some (spelled_row row)) here ≡ option_map spelled_row (cond b (Some row) there)
one_mapped true row here there is = refl
one_mapped false row here there is = is

found_own : (o : ℕ) (i : List ℕ) (rs : List (List ℕ × Row)) → find R (o ∷ i) (map (placed o) rs) ≡ option_map spelled_row (find R i rs)
found_own o i [] = refl
found_own o i (r ∷ rs) =
    ap (λ c. cond (is_eq c) (Some (spelled_row r.1)) (find R (o ∷ i) (map (placed o) rs))) (own_keys o i r.0)
    ∙ one_mapped (eq_by_cmp R i r.0) r.1 (find R (o ∷ i) (map (placed o) rs)) (find R i rs) (found_own o i rs)

apart : (a b : Ordering) → is_eq a ≡ false → is_eq (ordering_then a b) ≡ false
apart Less b e = refl
apart Equal b e = absurd (true≢false e)
apart Greater b e = refl

not_found : (o p : ℕ) (i : List ℕ) (rs : List (List ℕ × Row)) → eq_by_cmp nat_cmp o p ≡ false → find R (o ∷ i) (map (placed p) rs) ≡ None
not_found o p i [] other = refl
not_found o p i (r ∷ rs) other =
    ap (λ b. cond b (Some (spelled_row r.1)) (find R (o ∷ i) (map (placed p) rs))) (apart (nat_cmp o p) (R i r.0) other)
    ∙ not_found o p i rs other

-- ---- the rows of all relations

abbrev all_rows : List (ℕ × Table) → List Entry
all_rows es = flat_map placed_rows es

below_relations : (o : ℕ) (i : List ℕ) (es : List (ℕ × Table)) → T (below_all nat_cmp o es) → T (below_all R (o ∷ i) (all_rows es))
below_relations o i [] p = tt
below_relations o i (e ∷ es) p =
    below_joined R (o ∷ i) (placed_rows e) (all_rows es) (below_later o e.0 i (finite.entries e.1.rows) (less _ (first _ _ p)))
    (below_relations o i es (second _ _ p))

from_relation : (o : ℕ) (rs : List (List ℕ × Row)) (e : Entry) → Has (map (placed o) rs) e → (i : List ℕ) × (e.0 ≡ o ∷ i)
from_relation o [] e h = absurd h
from_relation o (r ∷ rs) e (inl is) = (r.0, ap (λ (x : Entry). x.0) is)
from_relation o (r ∷ rs) e (inr h) = from_relation o rs e h

rows_rise : (es : List (ℕ × Table)) → T (is_sorted nat_cmp es) → T (is_sorted R (all_rows es))
rows_rise [] p = tt
rows_rise (e ∷ es) p = joined_rises R (placed_rows e) (all_rows es)
    (subst T (sym (own_rises e.0 (finite.entries e.1.rows))) (entries_sorted e.1.rows)) (rows_rise es (second _ _ p))
    (λ x h. let from = from_relation e.0 (finite.entries e.1.rows) x h in
    subst (λ k. T (below_all R k (all_rows es))) (sym from.1) (below_relations e.0 from.0 es (first _ _ p)))

-- no row stands under a key without an OID
no_relation : (es : List (ℕ × Table)) → find R [] (all_rows es) ≡ None
no_relation [] = refl
no_relation (e ∷ es) = found_joined R [] (placed_rows e) (all_rows es) (none (finite.entries e.1.rows)) ∙ no_relation es
  where
    none : (rs : List (List ℕ × Row)) → find R [] (map (placed e.0) rs) ≡ None
    none [] = refl
    none (r ∷ rs) = none rs

row_found : (es : List (ℕ × Table)) → T (is_sorted nat_cmp es) → (o : ℕ) (i : List ℕ)
    → find R (o ∷ i) (all_rows es) ≡ option_map spelled_row (row_in (find nat_cmp o es) i)
row_found [] p o i = refl
row_found (e ∷ es) p o i = elim (cases_Bool (eq_by_cmp nat_cmp o e.0)) [
  | inl here ↦
      let is : o ≡ e.0 = nat_cmp-IsAntisymmetric o e.0 (equal _ here) in
      let rest : find R (o ∷ i) (all_rows es) ≡ None =
      row_found es (second _ _ p) o i
      ∙ ap (λ t. option_map spelled_row (row_in t i)) (ap (λ n. find nat_cmp n es) is ∙ missing nat_cmp e.0 es (first _ _ p)) in
      found_first R (o ∷ i) (placed_rows e) (all_rows es) rest ∙ ap (λ n. find R (n ∷ i) (placed_rows e)) is
      ∙ found_own e.0 i (finite.entries e.1.rows)
      ∙ ap (option_map spelled_row) (sym (get-entries e.1.rows i))
      ∙ ap (λ b. option_map spelled_row (row_in (cond b (Some e.1) (find nat_cmp o es)) i)) (sym here)
  | inr there ↦
      found_joined R (o ∷ i) (placed_rows e) (all_rows es) (not_found o e.0 i (finite.entries e.1.rows) there)
      ∙ row_found es (second _ _ p) o i
      ∙ ap (λ b. option_map spelled_row (row_in (cond b (Some e.1) (find nat_cmp o es)) i)) (sym there)
]

-- ---- the tables that hold a value

module _ (v : Tables) (t : stored.Tables) (h : IsSpelled v t) where
  pub entries_are : finite.entries t.rows ≡ flat_map placed_rows (finite.entries v)
  entries_are = same_entries R nat_list_cmp_total (slice_cmp-IsAntisymmetric nat_cmp-IsAntisymmetric) (finite.entries t.rows)
      (all_rows (finite.entries v)) (entries_sorted t.rows) (rows_rise (finite.entries v) (entries_sorted v)) each
    where
      each : (q : List ℕ) → find R q (finite.entries t.rows) ≡ find R q (all_rows (finite.entries v))
      each [] = sym (get-entries t.rows []) ∙ h.keyed ∙ sym (no_relation (finite.entries v))
      each (o ∷ i) = sym (get-entries t.rows (o ∷ i)) ∙ h.rows o i ∙ ap (λ table. option_map spelled_row (row_in table i)) (get-entries v o)
          ∙ sym (row_found (finite.entries v) (entries_sorted v) o i)

  -- each relation that has rows has a definition
  pub names_rows : AreNamed t
  names_rows [] some = absurd (true≢false (sym (subst IsSome h.keyed some)))
  names_rows (o ∷ i) some = elim (cases_Option (finite.get v o)) [
    | inl none ↦ absurd (true≢false (sym (subst IsSome (h.rows o i ∙ ap (λ table. option_map spelled_row (row_in table i)) none) some)))
    | inr there ↦ subst IsSome (sym (h.defined o ∙ ap (option_map (λ (table : Table). spelled_definition table.definition)) there.1)) refl
  ]

-- what stands in a map is got from it
pub entry_got : {K X : Type 0} {S : K → K → Ordering} → IsTotalOrder S → (m : finite.FinMap S X) (e : K × X) → Has (finite.entries m) e
    → finite.get m e.0 ≡ Some e.1
entry_got {S = S} total m e h = get-entries m e.0 ∙ stands S total (finite.entries m) (entries_sorted m) e h
