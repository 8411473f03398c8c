-- What a seek by a key finds: the entry of the row that has it, or one of another key, or none.
use Rattle.std.proofs.Common.{◌≡◌, inl, inr, ℕ, ℤ, pos, Bool, true, false, not, List, [], ◌∷◌}
use Rattle.std.proofs.Common.{filter, refl, sym, ap, subst, ◌∙◌, arith, true≢false, Ordering, Less}
use Rattle.std.proofs.Common.{Equal, Greater, is_lt, is_gt, nat_cmp, int_cmp}
use Rattle.std.proofs.lemmas.Bool.{not-true}
use Rattle.std.proofs.lemmas.Bool.Decides.{nat_tests}
use Rattle.std.proofs.lemmas.Cmp.{nat_list_cmp_total, tied_itself}
use Rattle.std.proofs.lemmas.List.Sorted.{Contains-permutation, IsPermutation-sym}
use Rattle.std.specs.Cmp.Lexicographic.{slice_cmp}
use Rattle.std.specs.FinMap.{nat_cmp-IsAntisymmetric, slice_cmp-IsAntisymmetric}
use Rattle.sqlite_value.specs.declared.value.Value.{Value}
use Rattle.sqlite_value.specs.declared.value.Value.TheVariants.{Int, Blob}
use Rattle.sqlite_value.specs.Order.{Row, column, bytes}
use Rattle.sqlite_value.specs.Keys.{plain, entry_cmp, prefix_cmp}
use Rattle.sqlite_value.proofs.KeyLemmas.{first_key-plain}
use Rattle.sqlite_value.proofs.OrderLemmas.{value_cmp-Int, value_cmp-Blob, then-Equal}
use Rattle.sqlite_trees.specs.Tree.{IsIndex, from_key, rowid}
use Rattle.sqlite_trees.proofs.ListLemmas.{ascending-filter}
use Rattle.sqlite_trees.proofs.TreeLemmas.{sorted_index, from_key-filter, prefix_cmp_follows}
use Rattle.sqlite_trees.proofs.TreeLemmas.{not_true}
use Rattle.sqlite_sql.specs.Catalog.{entry_of, IsIndexOf}
use Rattle.sqlite_rules.specs.Lists.{Has}
use Rattle.sqlite_rules.specs.Edit.{id_in}
use Rattle.sqlite_rules.proofs.ListLemmas.{all_has, has_filtered, has_kept, has_contained}
use Rattle.sqlite_rules.proofs.ListLemmas.{contains_had}
use Rattle.sqlite_rules.proofs.ProbeLemmas.{mapped_has, has_mapped}
use Rattle.pgtables.specs.Kept.{AreHeld, copies_in, key_in, number_in}
use Rattle.pgrows.specs.Rows.{IsAt, IsFree, IsStored, key_of}

abbrev pub entry : Row → Row
entry = entry_of (1 ∷ 2 ∷ [])

pub nat_as_int : (a b : ℕ) → int_cmp (pos a) (pos b) ≡ nat_cmp a b
nat_as_int a b = grind (arith, nat_tests)

-- an entry compares with a key as their bytes do
prefix_is : (a o : ℕ) (b i : List ℕ) (id : Value)
    → prefix_cmp plain (Int (pos a) ∷ Blob b ∷ id ∷ []) (key_of o i) ≡ slice_cmp nat_cmp (a ∷ b) (o ∷ i)
prefix_is a o b i id = rw
    (first_key-plain, value_cmp-Int (pos a) (pos o), value_cmp-Blob b i, then-Equal (slice_cmp nat_cmp b i), nat_as_int a o) refl

pub only_equal : (o : Ordering) → is_lt o ≡ false → is_gt o ≡ false → o ≡ Equal
only_equal Less a b = absurd (true≢false a)
only_equal Equal a b = refl
only_equal Greater a b = absurd (true≢false b)

module _ (o : ℕ) (i : List ℕ) (rows entries : List Row) (held : AreHeld rows) (indexed : IsIndexOf (1 ∷ 2 ∷ []) rows entries)
    (up : IsIndex plain entries) where
  abbrev key : Row
  key = key_of o i

  abbrev pub passes : Row → Bool
  passes e = not (is_lt (prefix_cmp plain e key))

  pub left_is : from_key plain key entries ≡ filter passes entries
  left_is = from_key-filter plain key entries (sorted_index plain entries up)

  entry_row : (e : Row) → Has entries e → (r : Row) × Has rows r × (e ≡ entry r)
  entry_row e h = has_mapped entry rows e
      (has_contained _ e (Contains-permutation _ _ e (IsPermutation-sym _ _ indexed) (contains_had entries e h)))

  row_entry : (r : Row) → Has rows r → Has entries (entry r)
  row_entry r h = has_contained _ _ (Contains-permutation _ _ _ indexed (contains_had _ _ (mapped_has entry rows r h)))

  -- the parts of a row
  oid_at : (r : Row) → Has rows r → column r 1 ≡ Int (pos (number_in (column r 1)))
  oid_at r h = ap (λ x. column x 1) (held.formed r h)

  ident_at : (r : Row) → Has rows r → column r 2 ≡ Blob (bytes (column r 2))
  ident_at r h = ap (λ x. column x 2) (held.formed r h)

  id_at : (r : Row) → Has rows r → rowid r ≡ Int (id_in (rowid r))
  id_at r h = ap rowid (held.formed r h)

  pub compared : (r : Row) → Has rows r → prefix_cmp plain (entry r) key ≡ slice_cmp nat_cmp (key_in r) (o ∷ i)
  compared r h = ap (λ x. prefix_cmp plain (entry x) key) (held.formed r h)
      ∙ prefix_is (number_in (column r 1)) o (bytes (column r 2)) i (Int (id_in (rowid r)))

  tied : (r : Row) → Has rows r → key_in r ≡ o ∷ i → prefix_cmp plain (entry r) key ≡ Equal
  tied r h is = compared r h ∙ ap (λ k. slice_cmp nat_cmp k (o ∷ i)) is ∙ tied_itself nat_list_cmp_total (o ∷ i)

  same_key : (r : Row) → Has rows r → prefix_cmp plain (entry r) key ≡ Equal → key_in r ≡ o ∷ i
  same_key r h is = slice_cmp-IsAntisymmetric nat_cmp-IsAntisymmetric (key_in r) (o ∷ i) (sym (compared r h) ∙ is)

  -- the entry of a row that has the key is left
  is_left : (r : Row) → Has rows r → key_in r ≡ o ∷ i → Has (from_key plain key entries) (entry r)
  is_left r h is = subst (λ l. Has l (entry r)) (sym left_is)
      (has_kept passes entries (entry r) (row_entry r h) (ap (λ c. not (is_lt c)) (tied r h is)))

  -- and tells its rowid
  entry_at : (r : Row) → Has rows r → key_in r ≡ o ∷ i → IsAt o i (entry r) (id_in (rowid r))
  entry_at r h is =
      let oid : number_in (column r 1) ≡ o = cc in
      let ident : bytes (column r 2) ≡ i = cc in
      (oid_at r h ∙ ap (λ n. Int (pos n)) oid, ident_at r h ∙ ap Blob ident, id_at r h)

  pub none_left : from_key plain key entries ≡ [] → IsFree o i rows
  none_left none r h is = subst (λ l. Has l (entry r)) none (is_left r h is)

  module _ (first : Row) (more : List Row) (left : from_key plain key entries ≡ first ∷ more) where
    pub first_in : Has entries first × (passes first ≡ true)
    first_in = has_filtered passes entries first (subst (λ l. Has l first) (sym left ∙ left_is) (inl refl))

    pub before : (e : Row) → Has more e → entry_cmp plain first e ≡ Less
    before e h = all_has _ more e (subst (IsIndex plain) (sym left_is ∙ left) (ascending-filter _ passes entries up)).0 h

    pub first_other : ((id : ℤ) → ¬ IsAt o i first id) → IsFree o i rows
    first_other other r h is = elim (subst (λ l. Has l (entry r)) left (is_left r h is)) [
      | inl same ↦ other (id_in (rowid r)) (subst (λ e. IsAt o i e (id_in (rowid r))) same (entry_at r h is))
      | inr later ↦
          let not_above : is_gt (prefix_cmp plain first key) ≡ false = not_true _ (λ above.
          true≢false (sym ((prefix_cmp_follows plain key first (entry r) (ap is_gt (before (entry r) later))).1 above)
          ∙ ap is_gt (tied r h is))) in
          let equal : prefix_cmp plain first key ≡ Equal = only_equal _ (not-true _ first_in.1) not_above in
          let s = entry_row first first_in.0 in
          let has_key : key_in s.0 ≡ o ∷ i = same_key s.0 s.1 (ap (λ e. prefix_cmp plain e key) (sym s.2) ∙ equal) in
          other (id_in (rowid s.0)) (subst (λ e. IsAt o i e (id_in (rowid s.0))) (sym s.2) (entry_at s.0 s.1 has_key))
    ]

    pub first_there : (id : ℤ) → IsAt o i first id → IsStored o i rows id
    first_there id at =
        let s = entry_row first first_in.0 in
        let r = s.0 in
        let oid : ◌≡◌ {A = Value} (Int (pos (number_in (column r 1)))) (Int (pos o)) =
        sym (oid_at r s.1) ∙ ap (λ e. column e 0) (sym s.2) ∙ at.0 in
        let ident : ◌≡◌ {A = Value} (Blob (bytes (column r 2))) (Blob i) = sym (ident_at r s.1) ∙ ap (λ e. column e 1) (sym s.2) ∙ at.1 in
        let rowid_is : ◌≡◌ {A = Value} (Int (id_in (rowid r))) (Int id) = sym (id_at r s.1) ∙ ap (λ e. column e 2) (sym s.2) ∙ at.2 in
        let a : number_in (column r 1) ≡ o = cc in
        let b : bytes (column r 2) ≡ i = cc in
        let c : id_in (rowid r) ≡ id = cc in
        (copies_in r, subst (Has rows) (held.formed r s.1 ∙ (rw (a, b, c) refl)) s.1)
