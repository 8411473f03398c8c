-- What a seek by a relation's OID finds: the entry of one of its rows, or one of another relation,
-- or none.
use Rattle.std.proofs.Common.{◌≡◌, inl, inr, ℕ, ℤ, pos, Bool, true, false, not, List, [], ◌∷◌}
use Rattle.std.proofs.Common.{filter, refl, sym, ap, subst, ◌∙◌, true≢false, Less, Equal, is_lt}
use Rattle.std.proofs.Common.{is_gt, nat_cmp, int_cmp}
use Rattle.std.proofs.lemmas.Bool.{not-true}
use Rattle.std.proofs.lemmas.Cmp.{nat_cmp_total, tied_itself}
use Rattle.std.proofs.lemmas.List.Sorted.{Contains-permutation, IsPermutation-sym}
use Rattle.std.specs.FinMap.{nat_cmp-IsAntisymmetric}
use Rattle.sqlite_value.specs.declared.value.Value.{Value}
use Rattle.sqlite_value.specs.declared.value.Value.TheVariants.{Int, Blob}
use Rattle.sqlite_value.specs.Order.{Row, column, bytes}
use Rattle.sqlite_value.specs.Keys.{plain, entry_cmp, prefix_cmp}
use Rattle.sqlite_value.proofs.KeyLemmas.{first_key-plain}
use Rattle.sqlite_value.proofs.OrderLemmas.{value_cmp-Int, then-Equal}
use Rattle.std.specs.Prelude.{Option, Some, MatchOption}
use Rattle.sqlite_trees.specs.declared.store.Direction.TheVariants.{Forward}
use Rattle.sqlite_trees.specs.Tree.{IsIndex, from_key, order_of, rowid, sought}
use Rattle.sqlite_trees.specs.Objects.{catalog_tree, IsListed}
use Rattle.sqlite_trees.specs.View.{View, Advances, IsOrdered, with_cursor}
use Rattle.sqlite_trees.proofs.ListLemmas.{ascending-filter}
use Rattle.sqlite_trees.proofs.TreeLemmas.{sorted_index, from_key-filter, prefix_cmp_follows}
use Rattle.sqlite_trees.proofs.TreeLemmas.{not_true}
use Rattle.sqlite_sql.specs.Catalog.{IsIndexOf}
use Rattle.sqlite_rules.specs.Lists.{Has}
use Rattle.sqlite_rules.specs.Edit.{id_in}
use Rattle.sqlite_rules.proofs.ListLemmas.{all_has, has_filtered, has_kept, has_contained}
use Rattle.sqlite_rules.proofs.ListLemmas.{contains_had}
use Rattle.sqlite_rules.proofs.ProbeLemmas.{mapped_has, has_mapped}
use Rattle.pgtables.specs.Kept.{AreHeld, copies_in, held_row, number_in}
use Rattle.pgrows.specs.Rows.{HasNone, IsFirst, IsGood, IsOf, front_of}
use Rattle.pgrows.proofs.SetUp.{index_shape, indexed, entries_rise}
use Rattle.pgrows.proofs.Seek.{entry, nat_as_int, only_equal}
use Rattle.pgrows.proofs.Found.{matched}

-- an entry compares with an OID as its own does
front_is : (a o : ℕ) (b : List ℕ) (id : Value) → prefix_cmp plain (Int (pos a) ∷ Blob b ∷ id ∷ []) (front_of o) ≡ nat_cmp a o
front_is a o b id = rw (first_key-plain, value_cmp-Int (pos a) (pos o), then-Equal (int_cmp (pos a) (pos o)), nat_as_int a o) refl

module _ (o : ℕ) (rows entries : List Row) (held : AreHeld rows) (indexed : IsIndexOf (1 ∷ 2 ∷ []) rows entries)
    (up : IsIndex plain entries) where
  abbrev pub key : Row
  key = front_of o

  abbrev pub passes : Row → Bool
  passes e = not (is_lt (prefix_cmp plain e key))

  pub left_is : from_key plain key entries ≡ filter passes entries
  left_is = from_key-filter plain key entries (sorted_index plain entries up)

  pub entry_row : (e : Row) → Has entries e → (r : Row) × Has rows r × (e ≡ entry r)
  entry_row e h = has_mapped entry rows e
      (has_contained _ e (Contains-permutation _ _ e (IsPermutation-sym _ _ indexed) (contains_had entries e h)))

  pub row_entry : (r : Row) → Has rows r → Has entries (entry r)
  row_entry r h = has_contained _ _ (Contains-permutation _ _ _ indexed (contains_had _ _ (mapped_has entry rows r h)))

  pub oid_at : (r : Row) → Has rows r → column r 1 ≡ Int (pos (number_in (column r 1)))
  oid_at r h = ap (λ x. column x 1) (held.formed r h)

  id_at : (r : Row) → Has rows r → rowid r ≡ Int (id_in (rowid r))
  id_at r h = ap rowid (held.formed r h)

  pub compared : (r : Row) → Has rows r → prefix_cmp plain (entry r) key ≡ nat_cmp (number_in (column r 1)) o
  compared r h = ap (λ x. prefix_cmp plain (entry x) key) (held.formed r h)
      ∙ front_is (number_in (column r 1)) o (bytes (column r 2)) (Int (id_in (rowid r)))

  pub tied : (r : Row) → Has rows r → number_in (column r 1) ≡ o → prefix_cmp plain (entry r) key ≡ Equal
  tied r h is = compared r h ∙ ap (λ n. nat_cmp n o) is ∙ tied_itself nat_cmp_total o

  pub same_oid : (r : Row) → Has rows r → prefix_cmp plain (entry r) key ≡ Equal → number_in (column r 1) ≡ o
  same_oid r h is = nat_cmp-IsAntisymmetric (number_in (column r 1)) o (sym (compared r h) ∙ is)

  pub is_left : (r : Row) → Has rows r → number_in (column r 1) ≡ o → Has (from_key plain key entries) (entry r)
  is_left r h is = subst (λ l. Has l (entry r)) (sym left_is)
      (has_kept passes entries (entry r) (row_entry r h) (ap (λ c. not (is_lt c)) (tied r h is)))

  pub none_left : from_key plain key entries ≡ [] → HasNone o rows
  none_left none r h is = subst (λ l. Has l (entry r)) none (is_left r h is)

  module _ (first : Row) (more : List Row) (left : from_key plain key entries ≡ first ∷ more) where
    first_in : Has entries first × (passes first ≡ true)
    first_in = has_filtered passes entries first (subst (λ l. Has l first) (sym left ∙ left_is) (inl refl))

    before : (e : Row) → Has more e → entry_cmp plain first e ≡ Less
    before e h = all_has _ more e (subst (IsIndex plain) (sym left_is ∙ left) (ascending-filter _ passes entries up)).0 h

    -- the row of the first entry is of the relation, if any is
    its_oid : (r : Row) → Has rows r → number_in (column r 1) ≡ o → (s : Row) → Has rows s → first ≡ entry s → number_in (column s 1) ≡ o
    its_oid r h is s hs first_is = elim (subst (λ l. Has l (entry r)) left (is_left r h is)) [
      | inl same ↦ same_oid s hs (ap (λ e. prefix_cmp plain e key) (sym first_is ∙ sym same) ∙ tied r h is)
      | inr later ↦
          let not_above : is_gt (prefix_cmp plain first key) ≡ false = not_true _ (λ above.
          true≢false (sym ((prefix_cmp_follows plain key first (entry r) (ap is_gt (before (entry r) later))).1 above)
          ∙ ap is_gt (tied r h is))) in
          let equal : prefix_cmp plain first key ≡ Equal = only_equal _ (not-true _ first_in.1) not_above in
          same_oid s hs (ap (λ e. prefix_cmp plain e key) (sym first_is) ∙ equal)
    ]

    pub first_other : ((id : ℤ) → ¬ IsOf o first id) → HasNone o rows
    first_other other r h is =
        let s = entry_row first first_in.0 in
        let same = its_oid r h is s.0 s.1 s.2 in
        other (id_in (rowid s.0))
        (ap (λ e. column e 0) s.2 ∙ oid_at s.0 s.1 ∙ ap (λ n. Int (pos n)) same, ap (λ e. column e 2) s.2 ∙ id_at s.0 s.1)

    pub first_there : (id : ℤ) → IsOf o first id → IsFirst o first rows id
    first_there id at =
        let s = entry_row first first_in.0 in
        let r = s.0 in
        let oid : ◌≡◌ {A = Value} (Int (pos (number_in (column r 1)))) (Int (pos o)) =
        sym (oid_at r s.1) ∙ ap (λ e. column e 0) (sym s.2) ∙ at.0 in
        let rowid_is : ◌≡◌ {A = Value} (Int (id_in (rowid r))) (Int id) = sym (id_at r s.1) ∙ ap (λ e. column e 2) (sym s.2) ∙ at.1 in
        let a : number_in (column r 1) ≡ o = cc in
        let c : id_in (rowid r) ≡ id = cc in
        let formed : r ≡ held_row (Int id) o (bytes (column r 2)) (copies_in r) = held.formed r s.1 ∙ (rw (a, c) refl) in
        (bytes (column r 2), s.2 ∙ ap entry formed, (copies_in r, subst (Has rows) formed s.1))

-- ---- what a seek and one step of its cursor tell

module _ {old mid : View} (good : IsGood old) (listed : IsListed (old.trees catalog_tree) old.shape old.reals)
    (ordered : IsOrdered old.shape old.trees) (o : ℕ) (front : Row) (front_is_key : front ≡ front_of o)
    (placed : mid ≡ with_cursor old 0 (sought (order_of (old.shape 2)) Forward front (old.trees 2))) where
  left : mid.cursors 0 ≡ Some (from_key plain (front_of o) (old.trees 2))
  left = ap (λ (v : View). v.cursors 0) placed
      ∙ ap (λ s. Some (from_key (order_of s) front (old.trees 2))) (index_shape good listed ordered)
      ∙ ap (λ k. Some (from_key plain k (old.trees 2))) front_is_key

  given : (rows : List Row) → mid.cursors 0 ≡ Some rows → from_key plain (front_of o) (old.trees 2) ≡ rows
  given rows h = let both : Some (from_key plain (front_of o) (old.trees 2)) ≡ Some rows = sym left ∙ h in
      let e : from_key plain (front_of o) (old.trees 2) ≡ rows = cc in e

  pub front_ended : (row : Row) (new : View) → Advances mid new 0 row false → HasNone o (old.trees 1)
  front_ended row new h = none_left o (old.trees 1) (old.trees 2) good.kept.held (indexed good listed ordered)
      (entries_rise good listed ordered) (given [] h.0)

  pub front_met : (row : Row) (new : View) → Advances mid new 0 row true → (r : Option ℤ)
      → MatchOption r ((id : ℤ) → ¬ IsOf o row id) (IsOf o row) → MatchOption r (HasNone o (old.trees 1)) (IsFirst o row (old.trees 1))
  front_met row new h r = matched r _ _ _ _
      (first_other o (old.trees 1) (old.trees 2) good.kept.held (indexed good listed ordered) (entries_rise good listed ordered) row h.0
      (given (row ∷ h.0) h.1))
      (first_there o (old.trees 1) (old.trees 2) good.kept.held (indexed good listed ordered) (entries_rise good listed ordered) row h.0
      (given (row ∷ h.0) h.1))
