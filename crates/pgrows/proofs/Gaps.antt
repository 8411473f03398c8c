-- A gap of the index: how a seek finds it, what it tells of a key, and which changes keep it.
use Rattle.std.proofs.Common.{◌≡◌, inl, inr, ℕ, ℤ, ◌≤◌, pos, Bool, true, false, not, List, [], ◌∷◌}
use Rattle.std.proofs.Common.{Option, Some, None, refl, sym, ap, subst, subst₂, ◌∙◌, arith}
use Rattle.std.proofs.Common.{true≢false, Ordering, Less, Equal, Greater, cond}
use Rattle.std.specs.Prelude.{IsSome, if◌then◌else◌}
use Rattle.std.specs.Ordering.{nat_cmp, is_lt, is_eq, eq_by_cmp, ordering_then, ordering_reverse}
use Rattle.std.specs.FinMap.{FinMap, get, insert, get-insert, get-remove, get-retain_keys}
use Rattle.std.specs.FinMap.{nat_cmp-IsAntisymmetric}
use Rattle.std.specs.Cmp.Lexicographic.{slice_cmp}
use Rattle.std.proofs.lemmas.Bool.{cases_Bool, not-true}
use Rattle.std.proofs.lemmas.Cmp.{nat_cmp_total, nat_list_cmp_total, tied_itself}
use Rattle.sqlite_value.specs.declared.value.Value.TheVariants.{Int, Blob}
use Rattle.sqlite_value.specs.Order.{Row, column, bytes}
use Rattle.sqlite_value.specs.Keys.{plain, prefix_cmp}
use Rattle.sqlite_trees.specs.Tree.{Trees, IsIndex, from_key}
use Rattle.sqlite_trees.specs.Objects.{catalog_tree, IsListed}
use Rattle.sqlite_trees.specs.Tree.{order_of, sought}
use Rattle.sqlite_trees.specs.View.{View, doubt, IsClean, IsOrdered, Advances, with_cursor}
use Rattle.sqlite_trees.specs.declared.store.Direction.TheVariants.{Forward}
use Rattle.sqlite_sql.specs.Catalog.{IsIndexOf}
use Rattle.sqlite.specs.Store.{Ghosts}
use Rattle.sqlite.specs.State.{HasCleanDisk}
use Rattle.sqlite_rules.specs.Lists.{Has}
use Rattle.sqlite_rules.proofs.ListLemmas.{has_kept}
use Rattle.pgtables.specs.Kept.{AreHeld, Copies, Tables, copies_in, is_of, is_there, key_in}
use Rattle.pgtables.specs.Kept.{number_in, tables_in, with_row, without_row, without_rows}
use Rattle.pgtables.proofs.Maps.{cases_Option, equal, got_row, row_got}
use Rattle.pgtables.proofs.HeldRows.{the_map}
use Rattle.pgrows.specs.Dump.{key_at}
use Rattle.pgrows.specs.Gap.{IsGap, IsNext, IsPast, IsReached}
use Rattle.pgrows.specs.Rows.{AreBehind, AreRows, HasGap, IsFree, IsGood, IsHeld, Keeps, Makes}
use Rattle.pgrows.specs.Rows.{index_row, key_of, state, tables_of, with_row_if_there}
use Rattle.pgrows.proofs.SetUp.{indexed, entries_rise}
use Rattle.pgrows.proofs.Seek.{entry, passes, left_is, compared, first_in, before}
use Rattle.pgrows.proofs.Ordered.{R, same_key, entry_row, row_entry, rising}
use Rattle.pgrows.proofs.Found.{behind_kept, given}

-- ---- identities in their order

less : (c : Ordering) → is_lt c ≡ true → c ≡ Less
less Less h = refl
less Equal h = absurd (true≢false (sym h))
less Greater h = absurd (true≢false (sym h))

turned : (a b : List ℕ) → is_lt (R a b) ≡ true → R b a ≡ Greater
turned a b h = nat_list_cmp_total.antisymm b a ∙ ap ordering_reverse (less (R a b) h)

follows : (a b c : List ℕ) → is_lt (R a b) ≡ true → is_lt (R b c) ≡ true → is_lt (R a c) ≡ true
follows a b c p q = ap is_lt (nat_list_cmp_total.trans a b c (less (R a b) p) (less (R b c) q))

-- keys of one relation are ordered as their identities
pub inside : (o : ℕ) (a b : List ℕ) → R (o ∷ a) (o ∷ b) ≡ R a b
inside o a b = ap (λ c. ordering_then c (R a b)) (tied_itself nat_cmp_total o)

-- a key from this one on and below one of the same relation is of that relation
squeezed : (a o : ℕ) (h i j : List ℕ) → is_lt (R (a ∷ h) (o ∷ i)) ≡ false → is_lt (R (a ∷ h) (o ∷ j)) ≡ true
    → (a ≡ o) × (is_lt (R j h) ≡ false)
squeezed a o h i j from_it below = by_oid (nat_cmp a o) refl
  where
    by_oid : (c : Ordering) → nat_cmp a o ≡ c → (a ≡ o) × (is_lt (R j h) ≡ false)
    by_oid Less is = absurd (true≢false (ap (λ c. is_lt (ordering_then c (R h i))) (sym is) ∙ from_it))
    by_oid Equal is = (nat_cmp-IsAntisymmetric a o is, ap is_lt (turned h j (ap (λ c. is_lt (ordering_then c (R h j))) (sym is) ∙ below)))
    by_oid Greater is = absurd (true≢false (sym below ∙ ap (λ c. is_lt (ordering_then c (R h j))) is))

-- ---- what a seek finds behind a key

module _ (db : Trees) (held : AreHeld (db 1)) (indexed : IsIndexOf (1 ∷ 2 ∷ []) (db 1) (db 2)) (up : IsIndex plain (db 2)) (o : ℕ)
    (i : List ℕ) where
  above_left : (r : Row) → Has (db 1) r → (j : List ℕ) → key_in r ≡ o ∷ j → is_lt (R i j) ≡ true
      → Has (from_key plain (key_of o i) (db 2)) (entry r)
  above_left r h j is above =
      let over : is_lt (R (key_in r) (o ∷ i)) ≡ false = ap (λ k. is_lt (R k (o ∷ i))) is ∙ ap is_lt (inside o j i ∙ turned i j above) in
      subst (λ l. Has l (entry r)) (sym (left_is o i (db 1) (db 2) held indexed up))
      (has_kept (passes o i (db 1) (db 2) held indexed up) (db 2) (entry r) (row_entry db held indexed up r h)
      (ap not (ap is_lt (compared o i (db 1) (db 2) held indexed up r h) ∙ over)))

  pub some_row : (j : List ℕ) → IsSome (get (the_map (db 1)) (o ∷ j)) → (r : Row) × Has (db 1) r × (key_in r ≡ o ∷ j)
  some_row j some = elim (cases_Option (get (the_map (db 1)) (o ∷ j))) [
    | inl none ↦ absurd (true≢false (sym (subst IsSome none some)))
    | inr there ↦ let r = got_row nat_list_cmp_total same_key key_in copies_in (db 1) (o ∷ j) there.0 there.1 in (r.0, r.1, r.2)
  ]

  pub none_next : from_key plain (key_of o i) (db 2) ≡ [] → IsNext o i [] (the_map (db 1))
  none_next none j above some =
      let r = some_row j some in
      absurd (subst (λ l. Has l (entry r.0)) none (above_left r.0 r.1 j r.2 above))

  module _ (first : Row) (more : List Row) (left : from_key plain (key_of o i) (db 2) ≡ first ∷ more) where
    -- the row that was asked for
    pub itself : (r : Row) → Has (db 1) r → (j : List ℕ) → key_in r ≡ o ∷ j → first ≡ entry r → IsReached o j first
    itself r h j is same =
        let oid : number_in (column r 1) ≡ o = cc in
        let ident : bytes (column r 2) ≡ j = cc in
        record {
          ident = j;
          oid_is = ap (λ e. column e 0) same ∙ ap (λ x. column x 1) (held.formed r h) ∙ ap (λ n. Int (pos n)) oid;
          ident_is = ap (λ e. column e 1) same ∙ ap (λ x. column x 2) (held.formed r h) ∙ ap Blob ident;
          not_above = ap is_lt (tied_itself nat_list_cmp_total j);
        }

    -- one behind the first
    pub later : (r : Row) → Has (db 1) r → (j : List ℕ) → key_in r ≡ o ∷ j → Has more (entry r) → IsReached o j first
    later r h j is behind =
        let there = first_in o i (db 1) (db 2) held indexed up first more left in
        let s = entry_row db held indexed up first there.0 in
        let oid_at : column s.0 1 ≡ Int (pos (number_in (column s.0 1))) = ap (λ x. column x 1) (held.formed s.0 s.1) in
        let ident_at : column s.0 2 ≡ Blob (bytes (column s.0 2)) = ap (λ x. column x 2) (held.formed s.0 s.1) in
        let from_it : is_lt (R (key_in s.0) (o ∷ i)) ≡ false =
        ap is_lt (sym (compared o i (db 1) (db 2) held indexed up s.0 s.1)) ∙ ap (λ e. is_lt (prefix_cmp plain e (key_of o i))) (sym s.2)
        ∙ not-true _ there.1 in
        let rises : is_lt (R (key_at first) (key_at (entry r))) ≡ true =
        rising db held indexed up first (entry r) there.0 (row_entry db held indexed up r h)
        (before o i (db 1) (db 2) held indexed up first more left (entry r) behind) in
        let below : is_lt (R (key_in s.0) (o ∷ j)) ≡ true = subst₂ (λ a b. is_lt (R a b) ≡ true) (ap key_at s.2) is rises in
        let it = squeezed (number_in (column s.0 1)) o (bytes (column s.0 2)) i j from_it below in
        record {
          ident = bytes (column s.0 2);
          oid_is = ap (λ e. column e 0) s.2 ∙ oid_at ∙ ap (λ n. Int (pos n)) it.0;
          ident_is = ap (λ e. column e 1) s.2 ∙ ident_at;
          not_above = it.1;
        }

    pub first_next : IsNext o i first (the_map (db 1))
    first_next j above some =
        let r = some_row j some in
        elim (subst (λ l. Has l (entry r.0)) left (above_left r.0 r.1 j r.2 above)) [
          | inl same ↦ itself r.0 r.1 j r.2 (sym same)
          | inr behind ↦ later r.0 r.1 j r.2 behind
        ]

module _ {old mid : View} (good : IsGood old) (listed : IsListed (old.trees catalog_tree) old.shape old.reals)
    (ordered : IsOrdered old.shape old.trees) (o : ℕ) (i : List ℕ) (key : Row) (key_is : key ≡ key_of o i)
    (placed : mid ≡ with_cursor old 0 (sought (order_of (old.shape 2)) Forward key (old.trees 2))) where
  pub ended_next : (row : Row) (new : View) → Advances mid new 0 row false → IsNext o i [] (the_map (old.trees 1))
  ended_next row new h = none_next old.trees good.kept.held (indexed good listed ordered) (entries_rise good listed ordered) o i
      (given good listed ordered o i key key_is placed [] h.0)

  pub met_next : (row : Row) (new : View) → Advances mid new 0 row true → IsNext o i row (the_map (old.trees 1))
  met_next row new h = first_next old.trees good.kept.held (indexed good listed ordered) (entries_rise good listed ordered) o i row h.0
      (given good listed ordered o i key key_is placed (row ∷ h.0) h.1)

-- ---- what the gap tells of a key

abbrev Held : Type 0
Held = FinMap (slice_cmp nat_cmp) Copies

pub no_gap : (high : Row) (rows : Held) → IsGap [] high rows
no_gap high rows o l oid ident = absurd (let e = oid in cc)

pub gap_next : (low high : Row) (rows : Held) (o : ℕ) (i : List ℕ) → IsGap low high rows → IsPast o i low → IsNext o i high rows
gap_next low high rows o i gap past j above some =
    gap o past.ident past.oid_is past.ident_is j (follows past.ident i j past.below above) some

pub gap_free : (low high : Row) (rows : Held) (o : ℕ) (i : List ℕ) → IsGap low high rows → IsPast o i low → ¬ IsReached o i high
    → get rows (o ∷ i) ≡ None
gap_free low high rows o i gap past ahead = elim (cases_Option (get rows (o ∷ i))) [
  | inl none ↦ none
  | inr there ↦ absurd (ahead (gap o past.ident past.oid_is past.ident_is i past.below (subst IsSome (sym there.1) refl)))
]

-- no row has a key in the gap
pub free_at : (db : Trees) → AreHeld (db 1) → (low high : Row) (o : ℕ) (i : List ℕ) → IsGap low high (tables_in db).rows → IsPast o i low
    → ¬ IsReached o i high → IsFree o i (db 1)
free_at db held low high o i gap past ahead r h is =
    let got : get (the_map (db 1)) (key_in r) ≡ Some (copies_in r) =
    row_got nat_list_cmp_total same_key key_in copies_in (db 1) r held.keyed h in
    let none : None ≡ Some (copies_in r) = sym (gap_free low high _ o i gap past ahead) ∙ ap (get (the_map (db 1))) (sym is) ∙ got in
    absurd cc

-- ---- which changes keep it

-- the row that comes is where the gap begins
begins : (o : ℕ) (i : List ℕ) (id : ℤ) (k : Copies) (high : Row) (rows : Held) → IsNext o i high rows
    → IsGap (index_row o i id) high (insert rows (o ∷ i) k)
begins o i id k high rows next p l oid ident j above some =
    let o_is : o ≡ p = cc in
    let i_is : i ≡ l = cc in
    let over : is_lt (R i j) ≡ true = subst (λ x. is_lt (R x j) ≡ true) (sym i_is) above in
    let other : eq_by_cmp R (o ∷ j) (o ∷ i) ≡ false = ap is_eq (inside o j i ∙ turned i j over) in
    let stays : get (insert rows (o ∷ i) k) (o ∷ j) ≡ get rows (o ∷ j) =
    get-insert nat_list_cmp_total rows (o ∷ i) k (o ∷ j) ∙ ap (λ b. cond b (Some k) (get rows (o ∷ j))) other in
    let there : IsSome (get (insert rows (o ∷ i) k) (o ∷ j)) = subst (λ x. IsSome (get (insert rows (o ∷ i) k) (x ∷ j))) (sym o_is) some in
    subst (λ x. IsReached x j high) o_is (next j over (subst IsSome stays there))

pub put_gap : (o : ℕ) (i : List ℕ) (id : ℤ) (k : Copies) (low high : Row) (old new : Tables) → low ≡ index_row o i id
    → new ≡ with_row o i k old → IsNext o i high old.rows → IsGap low high new.rows
put_gap o i id k low high old new low_is made next =
    subst₂ (λ (l : Row) (t : Tables). IsGap l high t.rows) (sym low_is) (sym made) (begins o i id k high old.rows next)

-- no key comes
abbrev pub AddsNone : (Tables → Tables) → Type 0
AddsNone change = (t : Tables) (q : List ℕ) → IsSome (get (change t).rows q) → IsSome (get t.rows q)

pub adds_none_set : (o : ℕ) (i : List ℕ) (k : Copies) → AddsNone (with_row_if_there o i k)
adds_none_set o i k t q some = elim (cases_Bool (is_there o i t)) [
  | inr missing ↦ subst (λ b. IsSome (get (if b then with_row o i k t else t).rows q)) missing some
  | inl there ↦
      let put : IsSome (get (insert t.rows (o ∷ i) k) q) =
      subst (λ b. IsSome (get (if b then with_row o i k t else t).rows q)) there some in
      elim (cases_Bool (eq_by_cmp R q (o ∷ i))) [
        | inl same ↦ subst (λ x. IsSome (get t.rows x)) (sym (same_key q (o ∷ i) (equal _ same))) there
        | inr other ↦ subst IsSome (get-insert nat_list_cmp_total t.rows (o ∷ i) k q ∙ ap (λ b. cond b (Some k) (get t.rows q)) other) put
      ]
]

left_some : {X : Type 0} (b : Bool) (x : Option X) → IsSome (cond b None x) → IsSome x
left_some true x some = absurd (true≢false (sym some))
left_some false x some = some

kept_some : {X : Type 0} (b : Bool) (x : Option X) → IsSome (cond b x None) → IsSome x
kept_some true x some = some
kept_some false x some = absurd (true≢false (sym some))

pub adds_none_removed : (o : ℕ) (i : List ℕ) → AddsNone (without_row o i)
adds_none_removed o i t q some = left_some _ _ (subst IsSome (get-remove nat_list_cmp_total t.rows (o ∷ i) q) some)

pub adds_none_cleared : (o : ℕ) → AddsNone (without_rows o)
adds_none_cleared o t q some =
    kept_some _ _ (subst IsSome
    (get-retain_keys t.rows (λ key. not (is_of o key)) q (λ x tie. ap (λ key. not (is_of o key)) (sym (same_key q x tie)))) some)

pub gap_fewer : (low high : Row) (rows fewer : Held) → ((q : List ℕ) → IsSome (get fewer q) → IsSome (get rows q)) → IsGap low high rows
    → IsGap low high fewer
gap_fewer low high rows fewer none gap o l oid ident i above some = gap o l oid ident i above (none (o ∷ i) some)

-- the trees stay
pub gap_same : (low high : Row) (old new : View) → new.trees ≡ old.trees → IsGap low high (tables_in old.trees).rows
    → IsGap low high (tables_in new.trees).rows
gap_same low high old new same = subst (λ (db : Trees). IsGap low high (tables_in db).rows) (sym same)

module _ {S : Type 0} (g : Ghosts S) where
  pub gap_kept : (old new : S) (low high : Row) (change : Tables → Tables) → AddsNone change
      → doubt (g.view old).is_clean ≤ doubt (g.view new).is_clean → (IsClean (g.view new) → Makes g change old new)
      → HasGap g old low high → HasGap g new low high
  gap_kept old new low high change none doubts makes gap clean up =
      let m = makes clean in
      gap_fewer low high _ _ (λ q some. none (tables_of g old) q (subst (λ (t : Tables). IsSome (get t.rows q)) m.made some))
      (gap (omega (arith, doubts)) m.was_open)

  pub gap_none : (s : S) (high : Row) → HasGap g s [] high
  gap_none s high clean up = no_gap high _

  -- what holds between calls, after one that went well and after one that failed
  pub held_on : (s : S) (last : Option ℤ) (low high : Row) (failed : Bool) → AreRows g s last → HasGap g s low high
      → IsHeld g s last low high failed
  held_on s last low high failed rows gap = record { behind = λ clean up. (rows clean up).behind; rows = λ _. rows; gap = λ _. gap }

  pub held_failed : (old new : S) (last : Option ℤ) (low high : Row) → doubt (g.view old).is_clean ≤ doubt (g.view new).is_clean
      → (HasCleanDisk (state g new) → Keeps g old new) → AreBehind g old last → IsHeld g new last low high true
  held_failed old new last low high doubts keeps behind = record {
    behind = behind_kept g old new last doubts keeps behind;
    rows = λ sound. absurd (true≢false sound);
    gap = λ sound. absurd (true≢false sound);
  }
