-- The index gives the rows in the order of their keys, so what is shown of them in its order is the
-- dump.
use Rattle.std.proofs.Common.{◌≡◌, ◌⊎◌, inl, inr, ℕ, ℤ, pos, Bool, true, false, ◌&&◌, List, [], ◌∷◌}
use Rattle.std.proofs.Common.{map, filter, Some, refl, sym, ap, subst, subst₂, ◌∙◌, Ordering, Less}
use Rattle.std.proofs.Common.{Equal, nat_cmp}
use Rattle.std.specs.Prelude.{T, slice_get, unwrap_or}
use Rattle.std.specs.Ordering.{is_lt, ordering_then}
use Rattle.std.specs.Cmp.Lexicographic.{slice_cmp}
use Rattle.std.specs.FinMap.{IsAntisymmetric, get, find, entries, entries_sorted, get-entries}
use Rattle.std.specs.FinMap.{nat_cmp-IsAntisymmetric, slice_cmp-IsAntisymmetric}
use Rattle.std.specs.FinMap.Entries.{is_sorted, below_all, same_entries}
use Rattle.std.proofs.lemmas.Cmp.{nat_list_cmp_total, tied_itself}
use Rattle.std.proofs.lemmas.List.Sorted.{Contains-permutation, IsPermutation-sym}
use Rattle.sqlite_value.specs.declared.value.Value.TheVariants.{Int}
use Rattle.sqlite_value.specs.Order.{Row, column, bytes}
use Rattle.sqlite_value.specs.Keys.{plain, entry_cmp}
use Rattle.sqlite_value.proofs.KeyLemmas.{entry_cmp-plain, entry_cmp_total, then_below}
use Rattle.sqlite_value.proofs.OrderLemmas.{value_cmp-Int, value_cmp-Blob}
use Rattle.sqlite_trees.specs.Tree.{Trees, IsIndex, rowid, has_rowid}
use Rattle.sqlite_sql.specs.Catalog.{IsIndexOf}
use Rattle.sqlite_rules.specs.Lists.{Has}
use Rattle.sqlite_rules.specs.Edit.{id_in}
use Rattle.sqlite_rules.proofs.ListLemmas.{all_has, has_contained, contains_had}
use Rattle.sqlite_rules.proofs.ProbeLemmas.{mapped_has, has_mapped}
use Rattle.pgtables.specs.Kept.{AreHeld, Copies, copies_in, key_in, number_in, tables_in}
use Rattle.pgtables.specs.DumpOrder.{dump_of, shown_at}
use Rattle.pgtables.proofs.Edits.{has_own_rowid, rowid_is}
use Rattle.pgtables.proofs.Maps.{alike, got_row, row_got}
use Rattle.pgtables.proofs.Queries.{map_twice}
use Rattle.pgtables.proofs.Sorted.{entry_has, entry_some, one_of}
use Rattle.pgrows.specs.Rows.{index_row}
use Rattle.pgrows.specs.Dump.{key_at, row_at, shown_by}
use Rattle.pgrows.proofs.Seek.{entry, nat_as_int}

abbrev pub R : List ℕ → List ℕ → Ordering
R = slice_cmp nat_cmp

abbrev pub same_key : IsAntisymmetric R
same_key = slice_cmp-IsAntisymmetric nat_cmp-IsAntisymmetric

-- of two entries the lower one has the lower key, or both have the same
lower_key : (a a' : ℕ) (b b' : List ℕ) (m m' : ℤ) → entry_cmp plain (index_row a b m) (index_row a' b' m') ≡ Less
    → (R (a ∷ b) (a' ∷ b') ≡ Less) ⊎ (◌≡◌ {A = List ℕ} (a ∷ b) (a' ∷ b'))
lower_key a a' b b' m m' h =
    let rows = sym (entry_cmp-plain (index_row a b m) (index_row a' b' m')) ∙ h in
    let oids = value_cmp-Int (pos a) (pos a') ∙ nat_as_int a a' in
    elim (then_below _ _ rows) [
      | inl less ↦ inl (ap (λ o. ordering_then o (R b b')) (sym oids ∙ less))
      | inr tied ↦
          let first : nat_cmp a a' ≡ Equal = sym oids ∙ tied.0 in
          elim (then_below _ _ tied.1) [
            | inl less ↦ inl (ap (λ o. ordering_then o (R b b')) first ∙ sym (value_cmp-Blob b b') ∙ less)
            | inr also ↦ inr (same_key (a ∷ b) (a' ∷ b') (ap (λ o. ordering_then o (R b b')) first ∙ sym (value_cmp-Blob b b') ∙ also.0))
          ]
    ]

pub both : (a b : Bool) → T a → T b → T (a && b)
both true b p q = q
both false b p q = p

module _ (db : Trees) (held : AreHeld (db 1)) (indexed : IsIndexOf (1 ∷ 2 ∷ []) (db 1) (db 2)) (up : IsIndex plain (db 2)) where
  abbrev pub rows : List Row
  rows = db 1

  abbrev pub copies_at : Row → Copies
  copies_at e = copies_in (row_at rows e)

  pub entry_row : (e : Row) → Has (db 2) e → (r : Row) × Has rows r × (e ≡ entry r)
  entry_row e h = has_mapped entry rows e
      (has_contained _ e (Contains-permutation _ _ e (IsPermutation-sym _ _ indexed) (contains_had (db 2) e h)))

  pub row_entry : (r : Row) → Has rows r → Has (db 2) (entry r)
  row_entry r h = has_contained _ _ (Contains-permutation _ _ _ indexed (contains_had _ _ (mapped_has entry rows r h)))

  -- the row that an entry's rowid finds
  pub found_by : (r : Row) → Has rows r → filter (has_rowid (id_in (rowid r))) rows ≡ r ∷ []
  found_by r h =
      let id = id_in (rowid r) in
      one_of (has_rowid id) (Int id) rows
      (λ s hs is. let at : rowid s ≡ Int (id_in (rowid s)) = ap rowid (held.formed s hs) in
      at ∙ ap Int (rowid_is id (id_in (rowid s)) s at is))
      held.table r h (has_own_rowid id r (ap rowid (held.formed r h)))

  pub row_is : (r : Row) → Has rows r → row_at rows (entry r) ≡ r
  row_is r h = ap (λ (l : List Row). unwrap_or (slice_get l 0) []) (found_by r h)

  pub copies_are : (r : Row) → Has rows r → copies_at (entry r) ≡ copies_in r
  copies_are r h = ap copies_in (row_is r h)

  pub rising : (e f : Row) → Has (db 2) e → Has (db 2) f → entry_cmp plain e f ≡ Less → is_lt (R (key_at e) (key_at f)) ≡ true
  rising e f he hf less =
      let r = entry_row e he in
      let s = entry_row f hf in
      let form_r = held.formed r.0 r.1 in
      let form_s = held.formed s.0 s.1 in
      let e_is : e ≡ index_row (number_in (column r.0 1)) (bytes (column r.0 2)) (id_in (rowid r.0)) = r.2 ∙ ap entry form_r in
      let f_is : f ≡ index_row (number_in (column s.0 1)) (bytes (column s.0 2)) (id_in (rowid s.0)) = s.2 ∙ ap entry form_s in
      let low = subst₂ (λ x y. entry_cmp plain x y ≡ Less) e_is f_is less in
      let e_key : key_at e ≡ key_in r.0 = ap key_at r.2 in
      let f_key : key_at f ≡ key_in s.0 = ap key_at s.2 in
      elim (lower_key (number_in (column r.0 1)) (number_in (column s.0 1)) (bytes (column r.0 2)) (bytes (column s.0 2))
      (id_in (rowid r.0)) (id_in (rowid s.0)) low) [
        | inl lower ↦ ap (λ k. is_lt (R k (key_at f))) e_key ∙ ap (λ k. is_lt (R (key_in r.0) k)) f_key ∙ ap is_lt lower
        | inr same ↦
            let one : r.0 ≡ s.0 = held.keyed r.0 s.0 r.1 s.1 same in
            let equal : e ≡ f = r.2 ∙ ap entry one ∙ sym s.2 in
            let tie = sym (tied_itself (entry_cmp_total plain) f) ∙ ap (λ x. entry_cmp plain x f) (sym equal) ∙ less in
            absurd cc
      ]

  all_lower : (e : Row) (es : List Row) → ((f : Row) → Has es f → is_lt (R (key_at e) (key_at f)) ≡ true)
      → T (below_all R (key_at e) (map (λ f. (key_at f, copies_at f)) es))
  all_lower e [] each = tt
  all_lower e (f ∷ es) each = rw (each f (inl refl)) (all_lower e es (λ x h. each x (inr h)))

  sorted : (es : List Row) → ((e : Row) → Has es e → Has (db 2) e) → IsIndex plain es
      → T (is_sorted R (map (λ f. (key_at f, copies_at f)) es))
  sorted [] within rises = tt
  sorted (e ∷ es) within rises =
      both _ _ (all_lower e es (λ f h. rising e f (within e (inl refl)) (within f (inr h)) (all_has _ es f rises.0 h)))
      (sorted es (λ f h. within f (inr h)) rises.1)

  gives : (q : List ℕ) → find R q (map (λ f. (key_at f, copies_at f)) (db 2)) ≡ get (tables_in db).rows q
  gives q = alike _ _
      (λ v h.
      let e = entry_some nat_list_cmp_total same_key key_at copies_at (db 2) q v h in
      let r = entry_row e.0 e.1 in
      let at : key_in r.0 ≡ q = sym (ap key_at r.2) ∙ e.2 in
      let copies : copies_in r.0 ≡ v = sym (copies_are r.0 r.1) ∙ sym (ap copies_at r.2) ∙ e.3 in
      ap (get (tables_in db).rows) (sym at) ∙ row_got nat_list_cmp_total same_key key_in copies_in rows r.0 held.keyed r.1 ∙ ap Some copies)
      (λ v h.
      let r = got_row nat_list_cmp_total same_key key_in copies_in rows q v h in
      let one = entry_has nat_list_cmp_total same_key key_at copies_at (db 2) (entry r.0)
      (λ f hf e. let s = entry_row f hf in s.2 ∙ ap entry (held.keyed s.0 r.0 s.1 r.1 (sym (ap key_at s.2) ∙ e))) (row_entry r.0 r.1) in
      subst (λ k. find R k (map (λ f. (key_at f, copies_at f)) (db 2)) ≡ Some (copies_at (entry r.0))) r.2 one
      ∙ ap Some (copies_are r.0 r.1 ∙ r.3))

  pub dumped : map (shown_by db) (db 2) ≡ dump_of (tables_in db)
  dumped =
      let t = tables_in db in
      let same = same_entries R nat_list_cmp_total same_key (map (λ f. (key_at f, copies_at f)) (db 2)) (entries t.rows)
      (sorted (db 2) (λ e h. h) up) (entries_sorted t.rows) (λ q. gives q ∙ get-entries t.rows q) in
      sym (map_twice (λ f. (key_at f, copies_at f)) (λ e. shown_at t e.0 e.1) (db 2)) ∙ ap (map (λ e. shown_at t e.0 e.1)) same
