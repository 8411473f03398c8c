-- The rows of `held`, and an index of whose entries each names one, with its own key, and which are
-- as many as the rows.
use Rattle.std.proofs.Common.{◌≡◌, ◌≢◌, inl, inr, ℕ, List, [], ◌∷◌, map, refl, sym, ap, subst, ◌∙◌}
use Rattle.std.proofs.Common.{Less, Equal, arith}
use Rattle.std.specs.FinMap.{slice_cmp-IsAntisymmetric, nat_cmp-IsAntisymmetric}
use Rattle.std.proofs.lemmas.Cmp.{nat_list_cmp_total, tied_itself}
use Rattle.std.proofs.lemmas.List.{length-map}
use Rattle.std.proofs.lemmas.List.Sorted.{Contains-permutation, IsPermutation-sym}
use Rattle.sqlite_value.specs.Order.{Row, column, value_cmp}
use Rattle.sqlite_value.specs.Keys.{plain, entry_cmp}
use Rattle.sqlite_value.proofs.KeyLemmas.{entry_cmp_total}
use Rattle.sqlite_value.proofs.OrderLemmas.{value_cmp_total}
use Rattle.sqlite_trees.specs.Tree.{Trees, IsIndex, IsTable, rowid}
use Rattle.sqlite_trees.proofs.ListLemmas.{ascending_weaker}
use Rattle.sqlite_sql.specs.Catalog.{IsIndexOf}
use Rattle.sqlite_rules.specs.Lists.{Has}
use Rattle.sqlite_rules.proofs.ListLemmas.{all_has, has_contained, contains_had}
use Rattle.sqlite_rules.proofs.ProbeLemmas.{mapped_has}
use Rattle.pgtables.specs.Kept.{AreKeyed, Copies, IsApart, copies_in, key_in, tables_in}
use Rattle.pgtables.specs.Opened.{AreAccepted}
use Rattle.pgtables.proofs.HeldRows.{Formed}
use Rattle.pgtables.proofs.Maps.{got_row, row_missing}
use Rattle.pgrows.proofs.Seek.{entry}
use Rattle.pgverify.specs.Seen.{AreMatched, IsHeldRow}
use Rattle.pgverify.specs.Verified.{AreVerified}
use Rattle.pgverify.proofs.Counted.{are_all}
use Rattle.pgverify.proofs.OwnKeys.{IsEntry, own_keys}

-- ---- rowids that rise

not_below : (r s : Row) → rowid r ≡ rowid s → value_cmp (rowid r) (rowid s) ≡ Less → ⊥
not_below r s same less =
    let tie : value_cmp (rowid s) (rowid s) ≡ Equal = tied_itself value_cmp_total (rowid s) in
    let below : value_cmp (rowid s) (rowid s) ≡ Less = ap (λ v. value_cmp v (rowid s)) (sym same) ∙ less in
    cc

pub rowids_once : (rows : List Row) → IsTable rows → AreKeyed rowid rows
rowids_once [] up r s hr hs e = absurd hr
rowids_once (z ∷ zs) up r s (inl p) (inl q) e = p ∙ sym q
rowids_once (z ∷ zs) up r s (inl p) (inr q) e = absurd (not_below z s (sym (ap rowid p) ∙ e) (all_has _ zs s up.0 q))
rowids_once (z ∷ zs) up r s (inr p) (inl q) e = absurd (not_below z r (sym (ap rowid q) ∙ sym e) (all_has _ zs r up.0 p))
rowids_once (z ∷ zs) up r s (inr p) (inr q) e = rowids_once zs up.1 r s p q e

pub rows_apart : (rows : List Row) → IsTable rows → IsApart rows
rows_apart rows up = ascending_weaker _ (λ a b. rowid a ≢ rowid b) (λ a b less same. not_below a b same less) rows up

-- ---- all rows

module _ {C : Type 0} (accepts : C → ℕ → List ℕ → Copies → Type 0) (check : C) (db : Trees)
    (matched : AreMatched accepts check (db 1) (db 2)) (table : IsTable (db 1)) (up : IsIndex plain (db 2)) where
  not_same : (e f : Row) → entry_cmp plain e f ≡ Less → e ≢ f
  not_same e f less same =
      let tie : entry_cmp plain f f ≡ Equal = tied_itself (entry_cmp_total plain) f in
      let below : entry_cmp plain f f ≡ Less = ap (λ x. entry_cmp plain x f) (sym same) ∙ less in
      cc

  is_of_row : (e : Row) → Has (db 2) e → Has (map entry (db 1)) e
  is_of_row e h =
      let it = matched.named e h in
      subst (Has (map entry (db 1))) (sym it.is) (mapped_has entry (db 1) it.row it.there)

  indexed : IsIndexOf (1 ∷ 2 ∷ []) (db 1) (db 2)
  indexed = IsPermutation-sym _ _ (are_all (db 2) (map entry (db 1)) (ascending_weaker _ (λ e f. e ≢ f) not_same (db 2) up) is_of_row
      (omega (arith, length-map (db 1) entry, matched.count)))

  row_entry : (r : Row) → Has (db 1) r → Has (db 2) (entry r)
  row_entry r h = has_contained _ _ (Contains-permutation _ _ _ indexed (contains_had _ _ (mapped_has entry (db 1) r h)))

  -- the row that its entry names is itself
  each : (r : Row) → Has (db 1) r → IsHeldRow accepts check r
  each r h =
      let it = matched.named (entry r) (row_entry r h) in
      let same : r ≡ it.row = rowids_once (db 1) table r it.row h it.there (ap (λ x. column x 2) it.is) in
      subst (IsHeldRow accepts check) (sym same) it.held

  formed : (r : Row) → Has (db 1) r → Formed r
  formed r h = subst Formed (sym (each r h).is) refl

  is_entry : (e : Row) → Has (db 2) e → IsEntry e
  is_entry e h =
      let it = matched.named e h in
      record { oid = it.held.oid; ident = it.held.ident; id = it.held.id; is = it.is ∙ ap entry it.held.is }

  keyed : AreKeyed key_in (db 1)
  keyed r s hr hs e =
      let same : entry r ≡ entry s = own_keys (db 2) is_entry up matched.apart (entry r) (entry s) (row_entry r hr) (row_entry s hs) e in
      rowids_once (db 1) table r s hr hs (ap (λ x. column x 2) same)

  accepted : AreAccepted accepts check (tables_in db)
  accepted = record {
    each = λ oid ident kept h.
        let r = got_row nat_list_cmp_total (slice_cmp-IsAntisymmetric nat_cmp-IsAntisymmetric) key_in copies_in (db 1) (oid ∷ ident) kept
        h in
        let it = each r.0 r.1 in
        let keys : it.oid ∷ it.ident ≡ oid ∷ ident = sym (ap key_in it.is) ∙ r.2 in
        let copies : it.kept ≡ kept = sym (ap copies_in it.is) ∙ r.3 in
        let at_oid : it.oid ≡ oid = cc in
        let at_ident : it.ident ≡ ident = cc in
        subst (accepts check oid ident) copies
        (subst (λ i. accepts check oid i it.kept) at_ident (subst (λ o. accepts check o it.ident it.kept) at_oid it.accepted));
    keyed = row_missing nat_list_cmp_total (slice_cmp-IsAntisymmetric nat_cmp-IsAntisymmetric) key_in copies_in (db 1) [] (λ r h e. cc);
  }

  pub verified : AreVerified accepts check db
  verified = record {
    held = record { formed = formed; rowids = rowids_once (db 1) table; keyed = keyed; table = rows_apart (db 1) table };
    accepted = accepted;
    indexed = indexed;
  }
