-- The row of an entry of the index is read.
use Rattle.std.proofs.Common.{◌≡◌, inl, ℤ, pos, true, List, [], refl, sym, ap, subst, ◌∙◌, filter}
use Rattle.std.proofs.Common.{slice_get, unwrap_or}
use Rattle.sqlite_value.specs.declared.value.Value.TheVariants.{Int, Blob}
use Rattle.sqlite_value.specs.Order.{Row, column}
use Rattle.sqlite_trees.specs.Tree.{has_rowid, rowid}
use Rattle.sqlite_trees.specs.Objects.{catalog_tree, IsListed}
use Rattle.sqlite_trees.specs.View.{View, Finds, IsOrdered}
use Rattle.sqlite_rules.specs.Lists.{Has}
use Rattle.sqlite_rules.specs.Edit.{id_in}
use Rattle.sqlite_rules.proofs.ListLemmas.{has_filtered}
use Rattle.pgtables.specs.Kept.{copies_in}
use Rattle.pgrows.specs.Dump.{row_at}
use Rattle.pgrows.specs.Rows.{IsGood}
use Rattle.pgrows.specs.Stored.{HasCopies}
use Rattle.pgrows.proofs.SetUp.{indexed, entries_rise}
use Rattle.pgrows.proofs.Ordered.{entry_row}

module _ {v : View} (good : IsGood v) (listed : IsListed (v.trees catalog_tree) v.shape v.reals) (ordered : IsOrdered v.shape v.trees)
    (e : Row) (has : Has (v.trees 2) e) where
  pub row_read : (row : Row) (id : ℤ) → ((m : ℤ) → column e 2 ≡ Int m → id ≡ m) → Finds (v.trees 1) id row true
      → HasCopies row (copies_in (row_at (v.trees 1) e))
  row_read row id id_is finds =
      let r = entry_row v.trees good.kept.held (indexed good listed ordered) (entries_rise good listed ordered) e has in
      let at_id : column e 2 ≡ Int (id_in (rowid r.0)) = ap (λ x. column x 2) r.2 ∙ ap rowid (good.kept.held.formed r.0 r.1) in
      let at : column e 2 ≡ Int id = at_id ∙ ap Int (sym (id_is (id_in (rowid r.0)) at_id)) in
      let here = has_filtered (has_rowid id) (v.trees 1) row (subst (λ l. Has l row) (sym finds) (inl refl)) in
      let formed = good.kept.held.formed row here.0 in
      let is : row_at (v.trees 1) e ≡ row =
      ap (λ k. unwrap_or (slice_get (filter (has_rowid (id_in k)) (v.trees 1)) 0) []) at
      ∙ ap (λ (l : List Row). unwrap_or (slice_get l 0) []) finds in (
        ap (λ x. column x 3) formed ∙ ap (λ x. Blob (copies_in x).body) (sym is),
        ap (λ x. column x 4) formed ∙ ap (λ x. Int (pos (copies_in x).copies)) (sym is),
      )
