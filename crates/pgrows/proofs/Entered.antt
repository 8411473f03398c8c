-- A row and its entry, put or taken out one after the other, are an edit of the table that its
-- index follows.
use Rattle.std.proofs.Common.{◌≡◌, ℕ, ℤ, ◌<ℤ◌, List, [], ◌∷◌, filter, pos, refl, sym, ap, subst}
use Rattle.std.proofs.Common.{◌∙◌}
use Rattle.sqlite_value.specs.declared.value.Value.TheVariants.{Int, Blob}
use Rattle.sqlite_value.specs.Order.{Row}
use Rattle.sqlite_trees.specs.Tree.{IsIndexShape, order_of, rowid, has_rowid, put_row}
use Rattle.sqlite_trees.specs.Tree.{without_rowid, insert_entry, remove_entry, with_tree}
use Rattle.sqlite_trees.specs.Objects.{catalog_tree, IsListed}
use Rattle.sqlite_trees.specs.View.{View, IsOrdered, SetsTree}
use Rattle.sqlite_sql.specs.Catalog.{entry_of}
use Rattle.sqlite_rules.specs.Edit.{id_in}
use Rattle.sqlite_exec.specs.Calls.{IsReady, SetsTable}
use Rattle.sqlite_exec.specs.Write.{EditsIndexes}
use Rattle.sqlite_exec.proofs.WriteLemmas as writes
use Rattle.pgtables.specs.Kept.{Copies, IsKept, held_row, tables_in, with_row, without_row}
use Rattle.pgtables.proofs.Edits.{has_own_rowid, rowid_is}
use Rattle.pgtables.proofs.Sorted.{one_of}
use Rattle.pgrows.specs.Rows.{AreBelow, IsFree, IsGood, IsStored, database, index_row}
use Rattle.pgrows.proofs.SetUp.{the_catalog, lists_it, index_shape, is_ready, rises, table_shape}
use Rattle.pgrows.proofs.Placed.{none_with, placed_row, still_below}
use Rattle.pgrows.proofs.Edited.{deleted_by, deleted_below}

module _ {old : View} (good : IsGood old) (listed : IsListed (old.trees catalog_tree) old.shape old.reals)
    (ordered : IsOrdered old.shape old.trees) where
  pub is_index : IsIndexShape (old.shape 2)
  is_index = subst IsIndexShape (sym (index_shape good listed ordered)) refl

  ready_now : IsReady old the_catalog
  ready_now = is_ready good listed ordered the_catalog lists_it

  both_put : (mid new : View) (entry row : Row) (id : ℤ) → entry ≡ entry_of (1 ∷ 2 ∷ []) row → rowid row ≡ Int id
      → filter (has_rowid id) (old.trees 1) ≡ []
      → SetsTree old mid 2 (insert_entry (order_of (old.shape 2)) entry) → SetsTree mid new 1 (put_row row)
      → SetsTable the_catalog old new 1 (put_row row (old.trees 1))
  both_put mid new entry row id is keyed none first second =
      let shape = index_shape good listed ordered in
      let edits : EditsIndexes insert_entry the_catalog 1 row old mid =
      first.is ∙ (λ i. record old
      { trees = with_tree old.trees 2 (insert_entry (order_of (shape i)) (is i) (old.trees 2)); cursors = mid.cursors }) in
      let table = table_shape good listed ordered in
      let out = writes.nothing_indexed the_catalog 1 id old ready_now table good.unbroken none in
      writes.put the_catalog 1 id old old ready_now.shaped table out row mid new keyed (rises good listed ordered) edits second

  both_taken : (mid new : View) (entry row : Row) (id : ℤ) → entry ≡ entry_of (1 ∷ 2 ∷ []) row
      → filter (has_rowid id) (old.trees 1) ≡ row ∷ []
      → SetsTree old mid 2 (remove_entry (order_of (old.shape 2)) entry) → SetsTree mid new 1 (without_rowid id)
      → SetsTable the_catalog old new 1 (without_rowid id (old.trees 1))
  both_taken mid new entry row id is found first second =
      let shape = index_shape good listed ordered in
      let edits : EditsIndexes remove_entry the_catalog 1 row old mid =
      first.is ∙ (λ i. record old
      { trees = with_tree old.trees 2 (remove_entry (order_of (shape i)) (is i) (old.trees 2)); cursors = mid.cursors }) in
      let table = table_shape good listed ordered in
      let out = writes.unindexed the_catalog 1 id old ready_now table good.unbroken row mid found edits in
      writes.deleted the_catalog 1 id old mid ready_now.shaped table out new second

  -- a row of a new key comes, with its entry
  pub row_comes : (o : ℕ) (i : List ℕ) (k : Copies) (id last : ℤ) (mid new : View) (entry row : Row) → row ≡ held_row (Int id) o i k
      → entry ≡ index_row o i id → IsFree o i (old.trees 1) → AreBelow last (old.trees 1) → last <ℤ id
      → SetsTree old mid 2 (insert_entry (order_of (old.shape 2)) entry) → SetsTree mid new 1 (put_row row)
      → (IsKept (database new.trees) × (tables_in new.trees ≡ with_row o i k (tables_in old.trees))) × AreBelow id (new.trees 1)
  row_comes o i k id last mid new entry row row_is entry_is free below above first second =
      let none = none_with (old.trees 1) last id good.kept.held below above in
      let sets = both_put mid new entry row id (entry_is ∙ ap (entry_of (1 ∷ 2 ∷ [])) (sym row_is)) (ap rowid row_is) none first second in (
        placed_row o i k id last row row_is good listed ordered free below above sets lists_it,
        subst (AreBelow id) (sym (sets.this ∙ ap (λ r. put_row r (old.trees 1)) row_is))
            (still_below (old.trees 1) last id (Int (pos o) ∷ Blob i ∷ Blob k.body ∷ Int (pos k.copies) ∷ []) below above),
      )

  -- the row that has a key goes, with its entry
  pub row_goes : (o : ℕ) (i : List ℕ) (id : ℤ) (mid new : View) (entry : Row) → entry ≡ index_row o i id → IsStored o i (old.trees 1) id
      → SetsTree old mid 2 (remove_entry (order_of (old.shape 2)) entry) → SetsTree mid new 1 (without_rowid id)
      → (IsKept (database new.trees) × (tables_in new.trees ≡ without_row o i (tables_in old.trees)))
      × ((n : ℤ) → AreBelow n (old.trees 1) → AreBelow n (new.trees 1))
  row_goes o i id mid new entry entry_is s first second =
      let row = held_row (Int id) o i s.0 in
      let held = good.kept.held in
      let found = one_of (has_rowid id) (Int id) (old.trees 1)
      (λ r h is. let at : rowid r ≡ Int (id_in (rowid r)) = ap rowid (held.formed r h) in
      at ∙ ap Int (rowid_is id (id_in (rowid r)) r at is)) held.table row s.1 (has_own_rowid id row refl) in
      let sets = both_taken mid new entry row id entry_is found first second in
      (deleted_by o i id old new good listed ordered s sets lists_it, deleted_below id old new sets)
