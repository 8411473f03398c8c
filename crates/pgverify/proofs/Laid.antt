-- Trees that are listed as a store's, and their shapes.
use Rattle.std.proofs.Common.{◌≡◌, Bool, true, false, refl, sym, subst, ◌∙◌, true≢false}
use Rattle.std.specs.Prelude.{◌&&◌}
use Rattle.sqlite_value.specs.Keys.{plain}
use Rattle.sqlite_trees.specs.Tree.{IsTable, IsIndex}
use Rattle.sqlite_trees.specs.declared.store.Shape.TheVariants as shape
use Rattle.sqlite_trees.specs.Objects.{catalog_tree, IsListed}
use Rattle.sqlite_trees.specs.View.{View, IsOrdered, IsShaped}
use Rattle.sqlite_schema.specs.Rules.{IsLaidOut}
use Rattle.sqlite_catalog.proofs.LayoutLemmas.{laid_out, objects_rise}
use Rattle.sqlite_schema.specs.declared.schema.Schema.{Schema}
use Rattle.sqlite_catalog.specs.Listing.{Lists}
use Rattle.pgtables.specs.Schema.{store_schema}
use Rattle.pgtables.specs.declared.remains.Remains.{Remains}
use Rattle.pgtables.specs.Remains.{AreRemains, schema_of}
use Rattle.pgtables.proofs.Remaining.{is_schema_of}
use Rattle.pgverify.specs.Verified.{ListsStore}

whole_schema : (d h p : Bool) → (d && (h && p)) ≡ true
    → schema_of (record { has_definitions = d; has_rows = h; has_position = p }) ≡ store_schema
whole_schema true true true is = refl
whole_schema true true false is = absurd (true≢false (sym is))
whole_schema true false p is = absurd (true≢false (sym is))
whole_schema false h p is = absurd (true≢false (sym is))

pub lists_it : (v : View) (schema : Schema) (left : Remains) → v.is_broken ≡ false → Lists (v.trees catalog_tree) schema
    → AreRemains schema left → (left.has_definitions && (left.has_rows && left.has_position)) ≡ true → ListsStore v
lists_it v schema left unbroken lists are whole = record {
  unbroken = unbroken;
  lists = subst (Lists (v.trees catalog_tree))
      (is_schema_of schema left are lists.guarded ∙ whole_schema left.has_definitions left.has_rows left.has_position whole) lists;
}

module _ {v : View} (store : ListsStore v) (listed : IsListed (v.trees catalog_tree) v.shape v.reals)
    (ordered : IsOrdered v.shape v.trees) where
  laid : IsLaidOut store_schema v.shape
  laid = laid_out listed (objects_rise v listed ordered) store.lists.listed

  pub table_shape : v.shape 1 ≡ shape.Table
  table_shape = laid.tables.1.0

  pub index_shape : v.shape 2 ≡ shape.Index plain
  index_shape = laid.indexes.0.0

  pub definitions_rise : IsTable (v.trees 0)
  definitions_rise = (subst (λ s. IsShaped s (v.trees 0)) laid.tables.0 (ordered 0)).0

  pub rows_rise : IsTable (v.trees 1)
  rows_rise = (subst (λ s. IsShaped s (v.trees 1)) table_shape (ordered 1)).0

  pub entries_rise : IsIndex plain (v.trees 2)
  entries_rise = subst (λ s. IsShaped s (v.trees 2)) index_shape (ordered 2)
