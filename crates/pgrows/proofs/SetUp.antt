-- A sound transaction over the tables of a store is laid out, and its index is up to date.
use Rattle.std.proofs.Common.{◌≡◌, List, [], ◌∷◌, subst, refl}
use Rattle.sqlite_value.specs.Keys.{plain}
use Rattle.sqlite_trees.specs.Tree.{IsTable, IsIndex}
use Rattle.sqlite_trees.specs.declared.store.Shape.TheVariants as shape
use Rattle.sqlite_trees.specs.Objects.{catalog_tree, IsListed}
use Rattle.sqlite_trees.specs.View.{View, IsOrdered, IsShaped}
use Rattle.sqlite_sql.specs.declared.query.Index as borrowed
use Rattle.sqlite_sql.specs.Catalog.{IsIndexOf}
use Rattle.sqlite_exec.specs.Calls.{IsReady}
use Rattle.sqlite_schema.specs.Catalog.{IsCatalogOf}
use Rattle.sqlite_schema.specs.Rules.{IsLaidOut}
use Rattle.sqlite_rules.specs.Calls.{IsSetUp}
use Rattle.sqlite_rules.proofs.ViewLemmas.{ready}
use Rattle.sqlite_catalog.proofs.LayoutLemmas.{laid_out, objects_rise}
use Rattle.pgtables.specs.Schema.{store_schema}
use Rattle.pgrows.specs.Rows.{IsGood}

-- the index, as the library's lemmas ask for it
abbrev pub the_catalog : List borrowed.Index
the_catalog = record { tree = 2; table = 1; columns = record { ref_ptr = (0, 0); now = 1 ∷ 2 ∷ [] }; order = plain } ∷ []

pub lists_it : IsCatalogOf store_schema the_catalog
lists_it = (record { tree = refl; table = refl; columns = refl; order = refl }, tt)

module _ {v : View} (good : IsGood v) (listed : IsListed (v.trees catalog_tree) v.shape v.reals) (ordered : IsOrdered v.shape v.trees) where
  pub laid : IsLaidOut store_schema v.shape
  laid = laid_out listed (objects_rise v listed ordered) good.kept.sound.lists.listed

  pub rel_shape : v.shape 0 ≡ shape.Table
  rel_shape = laid.tables.0

  pub table_shape : v.shape 1 ≡ shape.Table
  table_shape = laid.tables.1.0

  pub place_shape : v.shape 3 ≡ shape.Table
  place_shape = laid.tables.1.1.0

  pub index_shape : v.shape 2 ≡ shape.Index plain
  index_shape = laid.indexes.0.0

  pub rises : IsTable (v.trees 1)
  rises = (subst (λ s. IsShaped s (v.trees 1)) table_shape (ordered 1)).0

  pub definitions_rise : IsTable (v.trees 0)
  definitions_rise = (subst (λ s. IsShaped s (v.trees 0)) rel_shape (ordered 0)).0

  pub entries_rise : IsIndex plain (v.trees 2)
  entries_rise = subst (λ s. IsShaped s (v.trees 2)) index_shape (ordered 2)

  pub indexed : IsIndexOf (1 ∷ 2 ∷ []) (v.trees 1) (v.trees 2)
  indexed = good.kept.sound.obeys.indexed.0

  pub set_up : (catalog : List borrowed.Index) → IsCatalogOf store_schema catalog → IsSetUp v store_schema catalog
  set_up catalog lists = record { sound = good.unbroken; laid_out = laid; lists = lists }

  pub is_ready : (catalog : List borrowed.Index) → IsCatalogOf store_schema catalog → IsReady v catalog
  is_ready catalog lists = ready v store_schema catalog (set_up catalog lists) good.kept.sound.obeys.indexed
