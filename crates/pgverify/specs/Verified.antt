-- What is shown of the trees of a database that were read.
use Rattle.std.specs.Prelude.{◌≡◌, ℕ, false, List, [], ◌∷◌}
use Rattle.sqlite.specs.Tree.{Trees}
use Rattle.sqlite.specs.View.{View}
use Rattle.sqlite_trees.specs.Objects.{catalog_tree}
use Rattle.sqlite_sql.specs.Catalog.{IsIndexOf}
use Rattle.sqlite_catalog.specs.Listing.{Lists}
use Rattle.pgtables.specs.Schema.{store_schema}
use Rattle.pgtables.specs.Kept.{AreHeld, Copies, tables_in}
use Rattle.pgtables.specs.Opened.{AreAccepted}

-- the transaction is sound, and its trees are listed as the tables of a store, and no other
pub record ListsStore (v : View) : Type 0 where
  pub unbroken : v.is_broken ≡ false
  pub lists : Lists (v.trees catalog_tree) store_schema

-- each row of `held` is accepted under its identity, which is its own, and the index has its entry
pub record AreVerified {C : Type 0} (accepts : C → ℕ → List ℕ → Copies → Type 0) (check : C) (db : Trees) : Type 0 where
  pub held : AreHeld (db 1)
  pub accepted : AreAccepted accepts check (tables_in db)
  pub indexed : IsIndexOf (1 ∷ 2 ∷ []) (db 1) (db 2)
