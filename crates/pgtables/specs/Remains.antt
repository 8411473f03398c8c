-- The tables of a store of which some were dropped.
use Rattle.std.specs.Prelude.{◌≡◌, ◌==◌, Bool, true, false, if◌then◌else◌, List, [], ◌∷◌, IsTrue}
use Rattle.sqlite.specs.Order.{Row}
use Rattle.sqlite.specs.Tree.{Trees}
use Rattle.sqlite.specs.Schema.{Schema}
use Rattle.sqlite.specs.Store.{Ghosts}
use Rattle.sqlite.specs.Held.{Held, state}
use Rattle.sqlite_schema.specs.declared.schema.Index.{Index}
use Rattle.pgtables.specs.declared.remains.Remains.{Remains}
use Rattle.pgtables.specs.Schema.{rel, held_table, held_index, pos_at}

-- the element comes before the list, if it is there at all
abbrev pub listed : {X : Type 0} → Bool → X → List X → List X
listed true x xs = x ∷ xs
listed false x xs = xs

-- DROP TABLE leaves the other tables their order and their trees
abbrev pub schema_of : Remains → Schema
schema_of left = record {
  tables = listed left.has_definitions rel (listed left.has_rows held_table (listed left.has_position pos_at []));
  indexes = listed left.has_rows held_index [];
  views = [];
}

abbrev pub rows_if : Bool → List Row → List Row
rows_if true rows = rows
rows_if false rows = []

-- the rows of a table that isn't present are none
abbrev pub remaining : Remains → Trees → Trees
remaining left db tree =
    if tree == 0 then rows_if left.has_definitions (db 0)
    else (if tree == 1 then rows_if left.has_rows (db 1) else (if tree == 3 then rows_if left.has_position (db 3) else db tree))

abbrev pub IsIndexOfRows : List Index → Bool → Type 0
IsIndexOfRows indexes true = (index : Index) × (indexes ≡ index ∷ []) × (index.tree ≡ 2)
IsIndexOfRows indexes false = indexes ≡ []

-- these are the tables, and an index of the second tree where its table is present
pub record AreRemains (schema : Schema) (left : Remains) : Type 0 where
  pub tables : schema.tables ≡ listed left.has_definitions rel (listed left.has_rows held_table (listed left.has_position pos_at []))
  pub indexes : IsIndexOfRows schema.indexes left.has_rows
  pub views : schema.views ≡ []

-- the tables are those of a store, or some of them
pub record AreOurs (schema : Schema) : Type 0 where
  pub left : Remains
  pub is : schema ≡ schema_of left

-- so they are, and this one is present
pub record IsPresent (has : Remains → Bool) (schema : Schema) : Type 0 where
  pub left : Remains
  pub is : schema ≡ schema_of left
  pub present : has left ≡ true

-- a transaction is under way over them
pub record IsOver {S : Type 0} (g : Ghosts S) (h : Held S) : Type 0 where
  pub inside : IsTrue (state g h).in_transaction
  pub ours : AreOurs (state g h).now.schema
