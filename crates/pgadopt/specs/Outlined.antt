-- The trees of a database, and the tables of a store in them.
use Rattle.std.specs.Prelude.{◌≡◌, ◌<◌, ◌^◌, ℕ, true, List, [], ◌∷◌, Some}
use Rattle.std.specs.Int.{w64, to_be_bytes}
use Rattle.sqlite.specs.Tree.{Trees}
use Rattle.sqlite.specs.View.{View}
use Rattle.pgtables.specs.Kept as stored
use Rattle.pgtables.specs.Kept.{AreDefined, IsKept, pos_row, tables_in}
use Rattle.pgtables.specs.Opened.{ListsDefinitions}
use Rattle.pgtables.specs.declared.remains.Remains.{Remains}
use Rattle.pgrows.specs.Rows.{database}
use Rattle.pgverify.specs.Verified.{ListsStore}
use Rattle.pgadopt.specs.Adopted.{AreDefinitionsOf, AreRead, Definitions}

abbrev pub all_there : Remains
all_there = record { has_definitions = true; has_rows = true; has_position = true }

-- the trees hold the tables of a store at this position: each row of them was read
pub record AreStore (db : Trees) (position : ℕ) : Type 0 where
  pub definitions : List (ℕ × stored.Definition)
  pub read : AreRead all_there db definitions (Some position)
  pub kept : IsKept (database db)

-- The trees are listed as the tables of a store. The definitions in them are those that are known,
-- and they have this position.
pub record AreOutlined (v : View) (known : Definitions) (position : ℕ) : Type 0 where
  pub listed : ListsStore v
  pub definitions : List (ℕ × stored.Definition)
  pub are : AreDefinitionsOf definitions known
  pub defined : AreDefined (v.trees 0)
  pub lists : ListsDefinitions (tables_in v.trees) definitions
  pub place : v.trees 3 ≡ pos_row (to_be_bytes w64 position) ∷ []
  pub range : position < 2 ^ 64
