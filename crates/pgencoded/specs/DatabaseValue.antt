-- What the tables of a store in a database hold, also where some of them are missing.
use Rattle.std.specs.Prelude.{◌≡◌, ◌<◌, ◌^◌, ◌⊎◌, ℕ, [], ◌∷◌, IsTrue}
use Rattle.std.specs.Int.{w64, to_be_bytes}
use Rattle.std.specs.FinMap as map
use Rattle.sqlite.specs.Tree.{Trees}
use Rattle.sqlite.specs.Effect.{Database}
use Rattle.sqlite.specs.Store.{Ghosts}
use Rattle.sqlite.specs.Held as connection
use Rattle.sqlite.specs.Held.{Held}
use Rattle.pgtables.specs.Kept as stored
use Rattle.pgtables.specs.Kept.{AreDefined, AreHeld, IsKept, pos_row, tables_in}
use Rattle.pgtables.specs.declared.remains.Remains.{Remains}
use Rattle.pgtables.specs.Remains.{remaining, schema_of}
use Rattle.pgrows.specs.Rows.{database}
use Rattle.pgapply.specs.Stored.{Stored}
use Rattle.pgencoded.specs.Spelled.{IsStored}

-- trees that have these tables and this position
pub record AreOf (v : Stored) (db : Trees) : Type 0 where
  pub kept : IsKept (database db)
  pub stored : IsStored v.tables (tables_in db)
  pub position : (tables_in db).place ≡ to_be_bytes w64 v.position
  pub range : v.position < 2 ^ 64

-- no tables, at 0/0
abbrev pub nothing_stored : Stored
nothing_stored = record { tables = map.empty; position = 0 }

-- the row of `pos` has this position, and without a row it is 0/0 where there is no definition
-- either
abbrev pub IsPlaceOf : ℕ → Trees → Type 0
IsPlaceOf position db = (db 3 ≡ pos_row (to_be_bytes w64 position) ∷ []) ⊎ ((db 3 ≡ []) × (db 0 ≡ []) × (position ≡ 0))

-- a database that has the tables of a store, or some of them, holds these tables at this position:
-- a table that was dropped counts as empty
pub record IsValueOf (v : Stored) (db : Database) : Type 0 where
  pub left : Remains
  pub schema : db.schema ≡ schema_of left
  pub defined : AreDefined (remaining left db.trees 0)
  pub held : AreHeld (remaining left db.trees 1)
  pub stored : IsStored v.tables (tables_in (remaining left db.trees))
  pub place : IsPlaceOf v.position (remaining left db.trees)
  pub range : v.position < 2 ^ 64

module _ {S : Type 0} (g : Ghosts S) where
  -- the tables were made, empty, with position 0/0
  pub record HasMade (conn : Held S) : Type 0 where
    pub is_open : IsTrue (connection.state g conn).is_open
    pub kept : IsKept (connection.state g conn).now
    pub none : stored.tables_of g conn ≡ stored.no_tables

  -- what a crash may leave of adopting a connection: a store that holds what the connection held
  abbrev pub LeavesAdopted : Held S → Trees → Type 0
  LeavesAdopted conn db = (v : Stored) × IsValueOf v (connection.state g conn).now × AreOf v db
