-- What stands in an opened connection, where a store may have written it.
use Rattle.std.specs.Prelude.{◌≡◌, ◌<◌, ◌^◌, ◌&&◌, Bool, ℕ, List, [], ◌∷◌, Option, None, Some}
use Rattle.std.specs.Prelude.{IsTrue, option_map}
use Rattle.std.specs.Int.{w64, to_be_bytes}
use Rattle.std.specs.Ordering.{nat_cmp}
use Rattle.std.specs.FinMap as map
use Rattle.sqlite.specs.Order as order
use Rattle.sqlite.specs.Tree.{Trees}
use Rattle.sqlite.specs.Store.{Ghosts}
use Rattle.sqlite.specs.Held.{Held, state}
use Rattle.pgtuple.specs.Spelled.{spelled_cells}
use Rattle.pgtuple.specs.Limits.{IsWireTuple}
use Rattle.pgtuple.specs.Cells.{tuple_spelling}
use Rattle.pglogical.specs.declared.message.RelationDef.{RelationDef}
use Rattle.pglogical.specs.Spelling.{IsDefinition}
use Rattle.pgtables.specs.Schema.{no_schema, store_schema}
use Rattle.pgtables.specs.Kept as stored
use Rattle.pgtables.specs.Kept.{AreDefined, AreHeld, IsKept, IsUnderWay, no_tables, pos_row}
use Rattle.pgtables.specs.Kept.{tables_in, tables_of, with_definition, with_place}
use Rattle.pgtables.specs.Opened.{AreAccepted, ListsDefinitions}
use Rattle.pgtables.specs.declared.remains.Remains.{Remains}
use Rattle.pgtables.specs.Remains.{remaining}
use Rattle.pgapply.specs.Value.{Row, IsRow, Tables}
use Rattle.pgapply.specs.Stored.{Stored}
use Rattle.pgencoded.specs.Spelled.{IsGivable, IsReadable, IsStored, spelled_definition}
use Rattle.pgencoded.specs.DatabaseValue.{AreOf, IsValueOf, nothing_stored}

-- definitions by OID
abbrev pub Definitions : Type 0
Definitions = map.FinMap nat_cmp RelationDef

-- the definition that these bytes are under an OID
pub record IsDefinitionOf (oid : ℕ) (there : stored.Definition) (def : RelationDef) : Type 0 where
  pub same_oid : def.oid ≡ oid
  pub definition : IsDefinition def
  pub readable : IsReadable def
  pub spelled : spelled_definition def ≡ there

-- a definition for each of the stored ones, by its OID
pub record AreDefinitionsOf (found : List (ℕ × stored.Definition)) (known : Definitions) : Type 0 where
  pub each : (oid : ℕ) → map.find nat_cmp oid found ≡ option_map spelled_definition (map.get known oid)
  pub fit : (oid : ℕ) (def : RelationDef) → map.get known oid ≡ Some def → (def.oid ≡ oid) × IsGivable def

-- the row that is stored so
abbrev pub row_of : stored.Copies → Row
row_of kept = record { cells = spelled_cells kept.body; copies = kept.copies }

-- the bytes are a row of the relation at this identity
pub record IsRowOf (def : RelationDef) (place : List ℕ) (kept : stored.Copies) : Type 0 where
  pub tuple : IsWireTuple (spelled_cells kept.body)
  pub spelled : kept.body ≡ tuple_spelling (spelled_cells kept.body)
  pub row : IsRow def place (row_of kept)

-- they are one of a relation that has a definition
abbrev pub IsKnownRow : Definitions → ℕ → List ℕ → stored.Copies → Type 0
IsKnownRow known oid place kept = (def : RelationDef) × (map.get known oid ≡ Some def) × IsRowOf def place kept

-- the rows of `pos` have this position, or there are none
abbrev pub IsPlaceRead : Option ℕ → List order.Row → Type 0
IsPlaceRead None rows = rows ≡ []
IsPlaceRead (Some position) rows = (rows ≡ pos_row (to_be_bytes w64 position) ∷ []) × (position < 2 ^ 64)

-- what was read of those of a store's tables that a database has: the definitions, by which each
-- row is in its place, and the position
pub record AreRead (left : Remains) (db : Trees) (definitions : List (ℕ × stored.Definition)) (position : Option ℕ) : Type 0 where
  pub known : Definitions
  pub are : AreDefinitionsOf definitions known
  pub defined : AreDefined (remaining left db 0)
  pub lists : ListsDefinitions (tables_in (remaining left db)) definitions
  pub held : AreHeld (remaining left db 1)
  pub rows : AreAccepted IsKnownRow known (tables_in (remaining left db))
  pub place : IsPlaceRead position (remaining left db 3)
  pub bare : position ≡ None → definitions ≡ []

-- all three tables are there
abbrev pub is_whole : Remains → Bool
is_whole left = left.has_definitions && (left.has_rows && left.has_position)

-- definitions that are put one after another
abbrev pub with_definitions : List (ℕ × stored.Definition) → stored.Tables → stored.Tables
with_definitions [] t = t
with_definitions (e ∷ es) t = with_definitions es (with_definition e.0 e.1 t)

-- tables that were made anew, with these definitions and this position
pub record AreRemade (definitions : List (ℕ × stored.Definition)) (position : ℕ) (db : Trees) : Type 0 where
  pub kept : IsKept (record { schema = store_schema; trees = db })
  pub tables : tables_in db ≡ with_place (to_be_bytes w64 position) (with_definitions definitions no_tables)

module _ {S : Type 0} (g : Ghosts S) where
  -- they are those that a transaction sees
  pub record IsRemade (definitions : List (ℕ × stored.Definition)) (position : ℕ) (conn : Held S) : Type 0 where
    pub under_way : IsUnderWay g conn
    pub tables : tables_of g conn ≡ with_place (to_be_bytes w64 position) (with_definitions definitions no_tables)

  -- they are committed, and the connection was open
  pub record HasRemade (definitions : List (ℕ × stored.Definition)) (position : ℕ) (old new : Held S) : Type 0 where
    pub was_open : IsTrue (state g old).is_open
    pub is_open : IsTrue (state g new).is_open
    pub kept : IsKept (state g new).now
    pub tables : tables_of g new ≡ with_place (to_be_bytes w64 position) (with_definitions definitions no_tables)

  -- a crash may leave them
  abbrev pub LeavesRemade : List (ℕ × stored.Definition) → ℕ → Held S → Trees → Type 0
  LeavesRemade definitions position old db = IsTrue (state g old).is_open × AreRemade definitions position db

  -- the tables are of the form and hold a value, at this position
  pub record Stands (conn : Held S) (position : ℕ) : Type 0 where
    pub kept : IsKept (state g conn).now
    pub place : (tables_of g conn).place ≡ to_be_bytes w64 position
    pub range : position < 2 ^ 64
    pub stored : (v : Tables) × IsStored v (tables_of g conn)

  -- what stood in the old one stands in the new one, or nothing where there was none
  pub record Founds (old new : Held S) (position : ℕ) : Type 0 where
    pub is_open : IsTrue (state g new).is_open
    pub stands : Stands new position
    pub stood : (v : Stored) → AreOf v (state g old).now.trees → IsStored v.tables (tables_of g new) × (v.position ≡ position)
    pub bare : (state g old).now.schema ≡ no_schema
        → IsStored nothing_stored.tables (tables_of g new) × (nothing_stored.position ≡ position)
    pub value : (v : Stored) → IsValueOf v (state g old).now → IsStored v.tables (tables_of g new) × (v.position ≡ position)
    -- and something stood there, or nothing is stored
    pub known : (v : Stored) × IsValueOf v (state g old).now
