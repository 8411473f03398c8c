-- What is done to the rows of a relation that comes with another shape and keeps their identities:
-- each gets the cells that it has under the new definition, in its place.
use Rattle.std.specs.Prelude.{◌≡◌, ℕ, List, ◌∷◌, length, map, true}
use Rattle.std.specs.Prelude.{if◌then◌else◌}
use Rattle.std.specs.Prelude.{Some, option_map}
use Rattle.std.specs.Ordering.{nat_cmp, is_lt}
use Rattle.std.specs.Cmp.Lexicographic.{slice_cmp}
use Rattle.std.specs.FinMap as finite
use Rattle.sqlite.specs.Store.{Ghosts}
use Rattle.sqlite.specs.State.{HasCleanDisk}
use Rattle.pgtuple.specs.declared.cell.Cell.{Cell}
use Rattle.pgtuple.specs.Limits.{IsWireTuple}
use Rattle.pglogical.specs.declared.message.Column.{Column}
use Rattle.pglogical.specs.declared.message.RelationDef.{RelationDef}
use Rattle.pgrel.specs.Identity.{keyed, key_cells, identity}
use Rattle.pgrel.specs.Carried.{carried, carried_cells, has_name}
use Rattle.pgtables.specs.Kept as stored
use Rattle.pgrows.specs.Rows.{state, tables_of}
use Rattle.pgapply.specs.declared.fault.StoreFault.{StoreFault}
use Rattle.pgapply.specs.Value.{Rows, Row, Tables}
use Rattle.pgapply.specs.Apply.{moved}
use Rattle.pgapply.specs.Stored.{IsOwnFault}
use Rattle.pgencoded.specs.Spelled.{IsSpelled, AreTupleRows, spelled_row, with_rows}
use Rattle.pgencoded.specs.Acts.{Goes, GoesOpen}
use Rattle.pgreshaping.specs.Carries.{IsKeptRow}

-- ---- rows that stay known by the same cells

-- each row has the same key cells under the new columns
abbrev pub KeepsKey : List Column → List Column → Type 0
KeepsKey old new = (cells : List Cell) → length cells ≡ length old → key_cells new (carried_cells old cells new) ≡ key_cells old cells

-- behind one more old column, what is left of the new ones keeps the key
abbrev pub LeavesKey : Column → List Column → List Column → Type 0
LeavesKey column new left = (old : List Column) → KeepsKey old left → KeepsKey (column ∷ old) new

-- of the columns the first of the key has the column's name, and the rest is behind it
abbrev pub BeginsKey : Column → List Column → List Column → Type 0
BeginsKey column columns rest = (d : Column) × (has_name d.name column ≡ true)
    × ((f : Column → Cell) → key_cells columns (map f columns) ≡ f d ∷ key_cells rest (map f rest))

-- no row gets another identity, where the columns were read of the definition that is there
pub record StaysKnown (there before def : RelationDef) : Type 0 where
  pub was_keyed : keyed there ≡ true
  pub is_keyed : keyed def ≡ true
  pub known : (cells : List Cell) → length cells ≡ length there.columns → identity def (carried before def cells) ≡ identity there cells

-- ---- rows that are rewritten

-- each row is one that was stored under this definition
abbrev pub AreReadable : RelationDef → Rows → Type 0
AreReadable before rows = (place : List ℕ) (row : Row) → finite.get rows place ≡ Some row → IsKeptRow before row (spelled_row row)

-- the relation has these rows as they are under the new definition, each in its place
pub record HasRewritten (v : Tables) (before def : RelationDef) (start : Rows) (t : stored.Tables) : Type 0 where
  pub rows : Rows
  pub spelled : IsSpelled (with_rows v def rows) t
  pub each : (place : List ℕ) → finite.get rows place ≡ option_map (moved before def) (finite.get start place)
  pub tuples : AreTupleRows rows

-- those whose identity is below this one are rewritten, and the others stand
pub record HasRewrittenTo (v : Tables) (before def : RelationDef) (start : Rows) (from : List ℕ) (t : stored.Tables) : Type 0 where
  pub rows : Rows
  pub spelled : IsSpelled (with_rows v def rows) t
  pub each : (place : List ℕ) → finite.get rows place
      ≡ (if is_lt (slice_cmp nat_cmp place from) then option_map (moved before def) (finite.get start place) else finite.get start place)
  pub tuples : (place : List ℕ) (row : Row) → is_lt (slice_cmp nat_cmp place from) ≡ true → finite.get start place ≡ Some row
      → IsWireTuple (carried before def row.cells)

module _ {S : Type 0} (g : Ghosts S) (old new : S) (before def : RelationDef) where
  -- one row is rewritten
  abbrev pub RewritesOne : List ℕ → stored.Copies → Type 0
  RewritesOne place kept =
      GoesOpen g old new × ((row : Row) → IsKeptRow before row kept → IsWireTuple (carried before def row.cells)
      × (tables_of g new ≡ stored.with_row def.oid place (spelled_row (moved before def row)) (tables_of g old)))

  -- what a loop over the rows keeps
  pub record RewritesOn (from : List ℕ) : Type 0 where
    pub goes : Goes g old new
    pub made : HasCleanDisk (state g new) → (v : Tables) (start : Rows) → IsSpelled (with_rows v def start) (tables_of g old)
        → AreReadable before start → HasRewrittenTo v before def start from (tables_of g new)

  -- all rows are rewritten
  abbrev pub RewritesAll : Type 0
  RewritesAll =
      GoesOpen g old new × ((v : Tables) (start : Rows) → IsSpelled (with_rows v def start) (tables_of g old) → AreReadable before start
      → HasRewritten v before def start (tables_of g new))

abbrev pub RefusesToRewrite : {S : Type 0} → Ghosts S → S → RelationDef → RelationDef → StoreFault → Type 0
RefusesToRewrite g old before def e =
    (v : Tables) (start : Rows) → IsSpelled (with_rows v def start) (tables_of g old) → AreReadable before start → IsOwnFault e

-- ---- a definition in another's place

abbrev pub redefined : RelationDef → List ℕ → stored.Tables → stored.Tables
redefined def columns t =
    stored.with_definition def.oid (record { namespace = def.namespace; name = def.name; letter = def.letter; columns = columns }) t

-- the relation has the definition, and its rows are rewritten
abbrev pub RewritesTable : {S : Type 0} → Ghosts S → S → S → RelationDef → RelationDef → List ℕ → Type 0
RewritesTable g old new before def columns =
    GoesOpen g old new × ((v : Tables) (start : Rows) → IsSpelled (with_rows v def start) (redefined def columns (tables_of g old))
    → AreReadable before start → HasRewritten v before def start (tables_of g new))

abbrev pub RefusesToRewriteTable : {S : Type 0} → Ghosts S → S → RelationDef → RelationDef → List ℕ → StoreFault → Type 0
RefusesToRewriteTable g old before def columns e =
    (v : Tables) (start : Rows) → IsSpelled (with_rows v def start) (redefined def columns (tables_of g old)) → AreReadable before start
    → IsOwnFault e
