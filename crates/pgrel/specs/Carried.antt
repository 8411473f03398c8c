-- A row of a table whose definition changes: the row as it stands under the new definition.
-- PostgreSQL documentation, Logical Replication Message Formats, Relation; Logical Replication,
-- Restrictions (schema changes).
use Rattle.std.specs.Prelude.{ℕ, Bool, List, [], ◌∷◌, Option, None, Some, map, ◌==◌, if◌then◌else◌}
use Rattle.std.specs.Prelude.{slice_get, unwrap_or}
use Rattle.std.specs.List.{position_from}
use Rattle.std.specs.Cmp.Lexicographic.{pointwise}
use Rattle.pgtuple.specs.declared.cell.Cell.{Cell}
use Rattle.pgtuple.specs.declared.cell.Cell.TheVariants.{Null}
use Rattle.pglogical.specs.declared.message.RelationDef.{RelationDef}
use Rattle.pglogical.specs.declared.message.Column.{Column}

abbrev pub has_name : List ℕ → Column → Bool
has_name name column = pointwise ◌==◌ column.name name

-- the cell of the first column of this name, or null where there is none
abbrev pub named_cell : List ℕ → List Column → List Cell → Cell
named_cell name [] cells = Null
named_cell name (column ∷ columns) [] = Null
named_cell name (column ∷ columns) (cell ∷ cells) = if has_name name column then cell else named_cell name columns cells

-- Each new column takes the cell of the first old column of its name, and null if there is none.
-- Old cells without a column go.
abbrev pub carried_cells : List Column → List Cell → List Column → List Cell
carried_cells old cells new = map (λ (c : Column). named_cell c.name old cells) new

abbrev pub carried : RelationDef → RelationDef → List Cell → List Cell
carried old new cells = carried_cells old.columns cells new.columns

-- ---- the same, where the columns are looked up once for all rows

-- the index of the first old column of the same name
abbrev pub place_of : List Column → Column → Option ℕ
place_of old column = position_from (has_name column.name) 0 old

abbrev pub places : List Column → List Column → List (Option ℕ)
places old new = map (place_of old) new

-- the cell at an index, or null where there is none
abbrev pub placed_cell : List Cell → Option ℕ → Cell
placed_cell cells None = Null
placed_cell cells (Some index) = unwrap_or (slice_get cells index) Null

abbrev pub placed_cells : List Cell → List (Option ℕ) → List Cell
placed_cells cells places = map (placed_cell cells) places
