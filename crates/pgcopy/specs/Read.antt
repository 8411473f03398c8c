-- What the reading of a field, a row or a line gives, and what it leaves in the buffer of rows.
-- PostgreSQL documentation, Logical Replication Message Formats, TupleData.
use Rattle.std.specs.Prelude.{◌≡◌, ◌++◌, ⊤, ℕ, List, Bool, true, false, Result, Ok, Err}
use Rattle.std.specs.List.{AllByRecursion, flat_map}
use Rattle.pgtuple.specs.declared.cell.Cell.{Cell}
use Rattle.pgtuple.specs.Cells.{cell_spelling, tuple_spelling}
use Rattle.pgtuple.specs.Limits.{IsCell, IsTextCell, IsWireTuple}
use Rattle.pgtuple.specs.Writing.{Keeps}
use Rattle.pgcopy.specs.declared.fault.Reason.{Reason}
use Rattle.pgcopy.specs.declared.fault.RowFault.{RowFault}
use Rattle.pgcopy.specs.declared.fault.RowFault.TheVariants.{Bad, Memory}
use Rattle.pgcopy.specs.Rows.{row_of}
use Rattle.pgcopy.specs.Reading.{is_end_marker}

-- all but Memory is the definition's
abbrev pub IsFault : {A : Type 0} → RowFault → Result A Reason → Type 0
IsFault Memory read = ⊤
IsFault (Bad reason) read = read ≡ Err reason

-- the cell that is read, in its encoding behind what was there
pub record AddsCell (before : List ℕ) (read : Result Cell Reason) (after : List ℕ) : Type 0 where
  pub cell : Cell
  pub value : read ≡ Ok cell
  pub fits : IsCell cell
  pub text : IsTextCell cell
  pub bytes : after ≡ before ++ cell_spelling cell

-- the same of the cells of a row
pub record AddsCells (before : List ℕ) (read : Result (List Cell) Reason) (after : List ℕ) : Type 0 where
  pub cells : List Cell
  pub value : read ≡ Ok cells
  pub fit : AllByRecursion IsCell cells
  pub texts : AllByRecursion IsTextCell cells
  pub bytes : after ≡ before ++ flat_map cell_spelling cells

-- it couldn't be read, and what was there still is
pub record Refuses {A : Type 0} (before : List ℕ) (read : Result A Reason) (fault : RowFault) (after : List ℕ) : Type 0 where
  pub is : IsFault fault read
  pub keeps : Keeps before after

-- a line was read: a row was added, or it is the end-of-data marker
abbrev pub IsLineRead : ℕ → List ℕ → List ℕ → Result Bool RowFault → List ℕ → Type 0
IsLineRead columns line before (Ok true) after =
    (is_end_marker line ≡ false)
    × (row : List Cell) × (row_of columns line ≡ Ok row) × IsWireTuple row × (after ≡ before ++ tuple_spelling row)
IsLineRead columns line before (Ok false) after = (is_end_marker line ≡ true) × (after ≡ before)
IsLineRead columns line before (Err Memory) after = after ≡ before
IsLineRead columns line before (Err (Bad reason)) after =
    (is_end_marker line ≡ false) × (row_of columns line ≡ Err reason) × (after ≡ before)
