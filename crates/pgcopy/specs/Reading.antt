-- What COPY .. TO STDOUT in text format says: a line for each row, each ended by a newline, and the
-- end-of-data marker, where one comes.
-- PostgreSQL documentation, COPY, File Formats, Text Format.
use Rattle.std.specs.Prelude.{◌+◌, ◌==◌, ℕ, List, [], ◌∷◌, ◌++◌, Bool, length, min, nat_lt}
use Rattle.std.specs.Prelude.{Result, Ok, Err, if◌then◌else◌}
use Rattle.std.specs.Cmp.Lexicographic.{pointwise}
use Rattle.pgtuple.specs.declared.cell.Cell.{Cell}
use Rattle.pgcopy.specs.declared.fault.Reason.{Reason}
use Rattle.pgcopy.specs.declared.fault.Reason.TheVariants.{TooLong}
use Rattle.pgcopy.specs.Rows.{row_of}

abbrev pub newline : ℕ
newline = 10

-- `\.`, a line by itself
abbrev pub end_marker : List ℕ
end_marker = 92 ∷ 46 ∷ []

abbrev pub is_end_marker : List ℕ → Bool
is_end_marker line = pointwise ◌==◌ line end_marker

-- how many columns a row has, and bytes a line at most
pub record Format : Type 0 where
  pub columns : ℕ
  pub max_line : ℕ

-- how a text ends: with these bytes of a line that goes on; with the end-of-data marker, and these
-- bytes behind it; or with a line that is no row
pub data End : Type 0 where
  Open : (line : List ℕ) → End
  Marked : (others : List ℕ) → End
  Fails : (number : ℕ) (reason : Reason) → End

pub record Reading : Type 0 where
  pub rows : List (List Cell)
  pub end : End

abbrev pub ends : End → Reading
ends end = record { rows = []; end = end }

abbrev pub with_rows : List (List Cell) → Reading → Reading
with_rows rows others = record { rows = rows ++ others.rows; end = others.end }

-- the number of the next line, which stops at the greatest number of 64 bits
abbrev pub next_number : ℕ → ℕ
next_number number = min (number + 1) 18446744073709551615

-- a line that has come, with this number, and what the bytes behind it say
abbrev pub with_line : ℕ → Result (List Cell) Reason → Reading → Reading
with_line number (Ok row) others = with_rows (row ∷ []) others
with_line number (Err reason) others = ends (Fails number reason)

-- what these bytes say behind those of a line with this number
unfoldable pub reading : Format → ℕ → List ℕ → List ℕ → Reading
reading format number line [] = ends (Open line)
reading format number line (byte ∷ bytes) =
    if byte == newline then
    (if is_end_marker line then ends (Marked bytes)
    else with_line number (row_of format.columns line) (reading format (next_number number) [] bytes))
    else (if nat_lt (length line) format.max_line then reading format number (line ++ byte ∷ []) bytes
    else ends (Fails number TooLong))

-- what a COPY's bytes say
abbrev pub copy_reading : Format → List ℕ → Reading
copy_reading format bytes = reading format 1 [] bytes
