-- What COPY .. TO STDOUT sends for rows.
-- PostgreSQL documentation, COPY, File Formats, Text Format.
use Rattle.std.specs.Prelude.{◌≡◌, ◌≤◌, ⊤, ℕ, List, [], ◌∷◌, ◌++◌, length, true, ◌==◌}
use Rattle.std.specs.Prelude.{if◌then◌else◌}
use Rattle.std.specs.List.{AllByRecursion, flat_map}
use Rattle.std.specs.Str.{is_utf8}
use Rattle.pgtuple.specs.declared.cell.Cell.{Cell}
use Rattle.pgtuple.specs.declared.cell.Cell.TheVariants.{Null, Unchanged, Text, Binary}
use Rattle.pgcopy.specs.Values.{backslash}
use Rattle.pgcopy.specs.Rows.{tab, null_string}
use Rattle.pgcopy.specs.Reading.{Format, newline}

-- a control character by its letter, a backslash by two, and any other character by itself
abbrev pub sent_byte : ℕ → List ℕ
sent_byte byte =
    if byte == 8 then backslash ∷ 98 ∷ []
    else (if byte == 12 then backslash ∷ 102 ∷ []
    else (if byte == 10 then backslash ∷ 110 ∷ []
    else (if byte == 13 then backslash ∷ 114 ∷ []
    else (if byte == 9 then backslash ∷ 116 ∷ []
    else (if byte == 11 then backslash ∷ 118 ∷ []
    else (if byte == backslash then backslash ∷ backslash ∷ []
    else byte ∷ []))))))

-- a column: the null string, or the text
abbrev pub sent_field : Cell → List ℕ
sent_field Null = null_string
sent_field Unchanged = []
sent_field (Text bytes) = flat_map sent_byte bytes
sent_field (Binary bytes) = []

-- a tab between two columns
abbrev pub sent_line : List Cell → List ℕ
sent_line [] = []
sent_line (cell ∷ []) = sent_field cell
sent_line (cell ∷ other ∷ cells) = sent_field cell ++ tab ∷ sent_line (other ∷ cells)

-- a newline after each row
abbrev pub sent : List (List Cell) → List ℕ
sent rows = flat_map (λ row. sent_line row ++ newline ∷ []) rows

-- a null or a text
abbrev pub IsSentCell : Cell → Type 0
IsSentCell Null = ⊤
IsSentCell Unchanged = ⊥
IsSentCell (Text bytes) = is_utf8 bytes ≡ true
IsSentCell (Binary bytes) = ⊥

-- a row of the table, whose line isn't too long
pub record IsSentRow (format : Format) (row : List Cell) : Type 0 where
  pub width : length row ≡ format.columns
  pub each : AllByRecursion IsSentCell row
  pub most : length (sent_line row) ≤ format.max_line
