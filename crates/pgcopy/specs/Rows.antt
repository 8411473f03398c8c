-- A line as a row. PostgreSQL documentation, COPY, File Formats, Text Format.
use Rattle.std.specs.Prelude.{◌==◌, ◌&&◌, ℕ, zero, suc, List, [], ◌∷◌, Bool, length}
use Rattle.std.specs.Prelude.{Option, Some, None, Result, Ok, Err, if◌then◌else◌}
use Rattle.std.specs.Cmp.Lexicographic.{pointwise}
use Rattle.std.specs.Str.{is_utf8}
use Rattle.pgtuple.specs.declared.cell.Cell.{Cell}
use Rattle.pgtuple.specs.declared.cell.Cell.TheVariants.{Null, Text}
use Rattle.pgcopy.specs.declared.fault.Reason.{Reason}
use Rattle.pgcopy.specs.declared.fault.Reason.TheVariants.{MissingColumn, ExtraColumn, NotUtf8}
use Rattle.pgcopy.specs.Values.{value_of}

infixl 10 ◌>>=◌
abbrev pub ◌>>=◌ : {A B : Type 0} → Result A Reason → (A → Result B Reason) → Result B Reason
(Ok x) >>= f = f x
(Err reason) >>= f = Err reason

-- the default delimiter
abbrev pub tab : ℕ
tab = 9

-- the default null string, which is looked for before any backslash is removed
abbrev pub null_string : List ℕ
null_string = 92 ∷ 78 ∷ []

abbrev pub is_null : List ℕ → Bool
is_null field = pointwise ◌==◌ field null_string

abbrev pub text_cell : List ℕ → Result Cell Reason
text_cell value = if is_utf8 value then Ok (Text value) else Err NotUtf8

-- a column's cell
unfoldable pub cell_of : List ℕ → Result Cell Reason
cell_of field = if is_null field then Ok Null else (value_of field >>= text_cell)

-- a byte in front of the first field
abbrev pub in_front : ℕ → List (List ℕ) → List (List ℕ)
in_front byte [] = (byte ∷ []) ∷ []
in_front byte (field ∷ fields) = (byte ∷ field) ∷ fields

-- the fields of a line, between its tabs
abbrev pub fields_of : List ℕ → List (List ℕ)
fields_of [] = [] ∷ []
fields_of (byte ∷ line) = if byte == tab then [] ∷ fields_of line else in_front byte (fields_of line)

-- the same of a table without columns, whose rows are empty lines
abbrev pub fields_for : ℕ → List ℕ → List (List ℕ)
fields_for columns line = if columns == 0 && length line == 0 then [] else fields_of line

-- the fields behind one
abbrev pub fields_behind : Option (List ℕ) → List (List ℕ)
fields_behind None = []
fields_behind (Some line) = fields_of line

-- so many columns, one after the other, or what is wrong with the first that isn't one
unfoldable pub cells_of : ℕ → List (List ℕ) → Result (List Cell) Reason
cells_of zero [] = Ok []
cells_of zero (field ∷ fields) = Err ExtraColumn
cells_of (suc columns) [] = Err MissingColumn
cells_of (suc columns) (field ∷ fields) = do
  cell ← cell_of field
  cells ← cells_of columns fields
  Ok (cell ∷ cells)

-- the row of a line
unfoldable pub row_of : ℕ → List ℕ → Result (List Cell) Reason
row_of columns line = cells_of columns (fields_for columns line)
