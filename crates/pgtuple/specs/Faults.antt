-- What is wrong with bytes that don't begin with a tuple: the first field from the left that can't
-- be read, by what is before it and in its place. PostgreSQL documentation, Logical Replication
-- Message Formats, TupleData.
use Rattle.std.specs.Prelude.{◌≡◌, ◌≢◌, ◌+◌, ◌<◌, ◌≤◌, ◌^◌, ◌⊎◌, ℕ, List, [], ◌∷◌, ◌++◌, false}
use Rattle.std.specs.Prelude.{length}
use Rattle.std.specs.Int.{w16, w32, to_be_bytes}
use Rattle.std.specs.List.{flat_map, AllByRecursion}
use Rattle.std.specs.Str.{is_utf8}
use Rattle.pgtuple.specs.declared.cell.Cell.{Cell}
use Rattle.pgtuple.specs.declared.fault.TupleFault.{TupleFault}
use Rattle.pgtuple.specs.declared.fault.TupleFault.TheVariants as fault
use Rattle.pgtuple.specs.Limits.{IsCell, IsTextCell, max_columns, max_int32}
use Rattle.pgtuple.specs.Cells.{cell_spelling}

-- t or b, the kinds that a length follows
abbrev pub IsCounted : ℕ → Type 0
IsCounted kind = (kind ≡ 116) ⊎ (kind ≡ 98)

-- The bytes where a cell should be, the offset there, and the fault.
pub data HasCellFault (bytes : List ℕ) (place : ℕ) (f : TupleFault) : Type 0 where
  no_kind : bytes ≡ [] → f ≡ fault.Short place → HasCellFault bytes place f
  bad_kind : (kind : ℕ) (more : List ℕ) → bytes ≡ kind ∷ more → kind ≢ 110 → kind ≢ 117 → kind ≢ 116 → kind ≢ 98 → f ≡ fault.BadKind place
      → HasCellFault bytes place f
  short_length : (kind : ℕ) (rest : List ℕ) → bytes ≡ kind ∷ rest → IsCounted kind → length rest < 4 → f ≡ fault.Short (place + 1)
      → HasCellFault bytes place f
  bad_length : (kind n : ℕ) (more : List ℕ) → bytes ≡ kind ∷ (to_be_bytes w32 n ++ more) → IsCounted kind → max_int32 < n → n < 2 ^ 32
      → f ≡ fault.BadLength (place + 1) → HasCellFault bytes place f
  short_bytes : (kind n : ℕ) (rest : List ℕ) → bytes ≡ kind ∷ (to_be_bytes w32 n ++ rest) → IsCounted kind → n ≤ max_int32 → length rest < n
      → f ≡ fault.Short (place + 1 + 4) → HasCellFault bytes place f
  not_utf8 : (text more : List ℕ) → bytes ≡ 116 ∷ (to_be_bytes w32 (length text) ++ (text ++ more)) → length text ≤ max_int32
      → is_utf8 text ≡ false → f ≡ fault.NotUtf8 (place + 1 + 4) → HasCellFault bytes place f

-- The number of columns can't be read, or some whole cells follow it and the next one can't.
pub data HasTupleFault (bytes : List ℕ) (f : TupleFault) : Type 0 where
  short_width : length bytes < 2 → f ≡ fault.Short 0 → HasTupleFault bytes f
  bad_width : (n : ℕ) (more : List ℕ) → bytes ≡ to_be_bytes w16 n ++ more → max_columns < n → n < 2 ^ 16 → f ≡ fault.TooManyColumns 0
      → HasTupleFault bytes f
  in_cell : (n : ℕ) (front : List Cell) (rest : List ℕ) → bytes ≡ to_be_bytes w16 n ++ (flat_map cell_spelling front ++ rest)
      → n ≤ max_columns → length front < n → AllByRecursion IsCell front → AllByRecursion IsTextCell front
      → HasCellFault rest (2 + length (flat_map cell_spelling front)) f → HasTupleFault bytes f
