-- What the encoding and the reading of tuples have to do with each other.
use Rattle.std.specs.Prelude.{◌≡◌, ℕ, List, ◌++◌, length, Ok, Err}
use Rattle.pgtuple.specs.declared.cell.Cell.{Cell}
use Rattle.pgtuple.specs.declared.fault.TupleFault.{TupleFault}
use Rattle.pgtuple.specs.Limits.{IsTuple, IsWireTuple, IsBytes}
use Rattle.pgtuple.specs.Cells.{tuple_spelling}
use Rattle.pgtuple.specs.Reading.{tuple_at}
use Rattle.pgtuple.specs.Faults.{HasTupleFault}

-- What is encoded is read, whatever follows.
abbrev pub SpelledTuplesAreRead : Type 0
SpelledTuplesAreRead = (cells : List Cell) (more : List ℕ) → IsWireTuple cells
    → tuple_at (tuple_spelling cells ++ more) ≡ Ok (cells, (length (tuple_spelling cells), more))

-- What is read was encoded so, and is within the limits.
abbrev pub ReadTuplesAreSpelled : Type 0
ReadTuplesAreSpelled = (bytes : List ℕ) (cells : List Cell) (place : ℕ) (more : List ℕ) → IsBytes bytes
    → tuple_at bytes ≡ Ok (cells, (place, more))
    → IsWireTuple cells × (bytes ≡ tuple_spelling cells ++ more) × (place ≡ length (tuple_spelling cells))

-- No encoding begins another one.
abbrev pub NoSpellingBeginsAnother : Type 0
NoSpellingBeginsAnother = (a b : List Cell) (x y : List ℕ) → IsTuple a → IsTuple b → tuple_spelling a ++ x ≡ tuple_spelling b ++ y
    → (a ≡ b) × (x ≡ y)

-- Where reading fails the fault is the first field from the left that can't be read, and each such
-- field is the fault.
abbrev pub FaultsAreTheFirst : Type 0
FaultsAreTheFirst = (bytes : List ℕ) (f : TupleFault) → IsBytes bytes
    → (tuple_at bytes ≡ Err f → HasTupleFault bytes f) × (HasTupleFault bytes f → tuple_at bytes ≡ Err f)

-- The bytes begin with the encoding of a tuple that the wire may hold.
abbrev pub BeginsWithTuple : List ℕ → Type 0
BeginsWithTuple bytes = (cells : List Cell) × (more : List ℕ) × IsWireTuple cells × (bytes ≡ tuple_spelling cells ++ more)
