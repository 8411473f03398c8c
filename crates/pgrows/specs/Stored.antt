-- What a row of the tables stands for.
use Rattle.std.specs.Prelude.{◌≡◌, ◌∷◌, ℕ, ℤ, pos, List, Some}
use Rattle.std.specs.FinMap.{get}
use Rattle.sqlite.specs.declared.types.Value.TheVariants.{Int, Text, Blob}
use Rattle.sqlite.specs.Order.{Row, column}
use Rattle.pgtables.specs.Kept.{Copies, Definition, Tables, held_row}

-- the row of a table has these copies
abbrev pub HasCopies : Row → Copies → Type 0
HasCopies row k = (column row 3 ≡ Blob k.body) × (column row 4 ≡ Int (pos k.copies))

-- the row of a table has this definition
abbrev pub HasDefinition : Row → Definition → Type 0
HasDefinition row d = (column row 2 ≡ Text d.namespace) × (column row 3 ≡ Text d.name) × (column row 4 ≡ Int (pos d.letter))
    × (column row 5 ≡ Blob d.columns)

-- the entry is one of the relation's
abbrev pub IsWithin : ℕ → Row → Type 0
IsWithin o e = column e 0 ≡ Int (pos o)

-- the row is the one that has the key
abbrev pub IsRowOf : ℕ → List ℕ → Tables → Row → Type 0
IsRowOf o i t row = (k : Copies) × (get t.rows (o ∷ i) ≡ Some k) × (id : ℤ) × (row ≡ held_row (Int id) o i k)
