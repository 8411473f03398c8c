-- Bytes that encode a tuple, all of them.
-- PostgreSQL documentation, Logical Replication Message Formats, TupleData.
use Rattle.std.specs.Prelude.{◌≡◌, ⊤, ℕ, List, [], Ok, Err}
use Rattle.pgtuple.specs.declared.cell.Cell.{Cell}
use Rattle.pgtuple.specs.Limits.{IsWireTuple}
use Rattle.pgtuple.specs.Cells.{tuple_spelling}
use Rattle.pgtuple.specs.Reading.{At, Read, tuple_at}

-- the cells that were read, none where they can't be
abbrev pub cells_read : Read (List Cell) → List Cell
cells_read (Ok x) = x.0
cells_read (Err f) = []

-- where reading goes on
abbrev pub IsRead : Read (List Cell) → Type 0
IsRead (Ok x) = ⊤
IsRead (Err f) = ⊥

-- there are cells there, and after them reading is here
abbrev pub IsReadTo : Read (List Cell) → At → Type 0
IsReadTo read at = (cells : List Cell) × (read ≡ Ok (cells, at))

-- the cells of the tuple at the front of these bytes
abbrev pub spelled_cells : List ℕ → List Cell
spelled_cells bytes = cells_read (tuple_at bytes)

-- the bytes encode a tuple, all of them
pub record IsSpelledTuple (bytes : List ℕ) : Type 0 where
  pub fits : IsWireTuple (spelled_cells bytes)
  pub spelled : bytes ≡ tuple_spelling (spelled_cells bytes)
