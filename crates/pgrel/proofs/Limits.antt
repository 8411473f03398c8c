-- What is made of a tuple's cells is within a tuple's limits.
use Rattle.std.proofs.Common.{List, [], ◌∷◌, arith}
use Rattle.std.specs.Prelude.{Bool, true, false, if◌then◌else◌}
use Rattle.std.specs.List.{AllByRecursion}
use Rattle.pgtuple.specs.declared.cell.Cell.{Cell}
use Rattle.pgtuple.specs.Limits.{IsCell, IsTuple}
use Rattle.pglogical.specs.declared.message.Column.{Column}
use Rattle.pgrel.specs.Identity.{key_cells, is_unchanged, resolved}
use Rattle.pgrel.proofs.Keys.{key_cells_bound}
use Rattle.pgrel.proofs.Rows.{resolved_width}

abbrev AreCells : List Cell → Type 0
AreCells cells = AllByRecursion IsCell cells

more_cells : (key : Bool) (cell : Cell) (cells : List Cell) → IsCell cell → AreCells cells → AreCells (if key then cell ∷ cells else cells)
more_cells true cell cells h hs = (h, hs)
more_cells false cell cells h hs = hs

key_cells_are : (columns : List Column) (cells : List Cell) → AreCells cells → AreCells (key_cells columns cells)
key_cells_are [] cells h = tt
key_cells_are (column ∷ columns) [] h = tt
key_cells_are (column ∷ columns) (cell ∷ cells) h =
    more_cells column.key cell (key_cells columns cells) h.0 (key_cells_are columns cells h.1)

pub key_is_tuple : (columns : List Column) (cells : List Cell) → IsTuple cells → IsTuple (key_cells columns cells)
key_is_tuple columns cells h = let bound = key_cells_bound columns cells in let width = h.width in
    record { width = omega (arith, bound, width); each = key_cells_are columns cells h.each }

either_cell : (b : Bool) (old cell : Cell) → IsCell old → IsCell cell → IsCell (if b then old else cell)
either_cell true old cell g h = g
either_cell false old cell g h = h

resolved_are : (new old : List Cell) → AreCells new → AreCells old → AreCells (resolved new old)
resolved_are [] old g h = tt
resolved_are (cell ∷ cells) [] g h = g
resolved_are (cell ∷ cells) (old ∷ olds) g h = (either_cell (is_unchanged cell) old cell h.0 g.0, resolved_are cells olds g.1 h.1)

pub resolved_is_tuple : (new old : List Cell) → IsTuple new → IsTuple old → IsTuple (resolved new old)
resolved_is_tuple new old g h = let same = resolved_width new old in let width = g.width in
    record { width = omega (arith, same, width); each = resolved_are new old g.each h.each }
