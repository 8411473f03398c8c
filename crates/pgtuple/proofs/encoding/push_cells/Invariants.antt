use Rattle.std.proofs.Common.{◌≡◌, ◌++◌, take}
use Rattle.std.specs.List.{flat_map}
use Rattle.pgtuple.specs.Cells.{cell_spelling}
use Rattle.pgtuple.proofs.encoding.push_cells.Given as goal

abbrev pub invariant-loop-cell : goal.invariant-loop-cell
invariant-loop-cell l = l.out.items ≡ l.fn.out.items ++ flat_map cell_spelling (take l.cell-index l.cells)
