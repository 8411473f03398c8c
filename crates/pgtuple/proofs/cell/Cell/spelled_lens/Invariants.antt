use Rattle.std.proofs.Common.{◌≡◌, length, take}
use Rattle.std.specs.List.{flat_map}
use Rattle.pgtuple.specs.Cells.{cell_spelling}
use Rattle.pgtuple.proofs.cell.Cell.spelled_lens.Given as goal

abbrev pub invariant-loop-cell : goal.invariant-loop-cell
invariant-loop-cell l = l.total ≡ length (flat_map cell_spelling (take l.cell-index l.cells))
