use Rattle.std.proofs.Common.{◌≡◌, ◌++◌, map}
use Rattle.pgtuple.specs.Borrowed.{cell_value}
use Rattle.pgrel.proofs.carrying.cells_of.Given as goal

abbrev pub invariant-loop-cell : goal.invariant-loop-cell
invariant-loop-cell l = map cell_value l.cells.items ++ l.cell-iterator ≡ l.row
