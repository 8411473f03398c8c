use Rattle.std.proofs.Common.{ℕ, ◌<◌, get_or}
use Rattle.pgtuple.specs.declared.cell.Cell.{Cell}
use Rattle.pgtuple.specs.Limits.{IsTextCell}
use Rattle.pgtuple.proofs.cell.Cell.have_utf8.Given as goal

abbrev pub invariant-loop-cell : goal.invariant-loop-cell
invariant-loop-cell l = (k : ℕ) (d : Cell) → k < l.cell-index → IsTextCell (get_or l.cells k d)
