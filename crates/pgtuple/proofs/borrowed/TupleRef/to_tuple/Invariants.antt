use Rattle.std.proofs.Common.{◌≡◌, ◌++◌}
use Rattle.pgtuple.proofs.borrowed.TupleRef.to_tuple.Given as goal

abbrev pub invariant-loop-cell : goal.invariant-loop-cell
invariant-loop-cell l = l.cells.items ++ l.cell-iterator ≡ l.self
