use Rattle.std.proofs.Common.{◌≡◌, ◌++◌, map}
use Rattle.serde_json.specs.View.{view}
use Rattle.pgjson.specs.Cells.{cell_data}
use Rattle.pgjson.proofs.cells.cells_json.Given as goal

abbrev pub invariant-loop-cell : goal.invariant-loop-cell
invariant-loop-cell l = map view l.values.items ++ map cell_data l.cell-iterator ≡ map cell_data l.tuple
