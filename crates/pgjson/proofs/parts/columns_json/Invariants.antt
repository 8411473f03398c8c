use Rattle.std.proofs.Common.{◌≡◌, ◌++◌, map}
use Rattle.serde_json.specs.View.{view}
use Rattle.pgjson.specs.Messages.{column_data}
use Rattle.pgjson.proofs.parts.columns_json.Given as goal

abbrev pub invariant-loop-column : goal.invariant-loop-column
invariant-loop-column l = map view l.values.items ++ map column_data l.column-iterator ≡ map column_data l.columns
