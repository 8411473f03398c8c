use Rattle.std.proofs.Common.{◌≡◌, map, take}
use Rattle.serde_json.specs.View.{view}
use Rattle.pgfeed.specs.Texts.{column_data}
use Rattle.pgfeed.proofs.tables.columns_json.Given as goal

abbrev pub invariant-loop-column : goal.invariant-loop-column
invariant-loop-column l = map view l.values.items ≡ map column_data (take l.column-index l.columns)
