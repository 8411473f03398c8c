use Rattle.std.proofs.Common.{◌≡◌, ◌++◌, map, drop}
use Rattle.serde_json.specs.View.{view}
use Rattle.pgfeed.specs.Texts.{key_names}
use Rattle.pgfeed.proofs.tables.key_names_json.Given as goal

abbrev pub invariant-loop-column : goal.invariant-loop-column
invariant-loop-column l = map view l.values.items ++ key_names (drop l.column-index l.columns) ≡ key_names l.columns
