use Rattle.std.proofs.Common.{◌≡◌, ◌++◌}
use Rattle.pglogical.proofs.column_refs.ColumnRefs.to_columns.Given as goal

abbrev pub invariant-loop-column : goal.invariant-loop-column
invariant-loop-column l = l.columns.items ++ l.column-iterator ≡ l.self
