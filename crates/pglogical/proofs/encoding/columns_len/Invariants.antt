use Rattle.std.proofs.Common.{◌≡◌, ◌+◌, ◌-◌, ◌^◌, ◌<◌, min, length}
use Rattle.std.specs.List.{flat_map}
use Rattle.pglogical.specs.Spelling.{column_spelling}
use Rattle.pglogical.proofs.encoding.columns_len.Given as goal

abbrev pub invariant-loop-column : goal.invariant-loop-column
invariant-loop-column l =
    (l.total < 2 ^ 64) × (min (l.total + length (flat_map column_spelling l.column-iterator)) (2 ^ 64 - 1)
    ≡ min (2 + length (flat_map column_spelling l.columns)) (2 ^ 64 - 1))
