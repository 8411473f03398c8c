use Rattle.std.proofs.Common.{length, ap, ◌∙◌, arith}
use Rattle.std.specs.List.{flat_map}
use Rattle.pglogical.specs.Spelling.{column_spelling}
use Rattle.pglogical.specs.BorrowedColumns.{column_value}
use Rattle.pglogical.proofs.SpelledLengths.{length-first_column}
use Rattle.pglogical.proofs.encoding.columns_len.Goals as goal

pub loop-column-preserved : goal.loop-column-preserved
loop-column-preserved c =
    let one = ap (λ l. length (flat_map column_spelling l)) c.in-Some.ensures.steps
    ∙ length-first_column (column_value c.in-Some.column) c.next.new.self in
    (omega arith, omega (arith, one, c.loop-column.invariant.0, c.loop-column.invariant.1))

pub returns : goal.returns
returns c =
    let none = ap (λ l. length (flat_map column_spelling l)) c.in-None.ensures.steps.0 in
    omega (arith, none, c.loop-column.invariant.0, c.loop-column.invariant.1)
