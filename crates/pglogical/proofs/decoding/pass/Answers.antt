use Rattle.std.proofs.Common.{◌++◌, ◌∷◌, []}
use Rattle.std.proofs.lemmas.Result.{err_from_is_err_and}
use Rattle.pglogical.specs.BorrowedColumns.{column_value}
use Rattle.pglogical.specs.Reading.{columns_at}
use Rattle.pglogical.proofs.Columns.{one_more, stops_at, all_read}
use Rattle.pglogical.proofs.decoding.pass.Goals as goal

pub returns-in_err-column : goal.returns-in_err-column
returns-in_err-column c =
    let p = err_from_is_err_and c.from_residual.result c.from_residual.ensures.1 in
    rw (p.1, p.2) (stops_at c.in_err-column.field-0.0 c.loop.invariant.0 c.args.count c.loop.counter c.loop.reader
    (columns_at c.args.count c.args.reader.now) c.loop-test.true c.in_err-column.ensures c.loop.invariant.1)

pub loop-preserved : goal.loop-preserved
loop-preserved c = (
  c.loop.invariant.0 ++ column_value c.in_ok-column.field-0 ∷ [],
  one_more c.loop.invariant.0 c.args.count c.loop.counter c.loop.reader c.column.new.reader (column_value c.in_ok-column.field-0)
      (columns_at c.args.count c.args.reader.now) c.loop-test.true c.in_ok-column.ensures c.loop.invariant.1,
)

pub returns : goal.returns
returns c = (
  c.loop.invariant.0,
  all_read c.loop.invariant.0 c.args.count c.loop.counter c.loop.reader (columns_at c.args.count c.args.reader.now) c.loop-test.false
      c.loop.invariant.1,
)
