use Rattle.std.proofs.Common.{◌++◌, ◌∷◌, []}
use Rattle.std.proofs.lemmas.Result.{err_from_is_err_and}
use Rattle.pgtuple.specs.Borrowed.{cell_value}
use Rattle.pgtuple.specs.Reading.{cells_at}
use Rattle.pgtuple.proofs.Loop.{goes_on, ends_at, is_done}
use Rattle.pgtuple.proofs.decoding.cells.Goals as goal

pub returns-in_err-cell : goal.returns-in_err-cell
returns-in_err-cell c =
    let p = err_from_is_err_and c.from_residual.result c.from_residual.ensures.1 in
    rw (p.1, p.2) (ends_at c.in_err-cell.field-0.0 c.loop.invariant.0 c.args.count c.loop.counter c.loop.reader
    (cells_at c.args.count c.args.reader.now) c.loop-test.true c.in_err-cell.ensures c.loop.invariant.1)

pub loop-preserved : goal.loop-preserved
loop-preserved c = (
  c.loop.invariant.0 ++ cell_value c.in_ok-cell.field-0 ∷ [],
  goes_on c.loop.invariant.0 c.args.count c.loop.counter c.loop.reader (cell_value c.in_ok-cell.field-0) c.cell.new.reader
      (cells_at c.args.count c.args.reader.now) c.loop-test.true c.in_ok-cell.ensures c.loop.invariant.1,
)

pub returns : goal.returns
returns c = (
  c.loop.invariant.0,
  is_done c.loop.invariant.0 c.args.count c.loop.counter c.loop.reader (cells_at c.args.count c.args.reader.now) c.loop-test.false
      c.loop.invariant.1,
)
