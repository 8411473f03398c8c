use Rattle.std.proofs.Common.{◌≤◌, arith}
use Rattle.std.proofs.lemmas.List.Elements.{All-from_recursion}
use Rattle.pgtuple.specs.Limits.{IsCell}
use Rattle.pgtuple.proofs.Lengths.{cell_bounded, front_bounded}
use Rattle.pgtuple.proofs.cell.Cell.spelled_lens.Goals as goal

pub overflow_add-total : goal.overflow_add-total
overflow_add-total c =
    let cells = c.args.cells.now in
    let so_far : c.loop-cell.total ≤ 3435973843200 = rw c.loop-cell.invariant (front_bounded cells c.loop-cell.cell-index c.requires) in
    let next : c.spelled_len-total.result ≤ 2147483652 =
    rw (c.spelled_len-total.ensures, c.cell-item.is)
    (cell_bounded _ (All-from_recursion IsCell cells c.requires.each c.loop-cell.cell-index _ c.loop-cell-test.true)) in
    omega arith
