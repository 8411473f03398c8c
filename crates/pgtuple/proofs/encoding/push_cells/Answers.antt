use Rattle.std.proofs.Common.{take}
use Rattle.std.specs.List.{flat_map}
use Rattle.pgtuple.specs.Cells.{cell_spelling}
use Rattle.pgtuple.proofs.Appending.{Keeps-more, on_err}
use Rattle.pgtuple.proofs.encoding.push_cells.Goals as goal

pub returns-in_err-push_cell-clause-err : goal.returns-in_err-push_cell-clause-err
returns-in_err-push_cell-clause-err c =
    on_err c.from_residual.result
    (Keeps-more c.args.out.now.items c.loop-cell.out.items c.push_cell.new.out.items
    (flat_map cell_spelling (take c.loop-cell.cell-index c.args.cells.now)) c.loop-cell.invariant c.in_err-push_cell.ensures.err)
