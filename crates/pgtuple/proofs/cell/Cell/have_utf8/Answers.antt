use Rattle.std.proofs.Common.{arith}
use Rattle.pgtuple.proofs.cell.Cell.have_utf8.Goals as goal

pub returns : goal.returns
returns c k d lt = c.loop-cell.invariant k d (omega arith)
