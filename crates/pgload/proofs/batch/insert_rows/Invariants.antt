use Rattle.std.proofs.Common.{◌≡◌, List, length}
use Rattle.pgtuple.specs.declared.cell.Cell.{Cell}
use Rattle.pgload.specs.Loading.{AreRowsIn}
use Rattle.pgload.proofs.Batches.{IsAddedTo}
use Rattle.pgload.proofs.batch.insert_rows.Given as goal

abbrev pub invariant-loop-row : goal.invariant-loop-row
invariant-loop-row l = record {
  same : l.work.definitions ≡ l.fn.work.definitions;
  added : (cells : List (List Cell)) → AreRowsIn l.rows cells
      → IsAddedTo l.fn.work.definitions l.def l.fn.work.changes l.work.changes l.rest cells;
}

abbrev pub decreases-loop-row : goal.decreases-loop-row
decreases-loop-row l = length l.rest
