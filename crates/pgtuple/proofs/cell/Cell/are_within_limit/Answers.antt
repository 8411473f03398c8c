use Rattle.std.proofs.Common.{refl, arith}
use Rattle.pgtuple.proofs.cell.Cell.are_within_limit.Goals as goal

pub returns : goal.returns
returns c = (λ _ k d lt. c.loop-cell.invariant k d (omega arith), λ _. refl)
