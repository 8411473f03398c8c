use Rattle.pgrel.proofs.CarriedRows.{carried_width, carried_whole}
use Rattle.pgrel.proofs.laws.carried_rows_are_whole.Goals as goal

pub returns : goal.returns
returns c = record {
  width = λ old new cells. carried_width old.columns cells new.columns;
  whole = λ old new cells. carried_whole old.columns cells new.columns;
}
