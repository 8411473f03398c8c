use Rattle.pgrepeats.proofs.Histories.{histories_are_not_contradicted}
use Rattle.pgrepeats.proofs.laws.histories_are_not_contradicted.Goals as goal

pub returns : goal.returns
returns c = histories_are_not_contradicted
