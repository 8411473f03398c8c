use Rattle.pgcompared.proofs.Histories.{lives_are_not_contradicted}
use Rattle.pgcompared.proofs.laws.lives_are_not_contradicted.Goals as goal

pub returns : goal.returns
returns c = lives_are_not_contradicted
