use Rattle.pgcompared.proofs.Histories.{sessions_are_not_contradicted}
use Rattle.pgcompared.proofs.laws.sessions_are_not_contradicted.Goals as goal

pub returns : goal.returns
returns c = sessions_are_not_contradicted
