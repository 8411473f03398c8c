use Rattle.pgrules.proofs.Sessions as sessions
use Rattle.pgrules.proofs.laws.watched_is_of_histories.Goals as goal

pub returns : goal.returns
returns c = sessions.watched_is_of_histories
