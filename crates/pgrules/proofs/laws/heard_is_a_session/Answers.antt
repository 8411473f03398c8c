use Rattle.pgrules.proofs.Sessions as sessions
use Rattle.pgrules.proofs.laws.heard_is_a_session.Goals as goal

pub returns : goal.returns
returns c = sessions.heard_is_a_session
