use Rattle.pgrules.proofs.Sessions as sessions
use Rattle.pgrules.proofs.laws.breach_is_no_session.Goals as goal

pub returns : goal.returns
returns c = sessions.breach_is_no_session
