use Rattle.pgcompared.proofs.HeardSessions.{sessions_are_heard}
use Rattle.pgcompared.proofs.laws.sessions_are_heard.Goals as goal

pub returns : goal.returns
returns c = sessions_are_heard
