use Rattle.pgsub_core.proofs.Followed.{fed_followed}
use Rattle.pgsub_core.proofs.laws.fed_sessions_are_followed.Goals as goal

pub returns : goal.returns
returns c = record { followed = fed_followed }
