use Rattle.pgsub_core.proofs.Followed.{confirmed_stored}
use Rattle.pgsub_core.proofs.SessionCuts.{sent_front}
use Rattle.pgsub_core.proofs.laws.confirmed_is_stored.Goals as goal

pub returns : goal.returns
returns c = record { fronts = sent_front; stored = confirmed_stored }
