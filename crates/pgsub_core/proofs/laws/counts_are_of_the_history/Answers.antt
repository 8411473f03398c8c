use Rattle.pgsub_core.proofs.TalliedBetween.{tally_has_transactions}
use Rattle.pgsub_core.proofs.TalliedSessions.{counted_of_history}
use Rattle.pgsub_core.proofs.laws.counts_are_of_the_history.Goals as goal

pub returns : goal.returns
returns c = record { tally = counted_of_history; commits = tally_has_transactions }
