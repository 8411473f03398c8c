use Rattle.pgsub_core.proofs.OneOutcome.{piece_one, sessions_one}
use Rattle.pgsub_core.proofs.laws.bytes_have_one_outcome.Goals as goal

pub returns : goal.returns
returns c = record { piece = piece_one; sessions = sessions_one }
