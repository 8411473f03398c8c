use Rattle.pgsub_core.proofs.Restarting.{left_starts}
use Rattle.pgsub_core.proofs.laws.left_is_start.Goals as goal

pub returns : goal.returns
returns c = record { start = left_starts }
