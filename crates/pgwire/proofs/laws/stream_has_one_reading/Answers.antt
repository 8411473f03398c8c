use Rattle.pgwire.proofs.Readings.{one_deframing}
use Rattle.pgwire.proofs.laws.stream_has_one_reading.Goals as goal

pub returns : goal.returns
returns c = one_deframing
