use Rattle.pgwire.proofs.Readings.{one_fault, deframed_has_no_fault}
use Rattle.pgwire.proofs.laws.stream_has_one_fault.Goals as goal

pub returns : goal.returns
returns c = record { one = one_fault; none = deframed_has_no_fault }
