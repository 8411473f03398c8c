use Rattle.pgwire.proofs.Messages.{payload_again, fault_again}
use Rattle.pgwire.proofs.laws.payload_has_one_reading.Goals as goal

pub returns : goal.returns
returns c = record { message = payload_again; fault = fault_again }
