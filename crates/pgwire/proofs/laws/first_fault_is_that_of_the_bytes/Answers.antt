use Rattle.pgwire.proofs.Runs.{first_fault}
use Rattle.pgwire.proofs.laws.first_fault_is_that_of_the_bytes.Goals as goal

pub returns : goal.returns
returns c = first_fault
