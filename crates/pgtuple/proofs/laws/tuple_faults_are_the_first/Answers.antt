use Rattle.pgtuple.proofs.FirstFaults.{faults_are_first}
use Rattle.pgtuple.proofs.laws.tuple_faults_are_the_first.Goals as goal

pub returns : goal.returns
returns c = faults_are_first
