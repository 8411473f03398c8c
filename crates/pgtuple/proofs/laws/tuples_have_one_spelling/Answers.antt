use Rattle.pgtuple.proofs.Tuples.{tuple_again, tuple_takes, tuples_apart}
use Rattle.pgtuple.proofs.laws.tuples_have_one_spelling.Goals as goal

pub returns : goal.returns
returns c = record { read = tuple_again; spelled = tuple_takes; apart = tuples_apart }
