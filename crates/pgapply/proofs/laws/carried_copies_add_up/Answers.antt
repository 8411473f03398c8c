use Rattle.pgapply.proofs.AddingUp.{copies_add_up}
use Rattle.pgapply.proofs.Exceeding.{carrying_has_causes}
use Rattle.pgapply.proofs.laws.carried_copies_add_up.Goals as goal

pub returns : goal.returns
returns c = record { sums = copies_add_up; faults = carrying_has_causes }
