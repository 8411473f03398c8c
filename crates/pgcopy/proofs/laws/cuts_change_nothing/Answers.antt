use Rattle.pgcopy.proofs.Runs.{cuts_are_the_same}
use Rattle.pgcopy.proofs.laws.cuts_change_nothing.Goals as goal

pub returns : goal.returns
returns c = cuts_are_the_same
