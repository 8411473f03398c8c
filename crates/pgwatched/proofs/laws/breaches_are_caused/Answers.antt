use Rattle.pgwatched.proofs.Causes as causes
use Rattle.pgwatched.proofs.laws.breaches_are_caused.Goals as goal

pub returns : goal.returns
returns c = causes.breaches_are_caused
