use Rattle.pgwatched.proofs.Fitting as fitting
use Rattle.pgwatched.proofs.Nested as proofs
use Rattle.pgwatched.proofs.laws.nested_is_streamed.Goals as goal

pub returns : goal.returns
returns c = record { streamed = proofs.nested_is_streamed; misfit = fitting.misfit_is_not_streamed }
