use Rattle.std.proofs.Common.{refl}
use Rattle.pgloaded.proofs.loading.load_first.Goals as goal

pub returns-in-Some-clause-loaded : goal.returns-in-Some-clause-loaded
returns-in-Some-clause-loaded g c = rw c.in-Some.is c.load_planned.ensures.loaded

pub returns-in-Some-clause-stopped : goal.returns-in-Some-clause-stopped
returns-in-Some-clause-stopped g c = rw c.in-Some.is c.load_planned.ensures.stopped

pub returns-in-Some-clause-begun : goal.returns-in-Some-clause-begun
returns-in-Some-clause-begun g c = rw c.in-Some.is c.load_planned.ensures.begun

pub returns-in-Some-clause-reader : goal.returns-in-Some-clause-reader
returns-in-Some-clause-reader g c = rw c.in-Some.is tt

pub returns-in-None-clause-loaded : goal.returns-in-None-clause-loaded
returns-in-None-clause-loaded g c = rw c.in-None.is (λ none. (refl, refl))

pub returns-in-None-clause-reader : goal.returns-in-None-clause-reader
returns-in-None-clause-reader g c = rw c.in-None.is refl

pub returns-in-None-clause-begun : goal.returns-in-None-clause-begun
returns-in-None-clause-begun g c = rw c.in-None.is (λ none. refl)
