use Rattle.std.proofs.Common.{◌++◌, ◌∷◌, []}
use Rattle.pgtables.proofs.ReadSteps.{zip_on}
use Rattle.pgdumping.specs.DumpRead.{IsReadFrom}
use Rattle.pgdumping.proofs.dumping.ReadingRowSink.take.Goals as goal

pub returns-in-Ok-clause-took : goal.returns-in-Ok-clause-took
returns-in-Ok-clause-took g c took start rows h = (
  h.0 ++ c.in-Ok.read ∷ [],
  zip_on IsReadFrom rows h.0 c.args.row.now c.in-Ok.read h.1 c.in-Ok.ensures.read,
  c.take.ensures.took took start.sink h.0 h.2,
)
