use Rattle.pgreshaping.specs.Carries.{CarriesOn}
use Rattle.pgreshaping.proofs.carrying.unpark_rows.Given as goal

abbrev pub invariant-loop : goal.invariant-loop
invariant-loop g l = CarriesOn g.S.Store l.fn.rows l.rows l.old l.def l.park
