use Rattle.pgreshaping.specs.Parks.{ParksOn}
use Rattle.pgreshaping.proofs.parking.park_rows.Given as goal

abbrev pub invariant-loop : goal.invariant-loop
invariant-loop g l = ParksOn g.S.Store l.fn.rows l.rows l.oid l.park
