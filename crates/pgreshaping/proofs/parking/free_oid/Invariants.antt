use Rattle.pgreshaping.specs.Parks.{StaysOn}
use Rattle.pgreshaping.proofs.parking.free_oid.Given as goal

abbrev pub invariant-loop-park : goal.invariant-loop-park
invariant-loop-park g l = StaysOn g.S.Store l.fn.rows l.rows
