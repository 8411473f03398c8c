use Rattle.pglogical.specs.Typed.{AreNumbers}
use Rattle.pglogical.proofs.message_ref.show_oids.Given as goal

abbrev pub invariant-loop-oid : goal.invariant-loop-oid
invariant-loop-oid l = AreNumbers l.oid-iterator → AreNumbers l.oids
