use Rattle.pglogical.specs.Typed.{AreTypedColumns}
use Rattle.pglogical.proofs.message_ref.show_columns.Given as goal

abbrev pub invariant-loop-each : goal.invariant-loop-each
invariant-loop-each l = AreTypedColumns l.each-iterator → AreTypedColumns l.columns
