use Rattle.std.proofs.Common.{take}
use Rattle.pglogical.specs.Typed.{AreTypedColumns}
use Rattle.pgreshaping.proofs.typed.columns.Given as goal

abbrev pub invariant-loop-each : goal.invariant-loop-each
invariant-loop-each l = AreTypedColumns (take l.each-index l.columns)
