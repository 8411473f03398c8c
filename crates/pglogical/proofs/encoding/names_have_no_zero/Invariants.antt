use Rattle.std.proofs.Common.{◌≡◌}
use Rattle.pglogical.specs.SpellableTests.{names_have_no_zero}
use Rattle.pglogical.proofs.encoding.names_have_no_zero.Given as goal

abbrev pub invariant-loop-column : goal.invariant-loop-column
invariant-loop-column l = names_have_no_zero l.column-iterator ≡ names_have_no_zero l.columns
