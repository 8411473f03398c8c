use Rattle.std.proofs.Common.{◌≡◌}
use Rattle.pgrel.specs.Identity.{has_unchanged}
use Rattle.pgrel.proofs.identity.has_unchanged.Given as goal

abbrev pub invariant-loop-cell : goal.invariant-loop-cell
invariant-loop-cell l = has_unchanged l.cell-iterator ≡ has_unchanged l.row
