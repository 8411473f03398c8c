use Rattle.std.proofs.Common.{◌≡◌, length}
use Rattle.pgwatch.specs.Nesting.{nest}
use Rattle.pgwatch.proofs.nest.unnest.Given as goal

abbrev pub invariant-loop-last : goal.invariant-loop-last
invariant-loop-last l = nest l.nest l.left.items ≡ nest l.initial.nest l.initial.left.items

abbrev pub decreases-loop-last : goal.decreases-loop-last
decreases-loop-last l = length l.left.items
