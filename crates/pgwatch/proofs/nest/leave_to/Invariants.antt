use Rattle.std.proofs.Common.{◌≡◌, reverse, length}
use Rattle.pgwatch.specs.Nesting.{path_to}
use Rattle.pgwatch.proofs.nest.leave_to.Given as goal

abbrev pub invariant-loop-last : goal.invariant-loop-last
invariant-loop-last l = path_to l.xid (reverse l.path.items) ≡ path_to l.xid (reverse l.initial.path.items)

abbrev pub decreases-loop-last : goal.decreases-loop-last
decreases-loop-last l = length l.path.items
