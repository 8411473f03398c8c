use Rattle.std.proofs.Common.{◌≤◌, length}
use Rattle.pgfilespools.proofs.parts.parts_within.Given as goal

abbrev pub invariant-behind : goal.invariant-behind
invariant-behind l = l.kept ≤ length l.parts

abbrev pub decreases-behind : goal.decreases-behind
decreases-behind l = l.kept
