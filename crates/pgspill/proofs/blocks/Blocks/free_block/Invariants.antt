use Rattle.std.proofs.Common.{◌-◌, ◌≤◌}
use Rattle.pgspill.proofs.blocks.Blocks.free_block.Given as goal

abbrev pub invariant-taken : goal.invariant-taken
invariant-taken g l = l.block ≤ l.len

abbrev pub decreases-taken : goal.decreases-taken
decreases-taken g l = l.len - l.block
