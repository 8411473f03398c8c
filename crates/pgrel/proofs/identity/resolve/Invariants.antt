use Rattle.std.proofs.Common.{◌≡◌, ◌++◌, length}
use Rattle.pgrel.specs.Identity.{resolved}
use Rattle.pgrel.proofs.identity.resolve.Given as goal

abbrev pub invariant-loop-cell : goal.invariant-loop-cell
invariant-loop-cell l = (length l.cell-iterator ≡ length l.olds)
    × (l.cells.items ++ resolved l.cell-iterator l.olds ≡ resolved l.new l.old_row)
