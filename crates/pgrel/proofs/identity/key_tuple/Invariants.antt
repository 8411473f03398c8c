use Rattle.std.proofs.Common.{◌≡◌, ◌++◌, drop}
use Rattle.pgrel.specs.Identity.{key_cells}
use Rattle.pgrel.proofs.identity.key_tuple.Given as goal

abbrev pub invariant-loop-column : goal.invariant-loop-column
invariant-loop-column l = l.key.items ++ key_cells (drop l.column-index l.columns) l.cells ≡ key_cells l.columns l.row
