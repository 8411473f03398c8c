use Rattle.std.proofs.Common.{◌≡◌, drop}
use Rattle.pgrel.specs.Identity.{has_unchanged, key_cells}
use Rattle.pgrel.proofs.identity.has_unchanged_key.Given as goal

abbrev pub invariant-loop-column : goal.invariant-loop-column
invariant-loop-column l = has_unchanged (key_cells (drop l.column-index l.columns) l.cells) ≡ has_unchanged (key_cells l.columns l.row)
