use Rattle.std.proofs.Common.{◌≡◌, take}
use Rattle.pgrel.specs.Carried.{placed_cells}
use Rattle.pgrel.proofs.carrying.Carrying.carry.Given as goal

abbrev pub invariant-loop-place : goal.invariant-loop-place
invariant-loop-place l = l.cells.items ≡ placed_cells l.row (take l.place-index l.places)
