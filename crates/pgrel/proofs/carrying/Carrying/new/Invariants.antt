use Rattle.std.proofs.Common.{◌≡◌, take}
use Rattle.pgrel.specs.Carried.{places}
use Rattle.pgrel.proofs.carrying.Carrying.new.Given as goal

abbrev pub invariant-loop-column : goal.invariant-loop-column
invariant-loop-column l = l.places.items ≡ places l.old.columns (take l.column-index l.columns)
