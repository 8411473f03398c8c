use Rattle.pgrel.proofs.CarriedRows.{carried_by_places}
use Rattle.pgrel.proofs.laws.rows_are_carried_by_places.Goals as goal

pub returns : goal.returns
returns c old new cells = carried_by_places old.columns new.columns cells
