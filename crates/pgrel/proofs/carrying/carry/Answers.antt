use Rattle.std.proofs.Common.{ap, ◌∙◌}
use Rattle.pgrel.specs.Carried.{placed_cells}
use Rattle.pgrel.proofs.CarriedRows.{carried_by_places, if_ok}
use Rattle.pgrel.proofs.carrying.carry.Goals as goal

pub returns-clause-ok : goal.returns-clause-ok
returns-clause-ok c =
    if_ok c.carry-2.result _ _ c.carry-2.ensures.ok
    (ap (placed_cells c.args.row.now) c.in_ok-new.ensures.ok
    ∙ carried_by_places c.args.old.now.columns c.args.new.now.columns c.args.row.now)
