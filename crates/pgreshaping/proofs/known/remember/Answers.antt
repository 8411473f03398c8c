use Rattle.pgreshaping.proofs.Remembering.{notes_none, notes_set}
use Rattle.pgreshaping.proofs.known.remember.Goals as goal

pub returns-in-Ok : goal.returns-in-Ok
returns-in-Ok c =
    notes_set c.args.known.now c.args.def.now c.in-Ok.copy c.set-set.new.self c.set-set.result c.in-Ok.ensures.same
    c.set-set.ensures.ok c.set-set.ensures.err c.set-set.ensures.absent

pub returns-in-Err : goal.returns-in-Err
returns-in-Err c = notes_none c.args.known.now c.clear.new.self c.args.def.now c.clear.ensures
