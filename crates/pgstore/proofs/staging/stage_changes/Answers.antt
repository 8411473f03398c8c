use Rattle.std.proofs.Common.{sym, subst, arith}
use Rattle.sqlite.specs.Effect.{Database}
use Rattle.sqlite.specs.State.{HasCleanDisk}
use Rattle.pgtables.specs.Kept.{tables_in}
use Rattle.pgrows.specs.Rows.{state}
use Rattle.pgencoded.specs.Spelled.{IsStored}
use Rattle.pgreshaping.specs.Known.{AreStored}
use Rattle.pgreshaping.proofs.Remembering.{none_known}
use Rattle.pgstore.proofs.Behind.{stages, unstages}
use Rattle.pgstore.proofs.staging.stage_changes.Goals as goal

pub returns-in-Err-take_changes-clause-unstaged : goal.returns-in-Err-take_changes-clause-unstaged
returns-in-Err-take_changes-clause-unstaged g c clean alone =
    let made : HasCleanDisk (state g.S.Store c.take_changes.new.rows) = omega (arith, c.undo_one.ensures.nothing.survives.clean, clean) in
    let was : HasCleanDisk (state g.S.Store c.mark.new.self) = omega (arith, c.take_changes.ensures.goes.survives.clean, made) in
    let returns = c.undo_one.ensures.back clean alone in
    unstages g.S.Store c.args.rows.now c.mark.new.self c.take_changes.new.rows c.undo_one.new.rows (c.in_default.ensures.marked was)
    c.take_changes.ensures.goes made returns

pub returns-clause-staged : goal.returns-clause-staged
returns-clause-staged g c clean =
    let made : HasCleanDisk (state g.S.Store c.take_changes.new.rows) = omega (arith, c.keep.ensures.survives.clean, clean) in
    let was : HasCleanDisk (state g.S.Store c.mark.new.self) = omega (arith, c.take_changes.ensures.goes.survives.clean, made) in
    stages g.S.Store c.args.rows.now c.mark.new.self c.take_changes.new.rows c.keep.new.self (c.in_default.ensures.marked was)
    c.take_changes.ensures.goes made c.args.definitions.now c.args.changes.now
    c.in_default-take_changes.ensures.made (c.in_default-keep.ensures.kept clean)

pub take_changes-requires-clause-known : goal.take_changes-requires-clause-known
take_changes-requires-clause-known g c clean still =
    let marks = c.in_default.ensures.marked clean in
    subst (λ (d : Database). AreStored c.args.known.now (tables_in d.trees)) (sym marks.now_is)
    (c.requires.known (omega (arith, c.mark.ensures.survives.clean, clean)) marks.was_open)

pub take_changes-requires-clause-stored : goal.take_changes-requires-clause-stored
take_changes-requires-clause-stored g c clean still =
    let marks = c.in_default.ensures.marked clean in
    let v = c.requires.stored (omega (arith, c.mark.ensures.survives.clean, clean)) marks.was_open in
    (v.0, subst (λ (d : Database). IsStored v.0 (tables_in d.trees)) (sym marks.now_is) v.1)

pub returns-clause-knows : goal.returns-clause-knows
returns-clause-knows g c clean still =
    let made : HasCleanDisk (state g.S.Store c.take_changes.new.rows) = omega (arith, c.keep.ensures.survives.clean, clean) in
    let was : HasCleanDisk (state g.S.Store c.mark.new.self) = omega (arith, c.take_changes.ensures.goes.survives.clean, made) in
    let drops = c.in_default-keep.ensures.kept clean in
    subst (λ (d : Database). AreStored c.take_changes.new.known (tables_in d.trees)) (sym drops.now_is)
    (c.in_default-take_changes.ensures.knows made (c.in_default.ensures.marked was).is_open)

pub returns-in-Err-clause-knows : goal.returns-in-Err-clause-knows
returns-in-Err-clause-knows g c = none_known g.S.Store c.clear.new.self c.mark.new.self c.clear.ensures

pub returns-in-Err-take_changes-clause-knows : goal.returns-in-Err-take_changes-clause-knows
returns-in-Err-take_changes-clause-knows g c =
    none_known g.S.Store c.clear-in-Err-take_changes.new.self c.undo_one.new.rows c.clear-in-Err-take_changes.ensures

pub returns-in-Err-keep-clause-knows : goal.returns-in-Err-keep-clause-knows
returns-in-Err-keep-clause-knows g c = none_known g.S.Store c.clear-in-Err-keep.new.self c.keep.new.self c.clear-in-Err-keep.ensures
