use Rattle.std.proofs.Common.{sym, subst, arith}
use Rattle.sqlite.specs.Effect.{Database}
use Rattle.sqlite.specs.State.{HasCleanDisk}
use Rattle.pgtables.specs.Kept.{tables_in}
use Rattle.pgrows.specs.Rows.{state}
use Rattle.pgencoded.specs.Spelled.{IsStored}
use Rattle.pgreshaping.proofs.Remembering.{none_known}
use Rattle.pgstore.specs.Parted.{AddsImages}
use Rattle.pgstore.proofs.Parted.{stages_parts}
use Rattle.pgstore.proofs.parting.stage_parts_changes.Goals as goal

pub returns-in-Err-clause-knows : goal.returns-in-Err-clause-knows
returns-in-Err-clause-knows g c = none_known g.S.Store c.clear.new.self c.mark.new.self c.clear.ensures

pub take_parts-requires-clause-stored : goal.take_parts-requires-clause-stored
take_parts-requires-clause-stored g c clean still =
    let marks = c.in_default.ensures.marked clean in
    let v = c.requires.stored (omega (arith, c.mark.ensures.survives.clean, clean)) marks.was_open in
    (v.0, subst (λ (d : Database). IsStored v.0 (tables_in d.trees)) (sym marks.now_is) v.1)

pub returns-in-Err-take_parts-clause-knows : goal.returns-in-Err-take_parts-clause-knows
returns-in-Err-take_parts-clause-knows g c =
    none_known g.S.Store c.clear-in-Err-take_parts.new.self c.undo_one.new.rows c.clear-in-Err-take_parts.ensures

pub returns-in-Err-keep-clause-knows : goal.returns-in-Err-keep-clause-knows
returns-in-Err-keep-clause-knows g c = none_known g.S.Store c.clear-in-Err-keep.new.self c.keep.new.self c.clear-in-Err-keep.ensures

pub returns-clause-staged : goal.returns-clause-staged
returns-clause-staged g c clean =
    let p = g.P.Parts in
    let made : HasCleanDisk (state g.S.Store c.take_parts.new.rows) = omega (arith, c.keep.ensures.survives.clean, clean) in
    let was : HasCleanDisk (state g.S.Store c.mark.new.self) = omega (arith, c.take_parts.ensures.goes.survives.clean, made) in
    let marks = c.in_default.ensures.marked was in
    stages_parts g.S.Store c.args.rows.now c.mark.new.self c.take_parts.new.rows c.keep.new.self (p.is_honest c.take_parts.new.parts)
    (p.left c.args.parts.now) c.args.end c.args.misses.now c.take_parts.new.misses marks c.take_parts.ensures.goes made
    (c.in_default-take_parts.ensures.made made marks.is_open) (c.in_default-keep.ensures.kept clean)

pub returns-clause-told : goal.returns-clause-told
returns-clause-told g c clean honest =
    let l = g.L.Ledger in
    let made : HasCleanDisk (state g.S.Store c.take_parts.new.rows) = omega (arith, c.keep.ensures.survives.clean, clean) in
    let was : HasCleanDisk (state g.S.Store c.mark.new.self) = omega (arith, c.take_parts.ensures.goes.survives.clean, made) in
    let marks = c.in_default.ensures.marked was in
    subst (λ (d : Database). AddsImages l.drafts l.is_wanting (tables_in d.trees) (g.P.Parts.left c.args.parts.now)
    c.args.ledger.now c.take_parts.new.ledger) marks.now_is
    (c.in_default-take_parts.ensures.told made marks.is_open honest)
