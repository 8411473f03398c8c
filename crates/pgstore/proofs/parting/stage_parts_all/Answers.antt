use Rattle.std.proofs.Common.{sym, subst, arith}
use Rattle.sqlite.specs.State.{HasCleanDisk}
use Rattle.pgtables.specs.Kept as stored
use Rattle.pgrows.specs.Rows.{state}
use Rattle.pgencoded.specs.Spelled.{IsStored}
use Rattle.pgencoded.specs.Acts.{CountsFrom}
use Rattle.pgencoded.proofs.Acting.{on_ok}
use Rattle.pgstore.specs.Parted.{AddsImages}
use Rattle.pgstore.proofs.parting.stage_parts_all.Goals as goal

pub stage_parts_changes-requires-clause-stored : goal.stage_parts_changes-requires-clause-stored
stage_parts_changes-requires-clause-stored g c clean still =
    let prepared = (rw c.in-Trees.is at c.prepare.ensures.prepares) clean still in
    let v = c.requires.stored (omega (arith, clean, rw c.in-Trees.is at c.prepare.ensures.survives.clean)) prepared.0 in
    (v.0, subst (IsStored v.0) (sym prepared.1) v.1)

pub returns-in-Trees-clause-staged : goal.returns-in-Trees-clause-staged
returns-in-Trees-clause-staged g c clean =
    let was : HasCleanDisk (state g.S.Store c.in-Trees.rows) = omega (arith, c.stage_parts_changes.ensures.nothing.survives.clean, clean) in
    let prepared = (rw c.in-Trees.is at c.prepare.ensures.prepares) was (c.is_sound.ensures.sound c.if-is_sound.true was).0 in
    on_ok c.stage_parts_changes.result (c.stage_parts_changes.ensures.staged clean) (λ it. record {
      definitions = it.definitions;
      changes = it.changes;
      are = it.are;
      staged = record {
        was_open = prepared.0;
        is_open = it.stages.over.is_open;
        folds = λ v h. it.stages.folds v (subst (IsStored v) (sym prepared.1) h);
      };
      counts = subst (λ (t : stored.Tables).
          CountsFrom t it.definitions it.changes c.args.end c.args.misses.now c.stage_parts_changes.new.misses) prepared.1 it.counts;
    })

pub returns-in-Trees-clause-told : goal.returns-in-Trees-clause-told
returns-in-Trees-clause-told g c clean =
    let l = g.L.Ledger in
    let was : HasCleanDisk (state g.S.Store c.in-Trees.rows) = omega (arith, c.stage_parts_changes.ensures.nothing.survives.clean, clean) in
    let prepared = (rw c.in-Trees.is at c.prepare.ensures.prepares) was (c.is_sound.ensures.sound c.if-is_sound.true was).0 in
    on_ok c.stage_parts_changes.result (c.stage_parts_changes.ensures.told clean) (λ told honest.
    subst (λ (t : stored.Tables). AddsImages l.drafts l.is_wanting t (g.P.Parts.left c.args.parts.now) c.args.ledger.now
    c.stage_parts_changes.new.ledger) prepared.1 (told honest))
