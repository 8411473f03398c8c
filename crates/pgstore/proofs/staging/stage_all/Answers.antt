use Rattle.std.proofs.Common.{sym, subst, arith}
use Rattle.sqlite.specs.State.{HasCleanDisk}
use Rattle.pgtables.specs.Kept as stored
use Rattle.pgrows.specs.Rows.{state}
use Rattle.pgencoded.specs.Spelled.{IsStored}
use Rattle.pgencoded.specs.Acts.{CountsFrom, RefusesToFold}
use Rattle.pgencoded.proofs.Acting.{if_err, on_ok}
use Rattle.pgchanging.specs.Looks.{TellsFrom}
use Rattle.pgstore.proofs.staging.stage_all.Goals as goal

pub returns-in-Trees-clause-staged : goal.returns-in-Trees-clause-staged
returns-in-Trees-clause-staged g c clean =
    let was : HasCleanDisk (state g.S.Store c.in-Trees.rows) = omega (arith, c.stage_changes.ensures.nothing.survives.clean, clean) in
    let prepared = (rw c.in-Trees.is at c.prepare.ensures.prepares) was (c.is_sound.ensures.sound c.if-is_sound.true was).0 in
    on_ok c.stage_changes.result (c.stage_changes.ensures.staged clean) (λ stages. record {
      was_open = prepared.0;
      is_open = stages.over.is_open;
      folds = λ v h. stages.folds v (subst (IsStored v) (sym prepared.1) h);
    })

pub returns-in-Trees-clause-counts : goal.returns-in-Trees-clause-counts
returns-in-Trees-clause-counts g c clean =
    let was : HasCleanDisk (state g.S.Store c.in-Trees.rows) = omega (arith, c.stage_changes.ensures.nothing.survives.clean, clean) in
    let prepared = (rw c.in-Trees.is at c.prepare.ensures.prepares) was (c.is_sound.ensures.sound c.if-is_sound.true was).0 in
    on_ok c.stage_changes.result (c.stage_changes.ensures.counts clean) (λ counts.
    subst (λ (t : stored.Tables).
    CountsFrom t c.args.definitions.now c.args.changes.now c.args.end c.args.misses.now c.stage_changes.new.misses) prepared.1 counts)

pub returns-in-Trees-clause-fault : goal.returns-in-Trees-clause-fault
returns-in-Trees-clause-fault g c clean still =
    let was : HasCleanDisk (state g.S.Store c.in-Trees.rows) = omega (arith, c.stage_changes.ensures.nothing.survives.clean, clean) in
    let sound = (c.is_sound.ensures.sound c.if-is_sound.true was).0 in
    let prepared = (rw c.in-Trees.is at c.prepare.ensures.prepares) was sound in
    if_err c.stage_changes.result (c.stage_changes.ensures.fault clean sound) (λ u refuses.
    subst (λ (t : stored.Tables). RefusesToFold t c.args.definitions.now c.args.changes.now u.refusal) prepared.1 refuses)

pub returns-in-Trees-clause-told : goal.returns-in-Trees-clause-told
returns-in-Trees-clause-told g c clean =
    let was : HasCleanDisk (state g.S.Store c.in-Trees.rows) = omega (arith, c.stage_changes.ensures.nothing.survives.clean, clean) in
    let prepared = (rw c.in-Trees.is at c.prepare.ensures.prepares) was (c.is_sound.ensures.sound c.if-is_sound.true was).0 in
    on_ok c.stage_changes.result (c.stage_changes.ensures.told clean) (λ tells.
    subst (λ (t : stored.Tables). TellsFrom t c.args.definitions.now c.args.changes.now c.args.telling.now c.stage_changes.new.telling)
    prepared.1 tells)

pub stage_changes-requires-clause-stored : goal.stage_changes-requires-clause-stored
stage_changes-requires-clause-stored g c clean still =
    let prepared = (rw c.in-Trees.is at c.prepare.ensures.prepares) clean still in
    let v = c.requires.stored (omega (arith, clean, rw c.in-Trees.is at c.prepare.ensures.survives.clean)) prepared.0 in
    (v.0, subst (IsStored v.0) (sym prepared.1) v.1)

pub stage_changes-requires-clause-known : goal.stage_changes-requires-clause-known
stage_changes-requires-clause-known g c = (rw c.in-Trees.is at c.prepare.ensures.source).1

pub returns-in-Trees-clause-source : goal.returns-in-Trees-clause-source
returns-in-Trees-clause-source g c = (
  c.stage_changes.ensures.nothing.numbered (rw c.in-Trees.is at c.prepare.ensures.source).0,
  c.stage_changes.ensures.knows,
  λ settled. absurd (cc),
)
