use Rattle.std.proofs.Common.{◌<◌, ◌^◌, sym, subst, arith}
use Rattle.pgapply.specs.Taken as taken
use Rattle.pgapply.specs.Tallies.{Tally}
use Rattle.pgstore.specs.Sources.{rows_in}
use Rattle.pgstore.specs.StoreValue.{Group, IsGroup, Plans, StoreValue}
use Rattle.pgstore.proofs.Groups.{before_stored, refused_group, refused_plans, stages_folds}
use Rattle.pgstore.proofs.Groups.{was_planned}
use Rattle.pgstore.proofs.Parted.{parted_group}
use Rattle.pgstore.proofs.Stores.{read_left, stays_store}
use Rattle.pgstore.proofs.store.Store.stage_parts_with.Goals as goal

pub stage_parts_told-staged-requires-clause-stored : goal.stage_parts_told-staged-requires-clause-stored
stage_parts_told-staged-requires-clause-stored g c clean still =
    let old = rows_in c.self.inside.source in
    before_stored g.S.Store old old c.self.inside.position c.self.inside.group c.is_empty-is_first.result
    c.is_empty-is_first.ensures (omega arith) c.self.invariant.1 c.self.invariant.2 (sym c.in_default.ensures.lost) clean still

pub invariant_of-self : goal.invariant_of-self
invariant_of-self g c =
    let p = g.P.Parts in
    let old = rows_in c.self.inside.source in
    let new = rows_in c.stage_parts_told-staged.new.source in
    let position = c.self.inside.position in
    let group = c.self.inside.group in
    let survives = c.stage_parts_told-staged.ensures.survives in
    let misses = c.stage_parts_told-staged.new.misses in
    let tally : Tally = record { misses = misses; commits = c.with_parts-commits.result.commits } in
    let end = c.args.end in
    let later : group.reach < end = subst (λ (s : StoreValue g.row.S.Denot). s.group.reach < end) (sym c.self.view_is) c.requires in
    let range : end < 2 ^ 64 = c.stage_parts_told-staged.ensures.range in (
      c.stage_parts_told-staged.ensures.source,
      stays_store g.S.Store old new position survives.clean c.stage_parts_told-staged.ensures.commit c.self.invariant.1
          (read_left g.S.Store old new position survives) g.met.S.Store.settled,
      subst (IsGroup g.S.Store new position) (sym c.stage.ensures)
          (parted_group g.S.Store old new position group c.is_empty-is_first.result c.is_empty-is_first.ensures survives.clean
          (p.is_honest c.stage_parts_told-staged.new.parts) (p.left c.args.parts.now) end c.stages_missed-missed.result misses tally
          later range (sym c.in_default.ensures.lost) c.self.invariant.1 c.self.invariant.2 c.in-Ok.ensures.staged),
    )

pub invariant_of-self-in-Err : goal.invariant_of-self-in-Err
invariant_of-self-in-Err g c =
    let old = rows_in c.self.inside.source in
    let new = rows_in c.stage_parts_told-staged.new.source in
    let position = c.self.inside.position in
    let group = c.self.inside.group in
    let survives = c.stage_parts_told-staged.ensures.survives in (
      c.stage_parts_told-staged.ensures.source,
      stays_store g.S.Store old new position survives.clean c.stage_parts_told-staged.ensures.commit c.self.invariant.1
          (read_left g.S.Store old new position survives) g.met.S.Store.settled,
      subst (IsGroup g.S.Store new position) (sym c.refuse.ensures.group)
          (refused_group g.S.Store old new position group c.is_empty-is_first.result c.is_empty-is_first.ensures survives.clean
          c.stage_parts_told-staged.ensures.commit c.in-Err.unstaged.is_lost c.in-Err.ensures.unstaged c.self.invariant.2),
    )

pub returns-in-Ok-clause-staged : goal.returns-in-Ok-clause-staged
returns-in-Ok-clause-staged g c clean honest =
    let all = g.P.Parts.left c.args.parts.now in
    let old = rows_in c.self.inside.source in
    let new = rows_in c.stage_parts_told-staged.new.source in
    let position = c.self.inside.position in
    let group = c.self.inside.group in
    let survives = c.stage_parts_told-staged.ensures.survives in
    let misses = c.stage_parts_told-staged.new.misses in
    let tally : Tally = record { misses = misses; commits = c.with_parts-commits.result.commits } in
    let end = c.args.end in
    let later : group.reach < end = subst (λ (s : StoreValue g.row.S.Denot). s.group.reach < end) (sym c.self.view_is) c.requires in
    let was : StoreValue g.row.S.Denot = record { rows = old; position = position; group = group } in
    let it = c.in-Ok.ensures.staged clean in
    subst (λ (s : StoreValue g.row.S.Denot).
    taken.Folds (Plans g.S.Store) s (record { rows = new; position = position; group = c.stage.new.self }) all) c.self.view_is
    (subst (λ (a : Group). taken.Folds (Plans g.S.Store) was (record { rows = new; position = position; group = a }) all)
    (sym c.stage.ensures)
    (stages_folds g.S.Store old new position group c.is_empty-is_first.result c.is_empty-is_first.ensures survives.clean
    it.definitions it.changes all (it.are honest) end tally c.self.invariant.2.order later (sym c.in_default.ensures.lost) it.staged))

pub returns-in-Err-clause-undone : goal.returns-in-Err-clause-undone
returns-in-Err-clause-undone g c serves =
    let old = rows_in c.self.inside.source in
    let new = rows_in c.stage_parts_told-staged.new.source in
    let position = c.self.inside.position in
    let group = c.self.inside.group in
    let survives = c.stage_parts_told-staged.ensures.survives in
    let was : StoreValue g.row.S.Denot = record { rows = old; position = position; group = group } in
    subst (λ (s : StoreValue g.row.S.Denot).
    taken.Stays (Plans g.S.Store) s (record { rows = new; position = position; group = c.refuse.new.self })) c.self.view_is
    (subst (λ (a : Group). taken.Stays (Plans g.S.Store) was (record { rows = new; position = position; group = a }))
    (sym c.refuse.ensures.group)
    (refused_plans g.S.Store old new position group c.is_empty-is_first.result c.is_empty-is_first.ensures survives.clean
    c.stage_parts_told-staged.ensures.commit c.in-Err.unstaged.is_lost c.in-Err.ensures.unstaged
    (record { honest = serves.honest; is_open = serves.is_open })))

pub returns-in-Ok-clause-told : goal.returns-in-Ok-clause-told
returns-in-Ok-clause-told g c clean honest tables plans =
    let old = rows_in c.self.inside.source in
    let position = c.self.inside.position in
    let group = c.self.inside.group in
    c.in-Ok.ensures.told clean honest tables
    (was_planned g.S.Store old (rows_in c.stage_parts_told-staged.new.source) position group c.is_empty-is_first.result
    c.is_empty-is_first.ensures c.stage_parts_told-staged.ensures.survives.clean tables
    (subst (λ (s : StoreValue g.row.S.Denot). Plans g.S.Store s tables) (sym c.self.view_is) plans) (sym c.in_default.ensures.lost))
