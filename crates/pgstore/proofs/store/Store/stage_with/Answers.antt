use Rattle.std.proofs.Common.{◌≡◌, ◌<◌, ◌^◌, sym, subst, ap, ◌∙◌, arith}
use Rattle.pgapply.specs.Taken as taken
use Rattle.pgapply.specs.Tallies.{Tally}
use Rattle.pgapply.specs.Works.{change_values}
use Rattle.pgstore.specs.Sources.{rows_in}
use Rattle.pgstore.specs.StoreValue.{Group, IsGroup, Plans, StoreValue}
use Rattle.pgstore.proofs.Groups.{before_stored, refused_group, refused_plans, staged_group}
use Rattle.pgstore.proofs.Groups.{stages_folds, was_planned}
use Rattle.pgstore.proofs.Stores.{read_left, stays_store}
use Rattle.pgstore.proofs.store.Store.stage_with.Goals as goal

pub invariant_of-self : goal.invariant_of-self
invariant_of-self g c =
    let old = rows_in c.self.inside.source in
    let new = rows_in c.stage_told-staged.new.source in
    let position = c.self.inside.position in
    let group = c.self.inside.group in
    let survives = c.stage_told-staged.ensures.survives in
    let tally : Tally = record { misses = c.stage_told-staged.new.misses; commits = c.with_commit-commits.result.commits } in
    let end = c.args.commit.now.end in
    let later : group.reach < end = subst (λ (s : StoreValue g.row.S.Denot). s.group.reach < end) (sym c.self.view_is) c.requires in
    let are : change_values c.definitions.result.now c.entries.result ≡ c.args.commit.now.work.now.changes =
    ap (λ ds. change_values ds c.entries.result) c.definitions.ensures.definitions ∙ c.entries.ensures.changes in
    let stands = sym c.in_default.ensures.lost in
    let range : end < 2 ^ 64 = c.stage_told-staged.ensures.range in (
      c.stage_told-staged.ensures.source,
      stays_store g.S.Store old new position survives.clean c.stage_told-staged.ensures.commit c.self.invariant.1
          (read_left g.S.Store old new position survives) g.met.S.Store.settled,
      subst (IsGroup g.S.Store new position) (sym c.stage.ensures)
          (staged_group g.S.Store old new position group c.is_empty-is_first.result c.is_empty-is_first.ensures survives.clean
          c.definitions.result.now c.entries.result c.args.commit.now.work.now.changes are end tally later range stands
          c.self.invariant.1 c.self.invariant.2 c.in-Ok.ensures.staged),
    )

pub invariant_of-self-in-Err : goal.invariant_of-self-in-Err
invariant_of-self-in-Err g c =
    let old = rows_in c.self.inside.source in
    let new = rows_in c.stage_told-staged.new.source in
    let position = c.self.inside.position in
    let group = c.self.inside.group in
    let survives = c.stage_told-staged.ensures.survives in (
      c.stage_told-staged.ensures.source,
      stays_store g.S.Store old new position survives.clean c.stage_told-staged.ensures.commit c.self.invariant.1
          (read_left g.S.Store old new position survives) g.met.S.Store.settled,
      subst (IsGroup g.S.Store new position) (sym c.refuse.ensures.group)
          (refused_group g.S.Store old new position group c.is_empty-is_first.result c.is_empty-is_first.ensures survives.clean
          c.stage_told-staged.ensures.commit c.in-Err.unstaged.is_lost c.in-Err.ensures.unstaged c.self.invariant.2),
    )

pub returns-in-Ok-clause-staged : goal.returns-in-Ok-clause-staged
returns-in-Ok-clause-staged g c clean =
    let old = rows_in c.self.inside.source in
    let new = rows_in c.stage_told-staged.new.source in
    let position = c.self.inside.position in
    let group = c.self.inside.group in
    let survives = c.stage_told-staged.ensures.survives in
    let tally : Tally = record { misses = c.stage_told-staged.new.misses; commits = c.with_commit-commits.result.commits } in
    let end = c.args.commit.now.end in
    let later : group.reach < end = subst (λ (s : StoreValue g.row.S.Denot). s.group.reach < end) (sym c.self.view_is) c.requires in
    let are : change_values c.definitions.result.now c.entries.result ≡ c.args.commit.now.work.now.changes =
    ap (λ ds. change_values ds c.entries.result) c.definitions.ensures.definitions ∙ c.entries.ensures.changes in
    let stands = sym c.in_default.ensures.lost in
    let was : StoreValue g.row.S.Denot = record { rows = old; position = position; group = group } in
    subst (λ (s : StoreValue g.row.S.Denot).
    taken.Folds (Plans g.S.Store) s (record { rows = new; position = position; group = c.stage.new.self })
    c.args.commit.now.work.now.changes) c.self.view_is
    (subst (λ (a : Group). taken.Folds (Plans g.S.Store) was (record { rows = new; position = position; group = a })
    c.args.commit.now.work.now.changes) (sym c.stage.ensures)
    (stages_folds g.S.Store old new position group c.is_empty-is_first.result c.is_empty-is_first.ensures survives.clean
    c.definitions.result.now c.entries.result c.args.commit.now.work.now.changes are end tally
    c.self.invariant.2.order later stands (c.in-Ok.ensures.staged clean)))

pub returns-in-Err-clause-undone : goal.returns-in-Err-clause-undone
returns-in-Err-clause-undone g c serves =
    let old = rows_in c.self.inside.source in
    let new = rows_in c.stage_told-staged.new.source in
    let position = c.self.inside.position in
    let group = c.self.inside.group in
    let survives = c.stage_told-staged.ensures.survives in
    let was : StoreValue g.row.S.Denot = record { rows = old; position = position; group = group } in
    subst (λ (s : StoreValue g.row.S.Denot).
    taken.Stays (Plans g.S.Store) s (record { rows = new; position = position; group = c.refuse.new.self })) c.self.view_is
    (subst (λ (a : Group). taken.Stays (Plans g.S.Store) was (record { rows = new; position = position; group = a }))
    (sym c.refuse.ensures.group)
    (refused_plans g.S.Store old new position group c.is_empty-is_first.result c.is_empty-is_first.ensures survives.clean
    c.stage_told-staged.ensures.commit c.in-Err.unstaged.is_lost c.in-Err.ensures.unstaged
    (record { honest = serves.honest; is_open = serves.is_open })))

pub returns-in-Ok-clause-told : goal.returns-in-Ok-clause-told
returns-in-Ok-clause-told g c clean tables plans =
    let old = rows_in c.self.inside.source in
    let position = c.self.inside.position in
    let group = c.self.inside.group in
    let changes = c.args.commit.now.work.now.changes in
    let was : StoreValue g.row.S.Denot = record { rows = old; position = position; group = group } in
    let stands = sym c.in_default.ensures.lost in
    c.in-Ok.ensures.told clean tables
    (was_planned g.S.Store old (rows_in c.stage_told-staged.new.source) position group c.is_empty-is_first.result
    c.is_empty-is_first.ensures c.stage_told-staged.ensures.survives.clean tables
    (subst (λ (s : StoreValue g.row.S.Denot). Plans g.S.Store s tables) (sym c.self.view_is) plans) stands)

pub stage_told-staged-requires-clause-stored : goal.stage_told-staged-requires-clause-stored
stage_told-staged-requires-clause-stored g c clean still =
    let old = rows_in c.self.inside.source in
    before_stored g.S.Store old old c.self.inside.position c.self.inside.group c.is_empty-is_first.result
    c.is_empty-is_first.ensures (omega arith) c.self.invariant.1 c.self.invariant.2 (sym c.in_default.ensures.lost) clean still
