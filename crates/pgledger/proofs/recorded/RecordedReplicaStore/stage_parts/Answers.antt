use Rattle.std.proofs.Common.{◌≡◌, ◌<◌, ◌∙◌, ◌++◌, false, sym, ap, subst, arith}
use Rattle.pgapply.specs.Tallies.{taken_commit}
use Rattle.pgledger.specs.Entries.{messages_of}
use Rattle.pgledger.specs.Records.{StagesSince}
use Rattle.pgledger.proofs.Recording.{at_plans, at_reach, at_records, both_err, both_ok}
use Rattle.pgledger.proofs.Recording.{dropped_parts_plans}
use Rattle.pgledger.proofs.Recording.{dropped_parts_records, more_records, more_staged, of_both}
use Rattle.pgledger.proofs.Recording.{of_err, of_ok}
use Rattle.pgledger.proofs.recorded.RecordedReplicaStore.stage_parts.Goals as goal

pub returns-clause-staged : goal.returns-clause-staged
returns-clause-staged g c serves honest =
    let l = g.L.Ledger in
    let s = g.S.ReplicaStore in
    let old = c.args.self.now in
    let new = c.stage_parts_with.new.self in
    let ledger = c.stage_parts_with.new.ledger in
    let end = c.args.end in
    let about = c.args.about in
    let changes = g.P.Parts.left c.args.parts.now in
    let were = (s.stages_tally old.store).commits in
    let free : l.is_stuck old.ledger ≡ false = sym c.is_stuck.ensures ∙ c.if-is_stuck.false in
    of_ok c.stage_parts_with.result (c.stage_parts_with.ensures.staged serves honest)
    (both_ok _ _ c.stage_parts_with.result c.stage_parts_with.ensures.end (c.stage_parts_with.ensures.counts serves honest))
    (c.stage_parts_with.ensures.told serves honest)
    (λ folds both told tables h.
    let is = both.0 in
    let n = folds tables h.0 in (
      n.0,
      n.1,
      (
        n.2,
        λ so. record {
          held = λ here. absurd (let order = c.reached-reached.ensures.order in let later = c.requires in
              let place = c.stage_parts_with.ensures.position in let never : ⊥ = omega (arith, order, later, place, is, here) in never);
          staged = λ stands.
              subst (λ cs. StagesSince l.begins l.keeps l.outlasts l.is_stuck ledger old.from cs n.0 (s.reach new))
              (sym (ap (λ t. t.commits) (both.1 tables h.0)))
              (subst (λ p. StagesSince l.begins l.keeps l.outlasts l.is_stuck ledger old.from (were ++ taken_commit end about changes) n.0
              p)
              (sym is)
              (more_staged l.begins l.keeps l.outlasts l.is_stuck l.is_wanting l.is_hearing l.reopens
              old.ledger ledger c.stage_parts_with.ensures.rests old.from were tables
              (s.reach old.store) end about (messages_of (l.heard old.ledger))
              changes n.0 c.requires n.1 (told tables h.0) ((h.1 so).staged free)));
        },
      ),
    ))

pub returns-clause-undone : goal.returns-clause-undone
returns-clause-undone g c serves =
    let l = g.L.Ledger in
    let s = g.S.ReplicaStore in
    let old = c.args.self.now in
    let new = c.stage_parts_with.new.self in
    let ledger = c.stage_parts_with.new.ledger in
    let later : s.place old.store < c.args.end = let order = c.reached-reached.ensures.order in let more = c.requires in
    omega (arith, order, more) in
    of_err c.stage_parts_with.result (c.stage_parts_with.ensures.undone serves)
    (both_err _ _ c.stage_parts_with.result c.stage_parts_with.ensures.reach c.stage_parts_with.ensures.uncounted)
    c.stage_parts_with.ensures.untold
    (λ stays both untold tables h. (
      stays tables h.0,
      λ so. at_plans l.begins l.keeps l.outlasts l.is_stuck l.is_wanting l.is_hearing l.reopens ledger old.from tables _ _ _ _ _ _ _ _
          (ap (λ t. t.commits) c.stage_parts_with.ensures.tally) (ap (λ t. t.commits) both.1) c.stage_parts_with.ensures.position both.0
          (dropped_parts_plans l.begins l.keeps l.outlasts l.is_stuck l.is_wanting l.is_hearing l.reopens
          old.ledger ledger c.stage_parts_with.ensures.rests old.from (s.tally old.store).commits tables
          (s.place old.store) c.args.end later c.stage_parts_with.ensures.at_most
          c.stage_parts_with.ensures.was_free untold (s.reach old.store) (s.stages_tally old.store).commits (h.1 so)),
    ))

pub returns-clause-unchanged : goal.returns-clause-unchanged
returns-clause-unchanged g c serves tables h =
    let l = g.L.Ledger in
    let s = g.S.ReplicaStore in
    let old = c.args.self.now in
    let new = c.stage_parts_with.new.self in
    let ledger = c.stage_parts_with.new.ledger in
    let end = c.args.end in
    let later : s.place old.store < end = let order = c.reached-reached.ensures.order in let more = c.requires in
    omega (arith, order, more) in (
      c.stage_parts_with.ensures.unchanged serves tables h.0,
      λ so. at_records l.begins l.keeps l.outlasts l.is_stuck l.is_wanting l.is_hearing l.reopens ledger old.from tables _ _ _ _ (s.reach
          new) (ap (λ t. t.commits) c.stage_parts_with.ensures.tally)
          c.stage_parts_with.ensures.position
          (of_both c.stage_parts_with.result c.stage_parts_with.ensures.end c.stage_parts_with.ensures.reach
          c.stage_parts_with.ensures.untold
          (λ is. more_records l.begins l.keeps l.outlasts l.is_stuck l.is_wanting l.is_hearing l.reopens
          old.ledger ledger c.stage_parts_with.ensures.rests old.from (s.tally old.store).commits
          tables (s.place old.store) (s.reach old.store) (s.reach new) end later
          c.stage_parts_with.ensures.at_most (λ _ here. let never : ⊥ = omega (arith, later, is, here) in never) (h.1 so))
          (λ is untold. at_reach l.begins l.keeps l.outlasts l.is_stuck l.is_wanting l.is_hearing l.reopens ledger old.from tables _ _ _ _
          is
          (dropped_parts_records l.begins l.keeps l.outlasts l.is_stuck l.is_wanting l.is_hearing l.reopens
          old.ledger ledger c.stage_parts_with.ensures.rests old.from (s.tally old.store).commits tables
          (s.place old.store) end later c.stage_parts_with.ensures.at_most
          c.stage_parts_with.ensures.was_free untold (s.reach old.store) (h.1 so)))),
    )
