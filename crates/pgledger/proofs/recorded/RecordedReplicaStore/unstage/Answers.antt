use Rattle.std.proofs.Common.{◌∙◌, sym, ap, ap₂, subst}
use Rattle.pgledger.specs.Records.{tally_since}
use Rattle.pgledger.proofs.Recording.{dropped_records, held_plans}
use Rattle.pgledger.proofs.recorded.RecordedReplicaStore.unstage.Goals as goal

pub returns-clause-unchanged : goal.returns-clause-unchanged
returns-clause-unchanged g c tables h =
    let l = g.L.Ledger in
    let s = g.S.ReplicaStore in
    let old = c.args.self.now in
    let now = c.leave_staged.new.self in (
      c.unstage.ensures.unchanged tables (subst (λ x. s.holds x tables) (sym c.leave_staged.ensures.store) h.0),
      λ so. dropped_records l.begins l.keeps l.outlasts l.is_stuck l.is_wanting l.is_hearing l.reopens
          old.ledger now.ledger c.leave_staged.ensures.rests
          old.from (s.tally old.store).commits tables (s.place old.store) (s.reach old.store) (s.place c.unstage.new.self)
          (s.reach c.unstage.new.self) now.from (s.tally c.unstage.new.self).commits c.leave_staged.ensures.kept
          c.leave_staged.ensures.free
          (c.unstage.ensures.position ∙ ap s.place c.leave_staged.ensures.store) c.leave_staged.ensures.from
          (ap (λ t. t.commits) (c.unstage.ensures.tally ∙ ap s.tally c.leave_staged.ensures.store)) (h.1 so),
    )

pub returns-clause-staged : goal.returns-clause-staged
returns-clause-staged g c tables h =
    let l = g.L.Ledger in
    let s = g.S.ReplicaStore in
    let old = c.args.self.now in
    let now = c.leave_staged.new.self in (
      c.unstage.ensures.staged tables (subst (λ x. s.holds x tables) (sym c.leave_staged.ensures.store) h.0),
      λ so. held_plans l.begins l.keeps l.outlasts l.is_stuck l.is_wanting l.is_hearing l.reopens now.ledger now.from
          (s.tally c.unstage.new.self).commits (s.stages_tally c.unstage.new.self).commits tables _ _
          (c.unstage.ensures.reach ∙ sym c.unstage.ensures.position)
          (ap (λ t. t.commits) (c.unstage.ensures.unstaged ∙ sym c.unstage.ensures.tally))
          (dropped_records l.begins l.keeps l.outlasts l.is_stuck l.is_wanting l.is_hearing l.reopens
          old.ledger now.ledger c.leave_staged.ensures.rests
          old.from (s.tally old.store).commits tables (s.place old.store) (s.reach old.store) (s.place c.unstage.new.self)
          (s.reach c.unstage.new.self) now.from (s.tally c.unstage.new.self).commits c.leave_staged.ensures.kept
          c.leave_staged.ensures.free
          (c.unstage.ensures.position ∙ ap s.place c.leave_staged.ensures.store) c.leave_staged.ensures.from
          (ap (λ t. t.commits) (c.unstage.ensures.tally ∙ ap s.tally c.leave_staged.ensures.store)) (h.1 so)),
    )

pub returns-clause-tally : goal.returns-clause-tally
returns-clause-tally g c =
    let s = g.S.ReplicaStore in
    ap₂ tally_since c.leave_staged.ensures.from (c.unstage.ensures.tally ∙ ap s.tally c.leave_staged.ensures.store)

pub returns-clause-unstaged : goal.returns-clause-unstaged
returns-clause-unstaged g c =
    let s = g.S.ReplicaStore in
    ap₂ tally_since c.leave_staged.ensures.from (c.unstage.ensures.unstaged ∙ ap s.tally c.leave_staged.ensures.store)
