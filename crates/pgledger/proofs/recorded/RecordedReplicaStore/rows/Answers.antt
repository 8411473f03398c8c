use Rattle.std.proofs.Common.{◌∙◌, sym, ap, ap₂, subst}
use Rattle.pgledger.specs.Records.{tally_since}
use Rattle.pgledger.proofs.Recording.{dropped_records}
use Rattle.pgledger.proofs.recorded.RecordedReplicaStore.rows.Goals as goal

pub returns-clause-unchanged : goal.returns-clause-unchanged
returns-clause-unchanged g c serves tables h =
    let l = g.L.Ledger in
    let s = g.S.ReplicaStore in
    let old = c.args.self.now in
    let now = c.leave_staged.new.self in (
      c.rows.ensures.unchanged serves tables (subst (λ x. s.holds x tables) (sym c.leave_staged.ensures.store) h.0),
      λ so. dropped_records l.begins l.keeps l.outlasts l.is_stuck l.is_wanting l.is_hearing l.reopens
          old.ledger now.ledger c.leave_staged.ensures.rests
          old.from (s.tally old.store).commits tables (s.place old.store) (s.reach old.store) (s.place c.rows.new.self)
          (s.reach c.rows.new.self) now.from (s.tally c.rows.new.self).commits c.leave_staged.ensures.kept
          c.leave_staged.ensures.free
          (c.rows.ensures.position ∙ ap s.place c.leave_staged.ensures.store) c.leave_staged.ensures.from
          (ap (λ t. t.commits) (c.rows.ensures.tally ∙ ap s.tally c.leave_staged.ensures.store)) (h.1 so),
    )

pub returns-clause-tally : goal.returns-clause-tally
returns-clause-tally g c =
    let s = g.S.ReplicaStore in
    ap₂ tally_since c.leave_staged.ensures.from (c.rows.ensures.tally ∙ ap s.tally c.leave_staged.ensures.store)
