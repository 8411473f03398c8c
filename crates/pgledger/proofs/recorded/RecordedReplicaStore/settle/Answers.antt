use Rattle.std.proofs.Common.{◌≡◌, ◌<◌, ◌∙◌, inl, inr, ap}
use Rattle.std.specs.Prelude.{◌==◌}
use Rattle.pgledger.proofs.Recording.{at_records, both_err, both_ok, kept_records, of_err, of_ok}
use Rattle.pgledger.proofs.Recording.{same_since, settled_records, some_staged}
use Rattle.pgledger.proofs.recorded.RecordedReplicaStore.settle.Goals as goal

pub returns-clause-settled : goal.returns-clause-settled
returns-clause-settled g c serves =
    let l = g.L.Ledger in
    let s = g.S.ReplicaStore in
    let old = c.args.self.now in
    let new = c.settle_with.new.self in
    let r = c.settle_with.result in
    let told : c.eq.result ≡ (s.reach old.store == s.place old.store) =
    c.eq.ensures ∙ ap (λ r. r == c.position.result) c.reached.ensures.reach
    ∙ ap (λ p. s.reach old.store == p) c.position.ensures.position in
    let more : s.place old.store < s.reach old.store =
    some_staged (s.reach old.store) (s.place old.store) c.eq.result c.reached.ensures.order told c.if-eq.false in
    of_ok r (c.settle_with.ensures.settled serves)
    (both_ok _ _ r (both_ok _ _ r (c.settle_with.ensures.synced more) (c.settle_with.ensures.was_free more)) c.settle_with.ensures.counts)
    c.settle_with.ensures.end
    (λ settles both is tables h. (
      settles tables h.0,
      λ so. at_records l.begins l.keeps l.outlasts l.is_stuck l.is_wanting l.is_hearing l.reopens c.settle_with.new.ledger old.from tables
          _ _ _ _ (s.reach new) (ap (λ t. t.commits) both.1) is
          (settled_records l.begins l.keeps l.outlasts l.is_stuck l.is_wanting l.is_hearing l.reopens old.ledger c.settle_with.new.ledger
          c.settle_with.ensures.rests old.from (s.stages_tally old.store).commits tables (s.reach old.store) (s.reach new)
          c.settle_with.ensures.kept both.0.0 ((h.1 so).staged both.0.1)),
    ))

pub returns-clause-unchanged : goal.returns-clause-unchanged
returns-clause-unchanged g c serves =
    let l = g.L.Ledger in
    let s = g.S.ReplicaStore in
    let old = c.args.self.now in
    let new = c.settle_with.new.self in
    let r = c.settle_with.result in
    of_err r (c.settle_with.ensures.unchanged serves)
    (both_err _ _ r c.settle_with.ensures.position c.settle_with.ensures.uncounted) c.settle_with.ensures.stuck
    (λ stays both stuck tables h. (
      stays tables h.0,
      λ so. at_records l.begins l.keeps l.outlasts l.is_stuck l.is_wanting l.is_hearing l.reopens c.settle_with.new.ledger old.from tables
          _ _ _ _ (s.reach new) (ap (λ t. t.commits) both.1) both.0
          (kept_records l.begins l.keeps l.outlasts l.is_stuck l.is_wanting l.is_hearing l.reopens old.ledger c.settle_with.new.ledger
          c.settle_with.ensures.rests old.from (s.tally old.store).commits tables (s.place old.store) (s.reach old.store) (s.reach new)
          c.settle_with.ensures.kept (λ stands _. absurd (let never : ⊥ = cc in never)) (h.1 so)),
    ))

pub returns-clause-crash : goal.returns-clause-crash
returns-clause-crash g c honest other r =
    let l = g.L.Ledger in
    let s = g.S.ReplicaStore in
    let old = c.args.self.now in
    elim (c.settle_with.ensures.crash honest other.store r.0) [
      | inl was ↦ inl (was, r.1, r.2, λ so. c.settle_with.ensures.rests.reopens_less _ other.ledger (r.3 so))
      | inr all ↦ inr (
        all.0,
        (
          λ tables h. (
            all.1.0 tables h.0,
            λ so. same_since l.begins l.keeps l.outlasts l.is_stuck l.is_wanting l.is_hearing l.reopens
                g.met.L.Ledger.cuts c.settle_with.new.ledger
                other.ledger _ _ tables (s.reach old.store) (s.reach old.store) _ _ other.from _ all.1.1 (r.3 so)
                (ap (λ t. t.commits) r.1) r.2
                (settled_records l.begins l.keeps l.outlasts l.is_stuck l.is_wanting l.is_hearing l.reopens
                old.ledger c.settle_with.new.ledger
                c.settle_with.ensures.rests old.from (s.stages_tally old.store).commits tables (s.reach old.store) (s.reach old.store)
                c.settle_with.ensures.kept all.3 ((h.1 so).staged all.2)),
          ),
          all.1.1,
        ),
      )
    ]
