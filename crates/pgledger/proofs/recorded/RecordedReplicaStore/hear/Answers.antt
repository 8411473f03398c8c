use Rattle.std.proofs.Common.{refl}
use Rattle.pgledger.proofs.Recording.{still_plans, still_records}
use Rattle.pgledger.proofs.recorded.RecordedReplicaStore.hear.Goals as goal

pub returns-clause-hears : goal.returns-clause-hears
returns-clause-hears g c =
    let l = g.L.Ledger in
    let s = g.S.ReplicaStore in
    let old = c.args.self.now in
    let new = c.hear.new.self in record {
      serves_on = λ h. h;
      served = λ h. h;
      stays_honest = λ h. h;
      honest = λ h. h;
      held = λ tables h. (
        h.0,
        λ so. still_records l.begins l.keeps l.outlasts l.is_stuck l.is_wanting l.is_hearing l.reopens old.ledger new c.hear.ensures.rests
            old.from (s.tally old.store).commits tables (s.place old.store) c.hear.ensures.kept c.hear.ensures.was_free (s.reach
            old.store) (h.1 so),
      );
      staged = λ tables h. (
        h.0,
        λ so. still_plans l.begins l.keeps l.outlasts l.is_stuck l.is_wanting l.is_hearing l.reopens old.ledger new c.hear.ensures.rests
            old.from (s.tally old.store).commits tables (s.place old.store) c.hear.ensures.kept c.hear.ensures.was_free (s.reach old.store)
            (s.stages_tally old.store).commits (h.1 so),
      );
      place_is = refl;
      reach_is = refl;
      tally_is = refl;
      stages_tally_is = refl;
      reopens_less = λ other r. (r.0, r.1, r.2, λ so. c.hear.ensures.rests.reopens_less _ other.ledger (r.3 so));
    }
