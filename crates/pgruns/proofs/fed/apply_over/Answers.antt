use Rattle.std.proofs.Common.{ℕ, refl, subst}
use Rattle.pgruns.proofs.fed.apply_over.Goals as goal

pub returns-in-None-clause-unfed : goal.returns-in-None-clause-unfed
returns-in-None-clause-unfed g c = rw c.in-None.is (λ never. absurd never)

pub returns-in-None-clause-ran : goal.returns-in-None-clause-ran
returns-in-None-clause-ran g c =
    let done = c.run_opened-status.ensures in
    let e = done.ends in
    rw c.in-None.is (λ run. (
      e.0,
      e.1,
      e.3,
      λ serves. (
        refl,
        record { prints = e.2; kept = done.kept; left = done.left; crash = λ honest. done.crash honest (serves honest) },
      ),
    ))

pub returns-in-Ok-clause-unfed : goal.returns-in-Ok-clause-unfed
returns-in-Ok-clause-unfed g c = rw c.in-Some.is (λ never. absurd never)

pub returns-in-Ok-clause-ran : goal.returns-in-Ok-clause-ran
returns-in-Ok-clause-ran g c =
    let e = c.apply_recorded-status.ensures.ends in
    rw c.in-Some.is (λ run. (
      e.0,
      e.2,
      e.4,
      λ serves. (
        c.in-Ok.feed,
        subst (λ (p : ℕ). g.B.FeedOpening.opens c.in-Some.feed p c.in-Ok.feed) c.position.ensures.position
            c.in-Ok.ensures.opened,
        e.1,
        record { prints = e.3.prints; kept = e.3.kept; left = e.3.left; crash = λ honest. e.3.crash honest (serves honest) },
      ),
    ))

pub returns-in-Err-clause-ran : goal.returns-in-Err-clause-ran
returns-in-Err-clause-ran g c = rw c.in-Some.is (λ never. absurd never)
