use Rattle.std.proofs.Common.{ℕ, refl, subst}
use Rattle.pgsub_cli.proofs.Parts.{from_of, ledger_of, store_of}
use Rattle.pgruns.proofs.fed.follow_over.Goals as goal

pub returns-in-None-clause-unfed : goal.returns-in-None-clause-unfed
returns-in-None-clause-unfed g c = rw c.in-None.is (λ never. absurd never)

pub returns-in-None-clause-ran : goal.returns-in-None-clause-ran
returns-in-None-clause-ran g c =
    let e = c.follow_reported-status.ensures.ends in
    rw c.in-None.is (λ run. (
      e.0,
      e.1,
      e.2,
      e.3,
      e.4,
      e.5,
      λ serves. (refl, λ kept. e.6 kept.0 kept.1 (serves kept)),
    ))

pub returns-in-Ok-clause-unfed : goal.returns-in-Ok-clause-unfed
returns-in-Ok-clause-unfed g c = rw c.in-Some.is (λ never. absurd never)

pub returns-in-Ok-clause-ran : goal.returns-in-Ok-clause-ran
returns-in-Ok-clause-ran g c =
    let done = c.follow_recorded-status in
    let e = done.ensures.ends in
    rw c.in-Some.is (λ run. (
      e.0,
      e.1,
      e.2,
      e.3,
      e.4,
      e.5,
      λ serves. (
        c.in-Ok.feed,
        subst (λ (p : ℕ). g.B.FeedOpening.opens c.in-Some.feed p c.in-Ok.feed) c.position.ensures.position
            c.in-Ok.ensures.opened,
        λ kept.
            let all = e.6 kept.0 kept.1 (serves kept) in
            let f = all.1 in (
              f.0,
              f.1,
              store_of f.0.store c.args.store c.in-Ok.feed c.args.store.position f.2,
              ledger_of f.0.store c.args.store c.in-Ok.feed c.args.store.position f.2,
              from_of f.0.store c.args.store c.in-Ok.feed c.args.store.position f.2,
              store_of f.1.store done.result.1 done.result.2 all.0 f.3,
              ledger_of f.1.store done.result.1 done.result.2 all.0 f.3,
              f.4,
            ),
      ),
    ))

pub returns-in-Err-clause-ran : goal.returns-in-Err-clause-ran
returns-in-Err-clause-ran g c = rw c.in-Some.is (λ never. absurd never)
