use Rattle.std.proofs.Common.{◌≡◌, ◌∙◌, ap, refl, sym, subst, IsTrue}
use Rattle.pgspooled.specs.declared.honesty.Honesty.{Honesty}
use Rattle.pgsub_cli.specs.Followed.{subscriber_over}
use Rattle.pgsub_cli.specs.FollowStatus.{status_of_follow}
use Rattle.pgsub_cli.proofs.buffered.run_spooled.Goals as goal

pub returns-clause-ends : goal.returns-clause-ends
returns-clause-ends g c =
    let s = g.C.ReplicaStore in
    let over = c.subscriber_spooled-subscriber in
    let parts = c.into_parts-store in
    let e = c.follow_with-status.ensures.ends in (
      e.0,
      subst (λ (it : g.row.C.Denot). c.follow_with-status.result.0 ≡ status_of_follow (s.tally it).misses.count e.0)
          (sym parts.ensures.store) e.1,
      e.2,
      e.3,
      e.4,
      e.5,
      λ whole honest serves.
          let f = e.6 (
            subst s.is_honest parts.ensures.store honest,
            subst (λ (h : Honesty). IsTrue h.is_true) parts.ensures.honesty whole,
          )
          (subst s.serves (sym over.ensures.store) serves, over.ensures.honest) in (
            over.result.applied.store,
            c.follow_with-status.result.1,
            over.ensures.store,
            sym parts.ensures.store,
            sym parts.ensures.honesty,
            (
              over.result,
              f.0,
              refl,
              f.1,
              λ tables. over.ensures.state tables
                  ∙ ap (λ it. subscriber_over c.args.limits tables (s.place it) c.args.version) (sym over.ensures.store),
              f.2,
            ),
          ),
    )
