use Rattle.std.proofs.Common.{sym, subst}
use Rattle.pgsub_cli.proofs.following.run_follow.Goals as goal

pub returns-clause-ends : goal.returns-clause-ends
returns-clause-ends g c =
    let over = c.subscriber_over-subscriber in
    let e = c.follow_with.ensures.ends in (
      e.0,
      e.1,
      e.2,
      e.3,
      e.4,
      e.5,
      λ honest serves.
          let f = e.6 honest (subst g.C.ReplicaStore.serves (sym over.ensures.store) serves) in
          (over.result, f.0, over.ensures.store, f.1, over.ensures.state, f.2),
    )
