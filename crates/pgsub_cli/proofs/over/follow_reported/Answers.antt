use Rattle.std.proofs.Common.{◌≡◌, subst, sym}
use Rattle.pgsub_cli.specs.FollowStatus.{status_of_follow}
use Rattle.pgsub_cli.proofs.over.follow_reported.Goals as goal

pub returns-clause-ends : goal.returns-clause-ends
returns-clause-ends g c =
    let e = c.run_buffered-status.ensures.ends in (
      e.0,
      subst (λ (s : g.row.C.Denot). c.run_buffered-status.result.0 ≡ status_of_follow (g.C.ReplicaStore.tally s).misses.count e.0)
          (sym c.into_store.ensures) e.1,
      e.2,
      e.3,
      e.4,
      e.5,
      λ whole honest serves. (
        c.new-reported.result,
        c.run_buffered-status.result.1,
        c.new-reported.ensures,
        sym c.into_store.ensures,
        e.6 whole (subst (λ (s : g.row.C.Denot). g.C.ReplicaStore.is_honest s) c.into_store.ensures honest)
            (subst (λ (s : g.row.C.Denot). g.C.ReplicaStore.serves s) (sym c.new-reported.ensures) serves),
      ),
    )
