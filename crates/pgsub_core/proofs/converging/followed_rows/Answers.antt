use Rattle.std.proofs.Common.{ℤ, None, Some, subst}
use Rattle.std.specs.Int.{w64}
use Rattle.std.proofs.lemmas.Int.{to_z-of_z}
use Rattle.pgsub_core.specs.Subscriber.Subscribed.{bytes_of}
use Rattle.pgsub_core.specs.Subscriber.Following.{FeedsSessions}
use Rattle.pgsub_core.proofs.DescribedChanges.{on_residual}
use Rattle.pgsub_core.proofs.ConvergeSteps.{fails_first, shows_rows, fails_rows}
use Rattle.pgsub_core.proofs.converging.followed_rows.Goals as goal

pub returns-in_err-follow-clause-refused : goal.returns-in_err-follow-clause-refused
returns-in_err-follow-clause-refused g c serves =
    let f = c.in_err-follow.field-0.0 in
    on_residual c.from_residual.result f _ c.from_residual.ensures.1
    (fails_first g.C.ReplicaStore.holds g.C.ReplicaStore.place c.args.now c.args.subscriber.now c.follow.new.subscriber
    (bytes_of c.args.sessions.now) f
    (subst (λ (z : ℤ). FeedsSessions g.C.ReplicaStore.holds g.C.ReplicaStore.place z c.args.subscriber.now (bytes_of c.args.sessions.now)
    c.follow.new.subscriber (Some f)) (to_z-of_z w64 c.args.now c.ranges.now) (c.in_err-follow.ensures.fed serves)))

pub returns-clause-rows : goal.returns-clause-rows
returns-clause-rows g c serves =
    shows_rows g.C.ReplicaStore.holds g.C.ReplicaStore.place c.args.now c.rows.result (λ rows. rows.items) c.args.subscriber.now
    c.follow.new.subscriber c.rows.new.self (bytes_of c.args.sessions.now)
    (subst (λ (z : ℤ). FeedsSessions g.C.ReplicaStore.holds g.C.ReplicaStore.place z c.args.subscriber.now (bytes_of c.args.sessions.now)
    c.follow.new.subscriber None) (to_z-of_z w64 c.args.now c.ranges.now)
    (c.in_ok-follow.ensures.fed (c.rows.ensures.served serves))) (c.rows.ensures.stays serves) c.rows.ensures.same
    (c.rows.ensures.rows serves)

pub returns-clause-refused : goal.returns-clause-refused
returns-clause-refused g c serves =
    fails_rows g.C.ReplicaStore.holds g.C.ReplicaStore.place c.args.now c.rows.result c.args.subscriber.now c.follow.new.subscriber
    c.rows.new.self (bytes_of c.args.sessions.now)
    (subst (λ (z : ℤ). FeedsSessions g.C.ReplicaStore.holds g.C.ReplicaStore.place z c.args.subscriber.now (bytes_of c.args.sessions.now)
    c.follow.new.subscriber None) (to_z-of_z w64 c.args.now c.ranges.now)
    (c.in_ok-follow.ensures.fed (c.rows.ensures.served serves))) (c.rows.ensures.stays serves) c.rows.ensures.same
    (c.rows.ensures.serving_fault serves)
