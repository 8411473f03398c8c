use Rattle.std.proofs.Common.{ℤ, Ok, subst}
use Rattle.std.specs.Int.{w64}
use Rattle.std.proofs.lemmas.Int.{to_z-of_z}
use Rattle.pgsub_core.specs.Subscriber.Subscribed.{bytes_of}
use Rattle.pgsub_core.specs.Subscriber.Converging.{ShowsFed, FailsFed}
use Rattle.pgsub_core.proofs.ConvergeSteps.{left_fails, right_fails, both_shown, agrees}
use Rattle.pgsub_core.proofs.ConvergeSteps.{left_stopped, left_read, right_stopped, right_read}
use Rattle.pgsub_core.proofs.ConvergeSteps.{right_untouched}
use Rattle.pgsub_core.proofs.converging.converge.Goals as goal

pub returns-in-Err-clause-converges : goal.returns-in-Err-clause-converges
returns-in-Err-clause-converges g c serves serves' =
    left_fails g.C.ReplicaStore.holds g.C.ReplicaStore.place g.D.ReplicaStore.holds g.D.ReplicaStore.place c.args.now c.args.left.now
    c.followed_rows.new.subscriber c.args.right.now (bytes_of c.args.left_sessions.now) (bytes_of c.args.right_sessions.now)
    c.in-Err.fault
    (subst (λ (z : ℤ). FailsFed g.C.ReplicaStore.holds g.C.ReplicaStore.place z c.args.left.now (bytes_of c.args.left_sessions.now)
    c.followed_rows.new.subscriber c.in-Err.fault) (to_z-of_z w64 c.args.now c.ranges.now) (c.in-Err.ensures.refused serves))

pub returns-in-Err-followed_rows-clause-converges : goal.returns-in-Err-followed_rows-clause-converges
returns-in-Err-followed_rows-clause-converges g c serves serves' =
    right_fails g.C.ReplicaStore.holds g.C.ReplicaStore.place g.D.ReplicaStore.holds g.D.ReplicaStore.place c.args.now c.args.left.now
    c.followed_rows.new.subscriber c.args.right.now c.followed_rows-2.new.subscriber
    (bytes_of c.args.left_sessions.now) (bytes_of c.args.right_sessions.now) c.in-Ok.rows.items c.in-Err-followed_rows.fault
    (subst (λ (z : ℤ). ShowsFed g.C.ReplicaStore.holds g.C.ReplicaStore.place z c.args.left.now (bytes_of c.args.left_sessions.now)
    c.followed_rows.new.subscriber c.in-Ok.rows.items) (to_z-of_z w64 c.args.now c.ranges.now) (c.in-Ok.ensures.rows serves))
    (subst (λ (z : ℤ). FailsFed g.D.ReplicaStore.holds g.D.ReplicaStore.place z c.args.right.now (bytes_of c.args.right_sessions.now)
    c.followed_rows-2.new.subscriber c.in-Err-followed_rows.fault) (to_z-of_z w64 c.args.now c.ranges.now)
    (c.in-Err-followed_rows.ensures.refused serves'))

pub returns-clause-converges : goal.returns-clause-converges
returns-clause-converges g c serves serves' =
    both_shown g.C.ReplicaStore.holds g.C.ReplicaStore.place g.D.ReplicaStore.holds g.D.ReplicaStore.place c.args.now c.args.left.now
    c.followed_rows.new.subscriber c.args.right.now c.followed_rows-2.new.subscriber
    (bytes_of c.args.left_sessions.now) (bytes_of c.args.right_sessions.now) c.in-Ok.rows.items c.in-Ok-followed_rows.rows.items
    (subst (λ (z : ℤ). ShowsFed g.C.ReplicaStore.holds g.C.ReplicaStore.place z c.args.left.now (bytes_of c.args.left_sessions.now)
    c.followed_rows.new.subscriber c.in-Ok.rows.items) (to_z-of_z w64 c.args.now c.ranges.now) (c.in-Ok.ensures.rows serves))
    (subst (λ (z : ℤ). ShowsFed g.D.ReplicaStore.holds g.D.ReplicaStore.place z c.args.right.now (bytes_of c.args.right_sessions.now)
    c.followed_rows-2.new.subscriber c.in-Ok-followed_rows.rows.items) (to_z-of_z w64 c.args.now c.ranges.now)
    (c.in-Ok-followed_rows.ensures.rows serves'))
    c.position.result c.position-2.result c.as_slice.result.now c.as_slice-2.result.now c.compared.result c.position.ensures.position
    c.position-2.ensures.position c.as_slice.ensures.value c.as_slice-2.ensures.value c.compared.ensures

pub returns-clause-agree : goal.returns-clause-agree
returns-clause-agree g c serves serves' =
    agrees g.C.ReplicaStore.holds g.C.ReplicaStore.place g.D.ReplicaStore.holds g.D.ReplicaStore.place c.args.now c.args.left.now
    c.followed_rows.new.subscriber c.args.right.now c.followed_rows-2.new.subscriber
    (bytes_of c.args.left_sessions.now) (bytes_of c.args.right_sessions.now) (Ok c.compared.result)
    (returns-clause-converges g c serves serves')

pub returns-in-Err-clause-left_followed : goal.returns-in-Err-clause-left_followed
returns-in-Err-clause-left_followed g c serves =
    left_stopped g.C.ReplicaStore.holds g.C.ReplicaStore.place c.args.now c.args.left.now c.followed_rows.new.subscriber
    (bytes_of c.args.left_sessions.now) c.in-Err.fault
    (subst (λ (z : ℤ). FailsFed g.C.ReplicaStore.holds g.C.ReplicaStore.place z c.args.left.now (bytes_of c.args.left_sessions.now)
    c.followed_rows.new.subscriber c.in-Err.fault) (to_z-of_z w64 c.args.now c.ranges.now) (c.in-Err.ensures.refused serves))

pub returns-in-Err-clause-right_followed : goal.returns-in-Err-clause-right_followed
returns-in-Err-clause-right_followed g c serves =
    right_untouched g.D.ReplicaStore.holds g.D.ReplicaStore.place c.args.now c.args.right.now (bytes_of c.args.right_sessions.now)
    c.in-Err.fault

pub returns-in-Err-followed_rows-clause-left_followed : goal.returns-in-Err-followed_rows-clause-left_followed
returns-in-Err-followed_rows-clause-left_followed g c serves =
    left_read g.C.ReplicaStore.holds g.C.ReplicaStore.place c.args.now c.args.left.now c.followed_rows.new.subscriber
    (bytes_of c.args.left_sessions.now) c.in-Ok.rows.items
    (subst (λ (z : ℤ). ShowsFed g.C.ReplicaStore.holds g.C.ReplicaStore.place z c.args.left.now (bytes_of c.args.left_sessions.now)
    c.followed_rows.new.subscriber c.in-Ok.rows.items) (to_z-of_z w64 c.args.now c.ranges.now) (c.in-Ok.ensures.rows serves))

pub returns-in-Err-followed_rows-clause-right_followed : goal.returns-in-Err-followed_rows-clause-right_followed
returns-in-Err-followed_rows-clause-right_followed g c serves =
    right_stopped g.D.ReplicaStore.holds g.D.ReplicaStore.place c.args.now c.args.right.now c.followed_rows-2.new.subscriber
    (bytes_of c.args.right_sessions.now) c.in-Err-followed_rows.fault
    (subst (λ (z : ℤ). FailsFed g.D.ReplicaStore.holds g.D.ReplicaStore.place z c.args.right.now (bytes_of c.args.right_sessions.now)
    c.followed_rows-2.new.subscriber c.in-Err-followed_rows.fault) (to_z-of_z w64 c.args.now c.ranges.now)
    (c.in-Err-followed_rows.ensures.refused serves))

pub returns-clause-left_followed : goal.returns-clause-left_followed
returns-clause-left_followed g c serves =
    left_read g.C.ReplicaStore.holds g.C.ReplicaStore.place c.args.now c.args.left.now c.followed_rows.new.subscriber
    (bytes_of c.args.left_sessions.now) c.in-Ok.rows.items
    (subst (λ (z : ℤ). ShowsFed g.C.ReplicaStore.holds g.C.ReplicaStore.place z c.args.left.now (bytes_of c.args.left_sessions.now)
    c.followed_rows.new.subscriber c.in-Ok.rows.items) (to_z-of_z w64 c.args.now c.ranges.now) (c.in-Ok.ensures.rows serves))

pub returns-clause-right_followed : goal.returns-clause-right_followed
returns-clause-right_followed g c serves =
    right_read g.D.ReplicaStore.holds g.D.ReplicaStore.place c.args.now c.args.right.now c.followed_rows-2.new.subscriber
    (bytes_of c.args.right_sessions.now) c.in-Ok-followed_rows.rows.items
    (subst (λ (z : ℤ). ShowsFed g.D.ReplicaStore.holds g.D.ReplicaStore.place z c.args.right.now (bytes_of c.args.right_sessions.now)
    c.followed_rows-2.new.subscriber c.in-Ok-followed_rows.rows.items) (to_z-of_z w64 c.args.now c.ranges.now)
    (c.in-Ok-followed_rows.ensures.rows serves))
