use Rattle.std.proofs.Common.{ℤ, None, Some, refl, subst, take_all}
use Rattle.pgsub_core.proofs.CountedSessions.{no_session, counts_one_more, counts_each}
use Rattle.pgsub_core.proofs.CountedSessions.{counts_stop_in}
use Rattle.pgsub_core.proofs.TalliedSessions.{front_history, whole_history}
use Rattle.pgsub_core.specs.Machine.Counted.{CountsSessions, CountsSessionsFront}
use Rattle.pgsub_core.specs.declared.fault.Fault.TheVariants as fault
use Rattle.pgsub_core.specs.Subscriber.Crashing.{LeavesOldOr, FedOver, StandsAsFed}
use Rattle.pgsub_core.proofs.Crashes.{leaves_same}
use Rattle.pgsub_core.proofs.LeftPieces.{on_err, leaves_sessions, sessions_stand, confirms_followed}
use Rattle.pgsub_core.proofs.LeftPieces.{confirms_standing, leaves_history}
use Rattle.std.specs.Int.{w64}
use Rattle.std.proofs.lemmas.Int.{to_z-of_z}
use Rattle.pgsub_core.specs.Subscriber.Handled.{fault_in}
use Rattle.pgsub_core.specs.Subscriber.Subscribed.{bytes_of}
use Rattle.pgsub_core.specs.Subscriber.Following.{FeedsSessions}
use Rattle.pgsub_core.proofs.DescribedChanges.{if_err, on_residual}
use Rattle.pgsub_core.proofs.FollowSteps.{none_followed, follows_more, follows_stops, follows_whole}
use Rattle.pgsub_core.proofs.FollowSteps.{follows, follows_safely, answers_fault}
use Rattle.pgsub_core.proofs.following.follow.Goals as goal

pub loop-session-init : goal.loop-session-init
loop-session-init g c = (
  λ serves. none_followed g.C.ReplicaStore.holds g.C.ReplicaStore.place c.args.now c.args.subscriber.now,
  λ serves. serves,
  λ honest. honest,
  λ honest serves. serves,
  λ honest. leaves_same g.C.ReplicaStore.place g.C.ReplicaStore.reopens g.C.ReplicaStore.serves _ c.args.subscriber.now.applied.store
      c.args.subscriber.now.applied.store refl,
  λ serves. no_session g.C.ReplicaStore.holds g.C.ReplicaStore.place g.C.ReplicaStore.tally c.args.now c.args.subscriber.now,
)

pub loop-session-preserved : goal.loop-session-preserved
loop-session-preserved g c = (
  λ serves. follows_more g.C.ReplicaStore.holds g.C.ReplicaStore.place _ c.args.subscriber.now c.loop-session.subscriber
      c.follow_session.new.subscriber c.args.sessions.now c.loop-session.session-index c.session-item.result c.loop-session-test.true
      c.session-item.is
      (c.loop-session.invariant.0 (c.follow_session.ensures.served serves)) (c.in_ok-follow_session.ensures.fed serves),
  λ serves. c.loop-session.invariant.1 (c.follow_session.ensures.served serves),
  λ honest. c.loop-session.invariant.2 (c.follow_session.ensures.honest honest),
  λ honest serves. c.in_ok-follow_session.ensures.still_serves honest
      (c.loop-session.invariant.3 (c.follow_session.ensures.honest honest) serves),
  λ honest. leaves_sessions g.C.ReplicaStore.serves g.C.ReplicaStore.holds g.C.ReplicaStore.place g.C.ReplicaStore.reopens _
      c.args.subscriber.now c.loop-session.subscriber c.follow_session.new.subscriber c.loop-session.invariant.1 c.args.sessions.now
      c.loop-session.session-index c.session-item.result c.loop-session-test.true c.session-item.is c.loop-session.invariant.0
      (c.loop-session.invariant.4 (c.follow_session.ensures.honest honest)) (c.follow_session.ensures.left honest),
  λ serves. counts_one_more g.C.ReplicaStore.holds g.C.ReplicaStore.place g.C.ReplicaStore.tally _ c.args.subscriber.now
      c.loop-session.subscriber c.follow_session.new.subscriber c.args.sessions.now c.loop-session.session-index c.session-item.result
      c.loop-session-test.true c.session-item.is
      (c.loop-session.invariant.5 (c.follow_session.ensures.served serves)) (c.in_ok-follow_session.ensures.fed serves)
      (c.in_ok-follow_session.ensures.counts serves),
)

pub returns-clause-fed : goal.returns-clause-fed
returns-clause-fed g c serves =
    subst (λ (z : ℤ). FeedsSessions g.C.ReplicaStore.holds g.C.ReplicaStore.place z c.args.subscriber.now (bytes_of c.args.sessions.now)
    c.loop-session.subscriber None) (to_z-of_z w64 c.args.now c.ranges.now)
    (follows_whole g.C.ReplicaStore.holds g.C.ReplicaStore.place _ c.args.subscriber.now c.loop-session.subscriber c.args.sessions.now
    c.loop-session.session-index
    (take_all c.loop-session.session-index c.args.sessions.now c.loop-session-test.false) (c.loop-session.invariant.0 serves))

pub returns-clause-followed : goal.returns-clause-followed
returns-clause-followed g c serves =
    follows g.C.ReplicaStore.holds g.C.ReplicaStore.place c.args.now c.args.subscriber.now c.loop-session.subscriber
    (bytes_of c.args.sessions.now) None (returns-clause-fed g c serves)

pub returns-clause-safe : goal.returns-clause-safe
returns-clause-safe g c serves =
    follows_safely g.C.ReplicaStore.holds g.C.ReplicaStore.place c.args.now c.args.subscriber.now c.loop-session.subscriber
    (bytes_of c.args.sessions.now) None (returns-clause-followed g c serves)

pub returns-in_err-follow_session-clause-fed : goal.returns-in_err-follow_session-clause-fed
returns-in_err-follow_session-clause-fed g c serves =
    let f = c.in_err-follow_session.field-0.0 in
    answers_fault c.from_residual.result f
    (FeedsSessions g.C.ReplicaStore.holds g.C.ReplicaStore.place c.args.now c.args.subscriber.now (bytes_of c.args.sessions.now)
    c.follow_session.new.subscriber) c.from_residual.ensures.1
    (subst (λ (z : ℤ). FeedsSessions g.C.ReplicaStore.holds g.C.ReplicaStore.place z c.args.subscriber.now (bytes_of c.args.sessions.now)
    c.follow_session.new.subscriber (Some f)) (to_z-of_z w64 c.args.now c.ranges.now)
    (follows_stops g.C.ReplicaStore.holds g.C.ReplicaStore.place _ c.args.subscriber.now c.loop-session.subscriber
    c.follow_session.new.subscriber c.args.sessions.now c.loop-session.session-index c.session-item.result f c.loop-session-test.true
    c.session-item.is
    (c.loop-session.invariant.0 (c.follow_session.ensures.served serves)) (c.in_err-follow_session.ensures.refused serves)))

pub returns-in_err-follow_session-clause-followed : goal.returns-in_err-follow_session-clause-followed
returns-in_err-follow_session-clause-followed g c serves =
    follows g.C.ReplicaStore.holds g.C.ReplicaStore.place c.args.now c.args.subscriber.now c.follow_session.new.subscriber
    (bytes_of c.args.sessions.now) (fault_in c.from_residual.result) (returns-in_err-follow_session-clause-fed g c serves)

pub returns-in_err-follow_session-clause-safe : goal.returns-in_err-follow_session-clause-safe
returns-in_err-follow_session-clause-safe g c serves =
    follows_safely g.C.ReplicaStore.holds g.C.ReplicaStore.place c.args.now c.args.subscriber.now c.follow_session.new.subscriber
    (bytes_of c.args.sessions.now) (fault_in c.from_residual.result) (returns-in_err-follow_session-clause-followed g c serves)

pub returns-clause-left : goal.returns-clause-left
returns-clause-left g c honest =
    let it = g.C.ReplicaStore in
    subst (λ (z : ℤ). LeavesOldOr it.place it.reopens it.serves
    (FedOver (λ s. FeedsSessions it.holds it.place z c.args.subscriber.now (bytes_of c.args.sessions.now) s (Some fault.Memory)))
    c.args.subscriber.now.applied.store c.loop-session.subscriber.applied.store)
    (to_z-of_z w64 c.args.now c.ranges.now) (c.loop-session.invariant.4 honest)

pub returns-in_err-follow_session-clause-left : goal.returns-in_err-follow_session-clause-left
returns-in_err-follow_session-clause-left g c honest =
    let it = g.C.ReplicaStore in
    subst (λ (z : ℤ). LeavesOldOr it.place it.reopens it.serves
    (FedOver (λ s. FeedsSessions it.holds it.place z c.args.subscriber.now (bytes_of c.args.sessions.now) s (Some fault.Memory)))
    c.args.subscriber.now.applied.store c.follow_session.new.subscriber.applied.store)
    (to_z-of_z w64 c.args.now c.ranges.now)
    (leaves_sessions it.serves it.holds it.place it.reopens _ c.args.subscriber.now c.loop-session.subscriber
    c.follow_session.new.subscriber c.loop-session.invariant.1 c.args.sessions.now
    c.loop-session.session-index c.session-item.result c.loop-session-test.true c.session-item.is c.loop-session.invariant.0
    (c.loop-session.invariant.4 (c.follow_session.ensures.honest honest)) (c.follow_session.ensures.left honest))

pub returns-in_err-follow_session-clause-stands : goal.returns-in_err-follow_session-clause-stands
returns-in_err-follow_session-clause-stands g c honest serves =
    let it = g.C.ReplicaStore in
    let own = c.loop-session.invariant.3 (c.follow_session.ensures.honest honest) serves in
    on_err c.from_residual.result _
    (subst (λ (z : ℤ). StandsAsFed it.place
    (λ s. FeedsSessions it.holds it.place z c.args.subscriber.now (bytes_of c.args.sessions.now) s (Some fault.Memory))
    c.follow_session.new.subscriber) (to_z-of_z w64 c.args.now c.ranges.now)
    (sessions_stand it.serves it.holds it.place it.reopens _ c.args.subscriber.now c.loop-session.subscriber c.follow_session.new.subscriber
    c.loop-session.invariant.1 c.args.sessions.now
    c.loop-session.session-index c.session-item.result c.loop-session-test.true c.session-item.is c.loop-session.invariant.0 own
    fault.Memory (c.in_err-follow_session.ensures.stands honest own)))

pub returns-in_err-follow_session-clause-stopped : goal.returns-in_err-follow_session-clause-stopped
returns-in_err-follow_session-clause-stopped g c honest serves =
    let it = g.C.ReplicaStore in
    let own = c.loop-session.invariant.3 (c.follow_session.ensures.honest honest) serves in
    let f = c.in_err-follow_session.field-0.0 in
    on_residual c.from_residual.result f _ c.from_residual.ensures.1
    (subst (λ (z : ℤ). StandsAsFed it.place
    (λ s. FeedsSessions it.holds it.place z c.args.subscriber.now (bytes_of c.args.sessions.now) s (Some f))
    c.follow_session.new.subscriber) (to_z-of_z w64 c.args.now c.ranges.now)
    (sessions_stand it.serves it.holds it.place it.reopens _ c.args.subscriber.now c.loop-session.subscriber c.follow_session.new.subscriber
    c.loop-session.invariant.1 c.args.sessions.now
    c.loop-session.session-index c.session-item.result c.loop-session-test.true c.session-item.is c.loop-session.invariant.0 own f
    (c.in_err-follow_session.ensures.why honest own)))

pub returns-in_err-follow_session-clause-why : goal.returns-in_err-follow_session-clause-why
returns-in_err-follow_session-clause-why g c honest serves =
    let it = g.C.ReplicaStore in
    if_err c.from_residual.result _ _ (returns-in_err-follow_session-clause-stopped g c honest serves) (λ f stands. (
      stands.0,
      stands.1,
      follows it.holds it.place c.args.now c.args.subscriber.now stands.0 (bytes_of c.args.sessions.now) (Some f) stands.2,
    ))

pub returns-clause-crash : goal.returns-clause-crash
returns-clause-crash g c honest serves =
    let it = g.C.ReplicaStore in
    leaves_history it.serves it.holds it.place it.reopens c.args.now c.args.subscriber.now c.loop-session.subscriber
    (bytes_of c.args.sessions.now) (returns-clause-left g c honest) (c.position-start.ensures.contains serves)
    (confirms_followed it.serves it.holds it.place it.reopens c.args.now c.args.subscriber.now c.loop-session.subscriber
    (bytes_of c.args.sessions.now) None (returns-clause-followed g c (c.loop-session.invariant.3 honest serves)))

pub returns-in_err-follow_session-clause-crash : goal.returns-in_err-follow_session-clause-crash
returns-in_err-follow_session-clause-crash g c honest serves =
    let it = g.C.ReplicaStore in
    let own = c.loop-session.invariant.3 (c.follow_session.ensures.honest honest) serves in
    let stands = subst (λ (z : ℤ).
    StandsAsFed it.place (λ s.
    FeedsSessions it.holds it.place z c.args.subscriber.now (bytes_of c.args.sessions.now) s (Some fault.Memory))
    c.follow_session.new.subscriber) (to_z-of_z w64 c.args.now c.ranges.now)
    (sessions_stand it.serves it.holds it.place it.reopens _ c.args.subscriber.now c.loop-session.subscriber c.follow_session.new.subscriber
    c.loop-session.invariant.1 c.args.sessions.now
    c.loop-session.session-index c.session-item.result c.loop-session-test.true c.session-item.is c.loop-session.invariant.0 own
    fault.Memory (c.in_err-follow_session.ensures.stands honest own)) in
    leaves_history it.serves it.holds it.place it.reopens c.args.now c.args.subscriber.now c.follow_session.new.subscriber
    (bytes_of c.args.sessions.now) (returns-in_err-follow_session-clause-left g c honest) (c.position-start.ensures.contains serves)
    (confirms_standing it.serves it.holds it.place it.reopens c.args.now c.args.subscriber.now c.follow_session.new.subscriber
    (bytes_of c.args.sessions.now) stands)

pub returns-clause-counts : goal.returns-clause-counts
returns-clause-counts g c serves =
    let it = g.C.ReplicaStore in
    subst (λ (z : ℤ). CountsSessions it.holds it.place it.tally z c.args.subscriber.now (bytes_of c.args.sessions.now)
    c.loop-session.subscriber) (to_z-of_z w64 c.args.now c.ranges.now)
    (counts_each it.holds it.place it.tally _ c.args.subscriber.now c.loop-session.subscriber c.args.sessions.now
    c.loop-session.session-index
    (take_all c.loop-session.session-index c.args.sessions.now c.loop-session-test.false) (c.loop-session.invariant.5 serves))

pub returns-clause-tally : goal.returns-clause-tally
returns-clause-tally g c serves =
    let it = g.C.ReplicaStore in
    whole_history it.holds it.place it.tally c.args.now c.args.subscriber.now c.loop-session.subscriber (bytes_of c.args.sessions.now)
    (returns-clause-counts g c serves)

pub returns-in_err-follow_session-clause-counts_refused : goal.returns-in_err-follow_session-clause-counts_refused
returns-in_err-follow_session-clause-counts_refused g c serves =
    let it = g.C.ReplicaStore in
    on_err c.from_residual.result _
    (subst (λ (z : ℤ). CountsSessionsFront it.holds it.place it.tally z c.args.subscriber.now (bytes_of c.args.sessions.now)
    c.follow_session.new.subscriber) (to_z-of_z w64 c.args.now c.ranges.now)
    (counts_stop_in it.holds it.place it.tally _ c.args.subscriber.now c.loop-session.subscriber c.follow_session.new.subscriber
    c.args.sessions.now c.loop-session.session-index c.session-item.result c.loop-session-test.true c.session-item.is
    (c.loop-session.invariant.5 (c.follow_session.ensures.served serves)) (c.in_err-follow_session.ensures.counts_refused serves)))

pub returns-in_err-follow_session-clause-tally : goal.returns-in_err-follow_session-clause-tally
returns-in_err-follow_session-clause-tally g c serves =
    let it = g.C.ReplicaStore in
    front_history it.holds it.place it.tally _ c.args.subscriber.now c.follow_session.new.subscriber (bytes_of c.args.sessions.now)
    (counts_stop_in it.holds it.place it.tally _ c.args.subscriber.now c.loop-session.subscriber c.follow_session.new.subscriber
    c.args.sessions.now c.loop-session.session-index c.session-item.result c.loop-session-test.true c.session-item.is
    (c.loop-session.invariant.5 (c.follow_session.ensures.served serves)) (c.in_err-follow_session.ensures.counts_refused serves))
