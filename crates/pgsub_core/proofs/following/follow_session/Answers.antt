use Rattle.std.proofs.Common.{◌≡◌, ℕ, ℤ, List, take, sym, ap, subst, take_all}
use Rattle.std.specs.FinMap as map
use Rattle.std.specs.Int.{w64}
use Rattle.std.proofs.lemmas.Int.{to_z-of_z}
use Rattle.pgsub_core.proofs.CountedSessions.{counts_start, counts_more, counts_all, counts_stop}
use Rattle.pgsub_core.specs.Machine.Counted.{CountsSession, CountsSessionFront}
use Rattle.pgsub_core.specs.declared.fault.Fault.TheVariants as fault
use Rattle.pgsub_core.specs.Subscriber.Subscribed.{Subscribed, session_bytes}
use Rattle.pgsub_core.specs.Subscriber.Crashing.{LeavesOldOr, FedOver, StandsAsFed}
use Rattle.pgsub_core.proofs.Crashes.{leaves_same}
use Rattle.pgsub_core.proofs.LeftPieces.{on_err, leaves_pieces, session_stands}
use Rattle.pgsub_core.specs.Subscriber.Following.{FeedsSession, FeedsSessionUntil}
use Rattle.pgsub_core.proofs.DescribedChanges.{on_residual}
use Rattle.pgsub_core.proofs.FollowSteps.{session_start, session_more, session_stops, session_whole}
use Rattle.pgsub_core.proofs.following.follow_session.Goals as goal

pub loop-piece-init : goal.loop-piece-init
loop-piece-init g c = (
  λ serves. session_start g.C.ReplicaStore.holds g.C.ReplicaStore.place _ c.args.subscriber.now c.disconnect.new.self
      c.disconnect.ensures.store c.disconnect.ensures.state,
  λ serves. subst g.C.ReplicaStore.serves c.disconnect.ensures.store serves,
  ap (λ (s : Subscribed). s.closed) (c.disconnect.ensures.state map.empty),
  λ honest. subst g.C.ReplicaStore.is_honest c.disconnect.ensures.store honest,
  λ honest serves. subst g.C.ReplicaStore.serves (sym c.disconnect.ensures.store) serves,
  λ honest. leaves_same g.C.ReplicaStore.place g.C.ReplicaStore.reopens g.C.ReplicaStore.serves _ c.args.subscriber.now.applied.store
      c.disconnect.new.self.applied.store c.disconnect.ensures.store,
  λ serves. counts_start g.C.ReplicaStore.holds g.C.ReplicaStore.place g.C.ReplicaStore.tally _ c.args.subscriber.now c.disconnect.new.self
      c.disconnect.ensures.store,
)

pub loop-piece-preserved : goal.loop-piece-preserved
loop-piece-preserved g c = (
  λ serves. session_more g.C.ReplicaStore.holds g.C.ReplicaStore.place _ c.args.subscriber.now c.loop-piece.subscriber c.feed.new.self
      c.args.session.now.pieces c.as_slice-piece-items.result.now c.as_slice-piece-items.ensures c.loop-piece.piece-index
      c.piece-item.result c.loop-piece-test.true c.piece-item.is
      (c.loop-piece.invariant.0 (c.feed.ensures.served serves)) c.as_slice.result.now c.as_slice.ensures (c.in_ok-feed.ensures.fed serves),
  λ serves. c.loop-piece.invariant.1 (c.feed.ensures.served serves),
  c.in_ok-feed.ensures.open.1,
  λ honest. c.loop-piece.invariant.3 (c.feed.ensures.honest honest),
  λ honest serves. c.in_ok-feed.ensures.still_serves honest (c.loop-piece.invariant.4 (c.feed.ensures.honest honest) serves),
  λ honest. leaves_pieces g.C.ReplicaStore.serves g.C.ReplicaStore.holds g.C.ReplicaStore.place g.C.ReplicaStore.reopens _
      c.args.subscriber.now c.loop-piece.subscriber c.feed.new.self c.loop-piece.invariant.1 c.args.session.now.pieces
      c.as_slice-piece-items.result.now c.as_slice-piece-items.ensures
      c.loop-piece.piece-index c.piece-item.result c.loop-piece-test.true c.piece-item.is c.loop-piece.invariant.0 c.as_slice.result.now
      c.as_slice.ensures (c.loop-piece.invariant.5 (c.feed.ensures.honest honest)) (c.feed.ensures.crash honest),
  λ serves. counts_more g.C.ReplicaStore.holds g.C.ReplicaStore.place g.C.ReplicaStore.tally _ c.args.subscriber.now
      c.loop-piece.subscriber c.feed.new.self c.args.session.now.pieces c.as_slice-piece-items.result.now c.as_slice-piece-items.ensures
      c.loop-piece.piece-index c.piece-item.result c.loop-piece-test.true c.piece-item.is
      (c.loop-piece.invariant.0 (c.feed.ensures.served serves)) (c.loop-piece.invariant.6 (c.feed.ensures.served serves))
      c.as_slice.result.now c.as_slice.ensures (c.in_ok-feed.ensures.counts serves),
)

pub returns-clause-fed : goal.returns-clause-fed
returns-clause-fed g c serves =
    subst (λ (z : ℤ). FeedsSession g.C.ReplicaStore.holds g.C.ReplicaStore.place z c.args.subscriber.now (session_bytes c.args.session.now)
    c.loop-piece.subscriber) (to_z-of_z w64 c.args.now c.ranges.now)
    (session_whole g.C.ReplicaStore.holds g.C.ReplicaStore.place _ c.args.subscriber.now c.loop-piece.subscriber c.args.session.now.pieces
    c.loop-piece.piece-index
    (subst (λ (xs : List (List ℕ)). take c.loop-piece.piece-index xs ≡ xs) c.as_slice-piece-items.ensures
    (take_all c.loop-piece.piece-index c.as_slice-piece-items.result.now c.loop-piece-test.false)) (c.loop-piece.invariant.0 serves))

pub returns-in_err-feed-clause-refused : goal.returns-in_err-feed-clause-refused
returns-in_err-feed-clause-refused g c serves =
    let f = c.in_err-feed.field-0.0 in
    on_residual c.from_residual.result f _ c.from_residual.ensures.1
    (subst (λ (z : ℤ). FeedsSessionUntil g.C.ReplicaStore.holds g.C.ReplicaStore.place z c.args.subscriber.now
    (session_bytes c.args.session.now) c.feed.new.self f) (to_z-of_z w64 c.args.now c.ranges.now)
    (session_stops g.C.ReplicaStore.holds g.C.ReplicaStore.place _ c.args.subscriber.now c.loop-piece.subscriber c.feed.new.self
    c.args.session.now.pieces c.as_slice-piece-items.result.now c.as_slice-piece-items.ensures c.loop-piece.piece-index
    c.piece-item.result f c.loop-piece-test.true c.piece-item.is
    (c.loop-piece.invariant.0 (c.feed.ensures.served serves)) c.as_slice.result.now c.as_slice.ensures
    (c.in_err-feed.ensures.refused serves)))

pub returns-clause-left : goal.returns-clause-left
returns-clause-left g c honest =
    let it = g.C.ReplicaStore in
    subst (λ (z : ℤ). LeavesOldOr it.place it.reopens it.serves
    (FedOver (λ s. FeedsSessionUntil it.holds it.place z c.args.subscriber.now (session_bytes c.args.session.now) s fault.Memory))
    c.args.subscriber.now.applied.store c.loop-piece.subscriber.applied.store)
    (to_z-of_z w64 c.args.now c.ranges.now) (c.loop-piece.invariant.5 honest)

pub returns-in_err-feed-clause-left : goal.returns-in_err-feed-clause-left
returns-in_err-feed-clause-left g c honest =
    let it = g.C.ReplicaStore in
    subst (λ (z : ℤ). LeavesOldOr it.place it.reopens it.serves
    (FedOver (λ s. FeedsSessionUntil it.holds it.place z c.args.subscriber.now (session_bytes c.args.session.now) s fault.Memory))
    c.args.subscriber.now.applied.store c.feed.new.self.applied.store)
    (to_z-of_z w64 c.args.now c.ranges.now)
    (leaves_pieces it.serves it.holds it.place it.reopens _ c.args.subscriber.now c.loop-piece.subscriber c.feed.new.self
    c.loop-piece.invariant.1 c.args.session.now.pieces c.as_slice-piece-items.result.now c.as_slice-piece-items.ensures
    c.loop-piece.piece-index c.piece-item.result c.loop-piece-test.true c.piece-item.is c.loop-piece.invariant.0 c.as_slice.result.now
    c.as_slice.ensures (c.loop-piece.invariant.5 (c.feed.ensures.honest honest)) (c.feed.ensures.crash honest))

pub returns-in_err-feed-clause-stands : goal.returns-in_err-feed-clause-stands
returns-in_err-feed-clause-stands g c honest serves =
    let it = g.C.ReplicaStore in
    let own = c.loop-piece.invariant.4 (c.feed.ensures.honest honest) serves in
    on_err c.from_residual.result _
    (subst (λ (z : ℤ). StandsAsFed it.place
    (λ s. FeedsSessionUntil it.holds it.place z c.args.subscriber.now (session_bytes c.args.session.now) s fault.Memory)
    c.feed.new.self) (to_z-of_z w64 c.args.now c.ranges.now)
    (session_stands it.serves it.holds it.place it.reopens _ c.args.subscriber.now c.loop-piece.subscriber c.feed.new.self
    c.loop-piece.invariant.1 c.args.session.now.pieces c.as_slice-piece-items.result.now c.as_slice-piece-items.ensures
    c.loop-piece.piece-index c.piece-item.result c.loop-piece-test.true c.piece-item.is c.loop-piece.invariant.0 c.as_slice.result.now
    c.as_slice.ensures own fault.Memory (c.in_err-feed.ensures.stands honest own c.loop-piece.invariant.2)))

pub returns-in_err-feed-clause-why : goal.returns-in_err-feed-clause-why
returns-in_err-feed-clause-why g c honest serves =
    let it = g.C.ReplicaStore in
    let own = c.loop-piece.invariant.4 (c.feed.ensures.honest honest) serves in
    let f = c.in_err-feed.field-0.0 in
    on_residual c.from_residual.result f _ c.from_residual.ensures.1
    (subst (λ (z : ℤ). StandsAsFed it.place
    (λ s. FeedsSessionUntil it.holds it.place z c.args.subscriber.now (session_bytes c.args.session.now) s f) c.feed.new.self)
    (to_z-of_z w64 c.args.now c.ranges.now)
    (session_stands it.serves it.holds it.place it.reopens _ c.args.subscriber.now c.loop-piece.subscriber c.feed.new.self
    c.loop-piece.invariant.1 c.args.session.now.pieces c.as_slice-piece-items.result.now c.as_slice-piece-items.ensures
    c.loop-piece.piece-index c.piece-item.result c.loop-piece-test.true c.piece-item.is c.loop-piece.invariant.0 c.as_slice.result.now
    c.as_slice.ensures own f (c.in_err-feed.ensures.why honest own c.loop-piece.invariant.2)))

pub returns-clause-counts : goal.returns-clause-counts
returns-clause-counts g c serves =
    let it = g.C.ReplicaStore in
    subst (λ (z : ℤ). CountsSession it.holds it.place it.tally z c.args.subscriber.now (session_bytes c.args.session.now)
    c.loop-piece.subscriber) (to_z-of_z w64 c.args.now c.ranges.now)
    (counts_all it.holds it.place it.tally _ c.args.subscriber.now c.loop-piece.subscriber c.args.session.now.pieces
    c.loop-piece.piece-index
    (subst (λ (xs : List (List ℕ)). take c.loop-piece.piece-index xs ≡ xs) c.as_slice-piece-items.ensures
    (take_all c.loop-piece.piece-index c.as_slice-piece-items.result.now c.loop-piece-test.false)) (c.loop-piece.invariant.6 serves))

pub returns-in_err-feed-clause-counts_refused : goal.returns-in_err-feed-clause-counts_refused
returns-in_err-feed-clause-counts_refused g c serves =
    let it = g.C.ReplicaStore in
    on_err c.from_residual.result _
    (subst (λ (z : ℤ). CountsSessionFront it.holds it.place it.tally z c.args.subscriber.now (session_bytes c.args.session.now)
    c.feed.new.self) (to_z-of_z w64 c.args.now c.ranges.now)
    (counts_stop it.holds it.place it.tally _ c.args.subscriber.now c.loop-piece.subscriber c.feed.new.self c.args.session.now.pieces
    c.as_slice-piece-items.result.now c.as_slice-piece-items.ensures c.loop-piece.piece-index c.piece-item.result c.loop-piece-test.true
    c.piece-item.is
    (c.loop-piece.invariant.0 (c.feed.ensures.served serves)) (c.loop-piece.invariant.6 (c.feed.ensures.served serves))
    c.as_slice.result.now c.as_slice.ensures (c.in_err-feed.ensures.counts_refused serves c.loop-piece.invariant.2)))
