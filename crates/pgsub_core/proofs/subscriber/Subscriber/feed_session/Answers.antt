use Rattle.std.proofs.Common.{ℤ, take, refl, sym, ap, subst, ◌∙◌, true}
use Rattle.pgsub_core.specs.Subscriber.SubscriberValue.{SubscriberValue}
use Rattle.std.specs.Int.{w64}
use Rattle.std.proofs.lemmas.Int.{to_z-of_z}
use Rattle.pgsub_core.specs.Calls.Framing.{framing_of, FeedGoes, FeedStops}
use Rattle.pgsub_core.specs.Subscriber.Crashing.{LeavesOldOr, FedOver, Over, StandsAs}
use Rattle.pgsub_core.specs.Machine.Counted.{FeedCounts, FeedCountsFront}
use Rattle.pgsub_core.proofs.CountedPieces.{feeds_counted, feeds_counted_front}
use Rattle.pgsub_core.proofs.Crashes.{leaves_as}
use Rattle.pgsub_core.proofs.LeftPieces.{feed_over, feed_stands, feed_stands_memory}
use Rattle.pgsub_core.specs.declared.fault.Fault.TheVariants as fault
use Rattle.pgsub_core.specs.Subscriber.SubscriberValue.{FeedsUntil}
use Rattle.pgsub_core.proofs.Starting.{feeds, feeds_until}
use Rattle.pgsub_core.proofs.subscriber.Subscriber.feed_session.Goals as goal

pub returns-in-Ok-clause-fed : goal.returns-in-Ok-clause-fed
returns-in-Ok-clause-fed g c serves =
    let part = take c.in-Ok.taken c.args.piece.now in
    feeds g.C.ReplicaStore.holds g.C.ReplicaStore.place c.args.now part c.self.inside.deframer c.take_piece.new.deframer
    c.self.inside.applier c.take_piece.new.applier c.self.inside.closed c.args.self.now c.if-self.false c.self.view_is
    (subst (λ (z : ℤ). FeedGoes g.C.ReplicaStore.holds g.C.ReplicaStore.place z c.self.inside.deframer c.self.inside.applier part
    c.take_piece.new.deframer c.take_piece.new.applier) (to_z-of_z w64 c.args.now c.ranges.now)
    (c.in-Ok.ensures.fed serves))

pub returns-in-Err-clause-refused : goal.returns-in-Err-clause-refused
returns-in-Err-clause-refused g c serves =
    feeds_until g.C.ReplicaStore.holds g.C.ReplicaStore.place c.args.now c.args.piece.now c.self.inside.deframer c.take_piece.new.deframer
    c.self.inside.applier c.take_piece.new.applier c.self.inside.closed c.args.self.now c.in-Err.fault
    c.if-self.false c.take_piece.ensures.max c.self.view_is
    (subst (λ (z : ℤ). FeedStops g.C.ReplicaStore.holds g.C.ReplicaStore.place z c.self.inside.deframer c.self.inside.applier
    c.args.piece.now c.take_piece.new.applier c.in-Err.fault) (to_z-of_z w64 c.args.now c.ranges.now)
    (c.in-Err.ensures.refused serves))

pub returns-then-self-clause-refused : goal.returns-then-self-clause-refused
returns-then-self-clause-refused g c serves tables h =
    (tables, h, (ap (λ (x : SubscriberValue g.row.C.Denot). x.framing.closed) (sym c.self.view_is) ∙ c.if-self.true, refl))

pub returns-in-Ok-clause-crash : goal.returns-in-Ok-clause-crash
returns-in-Ok-clause-crash g c honest =
    let it = g.C.ReplicaStore in
    let part = take c.in-Ok.taken c.args.piece.now in
    subst (λ (x : SubscriberValue g.row.C.Denot).
    LeavesOldOr it.place it.reopens it.serves
    (FedOver (λ s. FeedsUntil it.holds it.place c.args.now c.args.self.now part s fault.Memory)) x.applied.store
    c.take_piece.new.applier.store) c.self.view_is
    (leaves_as it.place it.reopens it.serves _ _ c.self.inside.applier.store c.take_piece.new.applier.store
    (subst (λ (z : ℤ). LeavesOldOr it.place it.reopens it.serves
    (Over (λ a. FeedStops it.holds it.place z c.self.inside.deframer c.self.inside.applier part a fault.Memory))
    c.self.inside.applier.store c.take_piece.new.applier.store)
    (to_z-of_z w64 c.args.now c.ranges.now) (c.in-Ok.ensures.crash honest))
    (feed_over it.holds it.place c.args.now part c.self.inside.deframer c.self.inside.applier c.self.inside.closed c.args.self.now
    c.if-self.false c.self.view_is))

pub returns-in-Err-clause-crash_refused : goal.returns-in-Err-clause-crash_refused
returns-in-Err-clause-crash_refused g c honest =
    let it = g.C.ReplicaStore in
    subst (λ (x : SubscriberValue g.row.C.Denot).
    LeavesOldOr it.place it.reopens it.serves
    (FedOver (λ s. FeedsUntil it.holds it.place c.args.now c.args.self.now c.args.piece.now s fault.Memory)) x.applied.store
    c.take_piece.new.applier.store) c.self.view_is
    (leaves_as it.place it.reopens it.serves _ _ c.self.inside.applier.store c.take_piece.new.applier.store
    (subst (λ (z : ℤ). LeavesOldOr it.place it.reopens it.serves
    (Over (λ a. FeedStops it.holds it.place z c.self.inside.deframer c.self.inside.applier c.args.piece.now a fault.Memory))
    c.self.inside.applier.store c.take_piece.new.applier.store)
    (to_z-of_z w64 c.args.now c.ranges.now) (c.in-Err.ensures.crash_refused honest))
    (feed_over it.holds it.place c.args.now c.args.piece.now c.self.inside.deframer c.self.inside.applier c.self.inside.closed
    c.args.self.now c.if-self.false c.self.view_is))

pub returns-in-Err-clause-stands : goal.returns-in-Err-clause-stands
returns-in-Err-clause-stands g c honest serves unclosed =
    let it = g.C.ReplicaStore in
    feed_stands_memory it.holds it.place c.args.now c.args.piece.now c.self.inside.deframer c.self.inside.applier c.self.inside.closed
    c.args.self.now c.if-self.false c.self.view_is c.take_piece.new.deframer c.take_piece.new.applier c.in-Err.fault
    (subst (λ (z : ℤ). StandsAs it.place
    (λ a. FeedStops it.holds it.place z c.self.inside.deframer c.self.inside.applier c.args.piece.now a c.in-Err.fault)
    c.take_piece.new.applier) (to_z-of_z w64 c.args.now c.ranges.now)
    (c.in-Err.ensures.why honest (subst (λ (x : SubscriberValue g.row.C.Denot). it.serves x.applied.store) (sym c.self.view_is) serves)))

pub returns-in-Err-clause-why : goal.returns-in-Err-clause-why
returns-in-Err-clause-why g c honest serves unclosed =
    let it = g.C.ReplicaStore in
    feed_stands it.holds it.place c.args.now c.args.piece.now c.self.inside.deframer c.self.inside.applier c.self.inside.closed
    c.args.self.now c.if-self.false c.self.view_is c.take_piece.new.deframer c.take_piece.new.applier c.in-Err.fault
    (subst (λ (z : ℤ). StandsAs it.place
    (λ a. FeedStops it.holds it.place z c.self.inside.deframer c.self.inside.applier c.args.piece.now a c.in-Err.fault)
    c.take_piece.new.applier) (to_z-of_z w64 c.args.now c.ranges.now)
    (c.in-Err.ensures.why honest (subst (λ (x : SubscriberValue g.row.C.Denot). it.serves x.applied.store) (sym c.self.view_is) serves)))

pub returns-in-Ok-clause-counts : goal.returns-in-Ok-clause-counts
returns-in-Ok-clause-counts g c serves =
    let it = g.C.ReplicaStore in
    let part = take c.in-Ok.taken c.args.piece.now in
    feeds_counted it.holds it.place it.tally c.args.now part c.self.inside.deframer c.self.inside.applier c.self.inside.closed
    c.args.self.now (record { applied = c.take_piece.new.applier; framing = framing_of c.take_piece.new.deframer true }) c.self.view_is
    (subst (λ (z : ℤ). FeedCounts it.holds it.place it.tally z c.self.inside.deframer c.self.inside.applier part
    c.take_piece.new.applier.store) (to_z-of_z w64 c.args.now c.ranges.now)
    (c.in-Ok.ensures.counts serves))

pub returns-in-Err-clause-counts_refused : goal.returns-in-Err-clause-counts_refused
returns-in-Err-clause-counts_refused g c serves unclosed =
    let it = g.C.ReplicaStore in
    feeds_counted_front it.holds it.place it.tally c.args.now c.args.piece.now c.self.inside.deframer c.self.inside.applier
    c.self.inside.closed c.args.self.now
    (record { applied = c.take_piece.new.applier; framing = framing_of c.take_piece.new.deframer true }) c.self.view_is
    (subst (λ (z : ℤ). FeedCountsFront it.holds it.place it.tally z c.self.inside.deframer c.self.inside.applier c.args.piece.now
    c.take_piece.new.applier.store) (to_z-of_z w64 c.args.now c.ranges.now)
    (c.in-Err.ensures.counts_refused serves))
