use Rattle.std.proofs.Common.{◌≡◌, ◌<◌, ◌≤◌, ℕ, ℤ, List, length, take, sym, ap, subst, arith}
use Rattle.std.specs.Int.{w64}
use Rattle.std.proofs.lemmas.Int.{to_z-of_z}
use Rattle.pgwire.specs.declared.fault.WireFault.TheVariants as wire_fault
use Rattle.pgsub_core.specs.declared.fault.Fault.TheVariants as fault
use Rattle.pgsub_core.specs.Subscriber.SubscriberValue.{SubscriberValue, Feeds, FeedsUntil, seen}
use Rattle.pgsub_core.specs.Subscriber.Crashing.{LeavesOldOr, FedOver, StandsAsFed}
use Rattle.pgsub_core.specs.Machine.Counted.{FeedsCounted, FeedsCountedFront, IsCountedFront}
use Rattle.pgsub_core.proofs.CountedPieces.{whole_front}
use Rattle.pgsub_core.proofs.DescribedChanges.{on_residual}
use Rattle.pgsub_core.proofs.FeedSteps.{take_whole}
use Rattle.pgsub_core.proofs.LeftPieces.{on_err}
use Rattle.pgsub_core.proofs.PayloadStops.{unchanged}
use Rattle.pgsub_core.proofs.SessionEnds.{shut, ended, leaves_front, until_after_done, until_memory}
use Rattle.pgsub_core.proofs.subscriber.Subscriber.feed.Goals as goal

pub returns-in_err-taken-clause-stands : goal.returns-in_err-taken-clause-stands
returns-in_err-taken-clause-stands g c honest serves unclosed =
    let it = g.C.ReplicaStore in
    on_err c.from_residual.result _
    (subst (λ (z : ℤ). StandsAsFed it.place (λ s. FeedsUntil it.holds it.place z c.args.self.now c.args.piece.now s fault.Memory)
    c.feed_session.new.self) (to_z-of_z w64 c.args.now c.ranges.now)
    (c.in_err-taken.ensures.stands honest serves unclosed))

pub returns-in_err-taken-clause-crash : goal.returns-in_err-taken-clause-crash
returns-in_err-taken-clause-crash g c honest =
    let it = g.C.ReplicaStore in
    subst (λ (z : ℤ). LeavesOldOr it.place it.reopens it.serves
    (FedOver (λ s. FeedsUntil it.holds it.place z c.args.self.now c.args.piece.now s fault.Memory)) c.args.self.now.applied.store
    c.feed_session.new.self.applied.store)
    (to_z-of_z w64 c.args.now c.ranges.now) (c.in_err-taken.ensures.crash_refused honest)

pub returns-clause-crash : goal.returns-clause-crash
returns-clause-crash g c honest =
    let it = g.C.ReplicaStore in
    subst (λ (z : ℤ). LeavesOldOr it.place it.reopens it.serves
    (FedOver (λ s. FeedsUntil it.holds it.place z c.args.self.now c.args.piece.now s fault.Memory)) c.args.self.now.applied.store
    c.feed_session.new.self.applied.store)
    (to_z-of_z w64 c.args.now c.ranges.now)
    (leaves_front it.holds it.place _ c.args.self.now c.args.piece.now c.in_ok-taken.taken it.reopens it.serves
    c.feed_session.new.self.applied.store (c.in_ok-taken.ensures.crash honest))

pub returns-clause-fed : goal.returns-clause-fed
returns-clause-fed g c serves =
    let it = g.C.ReplicaStore in
    let cut = c.in_ok-taken.ensures.cut in
    let within : c.in_ok-taken.taken ≤ length c.args.piece.now = cut.within in
    let rest = c.if-taken-piece.false in
    let all : c.in_ok-taken.taken ≡ length c.args.piece.now = omega (arith, within, rest) in
    subst (λ (p : List ℕ). Feeds it.holds it.place c.args.now c.args.self.now p c.feed_session.new.self)
    (take_whole c.args.piece.now c.in_ok-taken.taken all)
    (subst (λ (z : ℤ). Feeds it.holds it.place z c.args.self.now (take c.in_ok-taken.taken c.args.piece.now) c.feed_session.new.self)
    (to_z-of_z w64 c.args.now c.ranges.now) (c.in_ok-taken.ensures.fed serves))

pub returns-then-taken-piece-clause-refused : goal.returns-then-taken-piece-clause-refused
returns-then-taken-piece-clause-refused g c serves =
    let it = g.C.ReplicaStore in
    let more : c.in_ok-taken.taken < length c.args.piece.now = c.if-taken-piece.true in
    let fed = c.in_ok-taken.ensures.fed (subst (λ (s : SubscriberValue g.row.C.Denot). it.serves s.applied.store) c.self.view_is serves) in
    subst (λ (s : SubscriberValue g.row.C.Denot).
    FeedsUntil it.holds it.place c.args.now c.args.self.now c.args.piece.now s (fault.Wire wire_fault.AfterDone))
    (sym (ap shut c.self.view_is))
    (subst (λ (z : ℤ). FeedsUntil it.holds it.place z c.args.self.now c.args.piece.now (shut c.feed_session.new.self)
    (fault.Wire wire_fault.AfterDone)) (to_z-of_z w64 c.args.now c.ranges.now)
    (until_after_done it.holds it.place _ c.args.self.now c.feed_session.new.self c.args.piece.now c.in_ok-taken.taken more
    (ended _ _ _ c.in_ok-taken.ensures.cut more) fed))

pub returns-then-taken-piece-clause-stands : goal.returns-then-taken-piece-clause-stands
returns-then-taken-piece-clause-stands g c honest serves unclosed =
    let it = g.C.ReplicaStore in
    let more : c.in_ok-taken.taken < length c.args.piece.now = c.if-taken-piece.true in
    let was = subst (λ (s : SubscriberValue g.row.C.Denot). it.is_honest s.applied.store) c.self.view_is honest in
    let fed = c.in_ok-taken.ensures.fed (c.in_ok-taken.ensures.still_serves was serves) in (
      shut (record { applied = c.self.inside.applier; framing = c.feed_session.new.self.framing }),
      unchanged it.place c.self.inside.applier,
      subst (λ (s : SubscriberValue g.row.C.Denot).
          FeedsUntil it.holds it.place c.args.now c.args.self.now c.args.piece.now
          (shut (record { applied = s.applied; framing = c.feed_session.new.self.framing })) fault.Memory) (sym c.self.view_is)
          (subst (λ (z : ℤ). FeedsUntil it.holds it.place z c.args.self.now c.args.piece.now (shut c.feed_session.new.self) fault.Memory)
          (to_z-of_z w64 c.args.now c.ranges.now)
          (until_memory it.holds it.place _ c.args.self.now c.feed_session.new.self c.args.piece.now c.in_ok-taken.taken
          (ended _ _ _ c.in_ok-taken.ensures.cut more) fed)),
    )

pub returns-then-taken-piece-clause-crash : goal.returns-then-taken-piece-clause-crash
returns-then-taken-piece-clause-crash g c honest =
    let it = g.C.ReplicaStore in
    let was = subst (λ (s : SubscriberValue g.row.C.Denot). it.is_honest s.applied.store) c.self.view_is honest in
    subst (λ (s : SubscriberValue g.row.C.Denot).
    LeavesOldOr it.place it.reopens it.serves
    (FedOver (λ x. FeedsUntil it.holds it.place c.args.now c.args.self.now c.args.piece.now x fault.Memory))
    c.args.self.now.applied.store s.applied.store) (sym c.self.view_is)
    (subst (λ (z : ℤ). LeavesOldOr it.place it.reopens it.serves
    (FedOver (λ x. FeedsUntil it.holds it.place z c.args.self.now c.args.piece.now x fault.Memory)) c.args.self.now.applied.store
    c.feed_session.new.self.applied.store)
    (to_z-of_z w64 c.args.now c.ranges.now)
    (leaves_front it.holds it.place _ c.args.self.now c.args.piece.now c.in_ok-taken.taken it.reopens it.serves
    c.feed_session.new.self.applied.store (c.in_ok-taken.ensures.crash was)))

pub returns-in_err-taken-clause-why : goal.returns-in_err-taken-clause-why
returns-in_err-taken-clause-why g c honest serves unclosed =
    let it = g.C.ReplicaStore in
    let f = c.in_err-taken.field-0.0 in
    on_residual c.from_residual.result f _ c.from_residual.ensures.1
    (subst (λ (z : ℤ). StandsAsFed it.place (λ s. FeedsUntil it.holds it.place z c.args.self.now c.args.piece.now s f)
    c.feed_session.new.self) (to_z-of_z w64 c.args.now c.ranges.now)
    (c.in_err-taken.ensures.why honest serves unclosed))

pub returns-then-taken-piece-clause-why : goal.returns-then-taken-piece-clause-why
returns-then-taken-piece-clause-why g c honest serves unclosed =
    let it = g.C.ReplicaStore in
    let more : c.in_ok-taken.taken < length c.args.piece.now = c.if-taken-piece.true in
    let was = subst (λ (s : SubscriberValue g.row.C.Denot). it.is_honest s.applied.store) c.self.view_is honest in
    let fed = c.in_ok-taken.ensures.fed (c.in_ok-taken.ensures.still_serves was serves) in (
      shut (record { applied = c.self.inside.applier; framing = c.feed_session.new.self.framing }),
      unchanged it.place c.self.inside.applier,
      subst (λ (s : SubscriberValue g.row.C.Denot).
          FeedsUntil it.holds it.place c.args.now c.args.self.now c.args.piece.now
          (shut (record { applied = s.applied; framing = c.feed_session.new.self.framing })) (fault.Wire wire_fault.AfterDone))
          (sym c.self.view_is)
          (subst (λ (z : ℤ). FeedsUntil it.holds it.place z c.args.self.now c.args.piece.now (shut c.feed_session.new.self)
          (fault.Wire wire_fault.AfterDone)) (to_z-of_z w64 c.args.now c.ranges.now)
          (until_after_done it.holds it.place _ c.args.self.now c.feed_session.new.self c.args.piece.now c.in_ok-taken.taken more
          (ended _ _ _ c.in_ok-taken.ensures.cut more) fed)),
    )

pub returns-clause-counts : goal.returns-clause-counts
returns-clause-counts g c serves =
    let it = g.C.ReplicaStore in
    let cut = c.in_ok-taken.ensures.cut in
    let within : c.in_ok-taken.taken ≤ length c.args.piece.now = cut.within in
    let rest = c.if-taken-piece.false in
    let all : c.in_ok-taken.taken ≡ length c.args.piece.now = omega (arith, within, rest) in
    subst (λ (p : List ℕ). FeedsCounted it.holds it.place it.tally c.args.now c.args.self.now p c.feed_session.new.self)
    (take_whole c.args.piece.now c.in_ok-taken.taken all)
    (subst (λ (z : ℤ). FeedsCounted it.holds it.place it.tally z c.args.self.now (take c.in_ok-taken.taken c.args.piece.now)
    c.feed_session.new.self) (to_z-of_z w64 c.args.now c.ranges.now) (c.in_ok-taken.ensures.counts serves))

pub returns-in_err-taken-clause-counts_refused : goal.returns-in_err-taken-clause-counts_refused
returns-in_err-taken-clause-counts_refused g c serves unclosed =
    let it = g.C.ReplicaStore in
    on_err c.from_residual.result _
    (subst (λ (z : ℤ). FeedsCountedFront it.holds it.place it.tally z c.args.self.now c.args.piece.now c.feed_session.new.self)
    (to_z-of_z w64 c.args.now c.ranges.now) (c.in_err-taken.ensures.counts_refused serves unclosed))

pub returns-then-taken-piece-clause-counts_refused : goal.returns-then-taken-piece-clause-counts_refused
returns-then-taken-piece-clause-counts_refused g c serves unclosed tables h =
    let it = g.C.ReplicaStore in
    let counts = c.in_ok-taken.ensures.counts
    (subst (λ (s : SubscriberValue g.row.C.Denot). it.serves s.applied.store) c.self.view_is serves) in
    subst (λ (s : SubscriberValue g.row.C.Denot).
    IsCountedFront c.args.now (seen it.place c.args.self.now tables) c.args.piece.now (it.place s.applied.store)
    (it.tally c.args.self.now.applied.store) (it.tally s.applied.store)) (sym c.self.view_is)
    (subst (λ (z : ℤ). IsCountedFront z (seen it.place c.args.self.now tables) c.args.piece.now
    (it.place c.feed_session.new.self.applied.store) (it.tally c.args.self.now.applied.store)
    (it.tally c.feed_session.new.self.applied.store)) (to_z-of_z w64 c.args.now c.ranges.now)
    (whole_front _ (seen it.place c.args.self.now tables) c.args.piece.now c.in_ok-taken.taken _ _ _ (counts tables h)))
