use Rattle.std.proofs.Common.{ℕ, ℤ, take, sym, subst, ◌∙◌}
use Rattle.std.specs.Io.KnownBytes.{Consumes}
use Rattle.std.specs.Int.{w64}
use Rattle.std.proofs.lemmas.Int.{to_z-of_z}
use Rattle.pgsub_core.specs.Calls.Pumping.{Pumps, PumpsUntil, PumpsCounted, PumpsCountedUntil}
use Rattle.pgsub_core.proofs.DescribedChanges.{on_residual}
use Rattle.pgsub_core.specs.declared.fault.Fault.TheVariants as fault
use Rattle.pgsub_core.specs.Subscriber.Crashing.{LeavesOldOr, FedOver, StandsAsFed}
use Rattle.pgsub_core.proofs.LeftPieces.{leaves_read, leaves_end, leaves_failed, read_stands}
use Rattle.pgsub_core.proofs.Pumped.{taken_piece, pumps_more, pumps_until, pumps_end}
use Rattle.pgsub_core.proofs.CountedPumps.{counts_more, counts_until, counts_end}
use Rattle.pgsub_core.proofs.pumping.pump.Goals as goal

pub loop-source-preserved : goal.loop-source-preserved
loop-source-preserved g c =
    let read = c.in-Some.ensures.some in
    let room = c.read_piece.new.room in
    let length_is = c.read_piece.ensures.length ∙ c.loop-source.invariant.1 in
    let is = taken_piece room c.in-Some.count read.0 length_is c.if-count-eq0.false in (
      read.3,
      length_is,
      λ serves. pumps_more g.C.ReplicaStore.holds g.C.ReplicaStore.place _ (g.R.Read.remaining c.args.source.now.reader)
          (g.R.Read.remaining c.loop-source.source.reader) (g.R.Read.remaining c.read_piece.new.self.reader)
          c.args.source.now.reads c.loop-source.source.reads c.read_piece.new.self.reads c.args.subscriber.now c.loop-source.subscriber
          c.feed.new.self (take c.in-Some.count room) c.read_piece.ensures.reads
          (c.loop-source.invariant.2 (c.feed.ensures.served serves)) read.1 is (c.in_ok-feed.ensures.fed serves),
      c.in_ok-feed.ensures.open.1 ∙ sym c.in_ok-feed.ensures.open.0 ∙ c.loop-source.invariant.3,
      λ serves. c.loop-source.invariant.4 (c.feed.ensures.served serves),
      λ honest. c.loop-source.invariant.5 (c.feed.ensures.honest honest),
      λ honest serves. c.in_ok-feed.ensures.still_serves honest (c.loop-source.invariant.6 (c.feed.ensures.honest honest) serves),
      λ honest. leaves_read g.C.ReplicaStore.holds g.C.ReplicaStore.place _ (g.R.Read.remaining c.args.source.now.reader)
          (g.R.Read.remaining c.loop-source.source.reader) (g.R.Read.remaining c.read_piece.new.self.reader) c.args.subscriber.now
          g.C.ReplicaStore.reopens g.C.ReplicaStore.serves c.feed.new.self c.args.source.now.reads c.loop-source.source.reads
          c.loop-source.subscriber (take c.in-Some.count room)
          c.loop-source.invariant.4 c.loop-source.invariant.2 read.1 is (c.loop-source.invariant.7 (c.feed.ensures.honest honest))
          (c.feed.ensures.crash honest),
      λ serves. counts_more g.C.ReplicaStore.holds g.C.ReplicaStore.place g.C.ReplicaStore.tally _
          (g.R.Read.remaining c.args.source.now.reader) (g.R.Read.remaining c.loop-source.source.reader)
          (g.R.Read.remaining c.read_piece.new.self.reader)
          c.args.source.now.reads c.loop-source.source.reads c.read_piece.new.self.reads c.args.subscriber.now c.loop-source.subscriber
          c.feed.new.self (take c.in-Some.count room) c.read_piece.ensures.reads
          (c.loop-source.invariant.8 (c.feed.ensures.served serves)) read.1 is (c.in_ok-feed.ensures.fed serves)
          (c.in_ok-feed.ensures.counts serves),
    )

pub returns-in_err-feed-clause-refused : goal.returns-in_err-feed-clause-refused
returns-in_err-feed-clause-refused g c serves =
    let f = c.in_err-feed.field-0.0 in
    let read = c.in-Some.ensures.some in
    let room = c.read_piece.new.room in
    let is = taken_piece room c.in-Some.count read.0 (c.read_piece.ensures.length ∙ c.loop-source.invariant.1) c.if-count-eq0.false in
    let unread = g.R.Read.remaining c.args.source.now.reader in
    let rest = g.R.Read.remaining c.read_piece.new.self.reader in
    on_residual c.from_residual.result f _ c.from_residual.ensures.1
    (λ other. subst (λ (z : ℤ).
    PumpsUntil g.C.ReplicaStore.holds g.C.ReplicaStore.place z unread rest c.args.subscriber.now c.feed.new.self f)
    (to_z-of_z w64 c.args.now c.ranges.now)
    (pumps_until g.C.ReplicaStore.holds g.C.ReplicaStore.place _ unread (g.R.Read.remaining c.loop-source.source.reader) rest
    c.args.source.now.reads c.loop-source.source.reads c.args.subscriber.now c.loop-source.subscriber c.feed.new.self
    (take c.in-Some.count room) f (c.loop-source.invariant.2 (c.feed.ensures.served serves)) read.1 is
    (c.in_err-feed.ensures.refused serves)))

pub returns-in_err-feed-clause-crash : goal.returns-in_err-feed-clause-crash
returns-in_err-feed-clause-crash g c honest =
    let it = g.C.ReplicaStore in
    let read = c.in-Some.ensures.some in
    let room = c.read_piece.new.room in
    let is = taken_piece room c.in-Some.count read.0 (c.read_piece.ensures.length ∙ c.loop-source.invariant.1) c.if-count-eq0.false in
    let unread = g.R.Read.remaining c.args.source.now.reader in
    let rest = g.R.Read.remaining c.read_piece.new.self.reader in
    subst (λ (z : ℤ). LeavesOldOr it.place it.reopens it.serves
    (FedOver (λ s. PumpsUntil it.holds it.place z unread rest c.args.subscriber.now s fault.Memory)) c.args.subscriber.now.applied.store
    c.feed.new.self.applied.store) (to_z-of_z w64 c.args.now c.ranges.now)
    (leaves_read it.holds it.place _ unread (g.R.Read.remaining c.loop-source.source.reader) rest c.args.subscriber.now it.reopens it.serves
    c.feed.new.self c.args.source.now.reads c.loop-source.source.reads c.loop-source.subscriber
    (take c.in-Some.count room) c.loop-source.invariant.4 c.loop-source.invariant.2 read.1 is
    (c.loop-source.invariant.7 (c.feed.ensures.honest honest)) (c.feed.ensures.crash honest))

pub returns-in_default-clause-crash : goal.returns-in_default-clause-crash
returns-in_default-clause-crash g c honest =
    let it = g.C.ReplicaStore in
    let unread = g.R.Read.remaining c.args.source.now.reader in
    let rest = g.R.Read.remaining c.read_piece.new.self.reader in
    subst (λ (z : ℤ). LeavesOldOr it.place it.reopens it.serves
    (FedOver (λ s. PumpsUntil it.holds it.place z unread rest c.args.subscriber.now s fault.Memory)) c.args.subscriber.now.applied.store
    c.loop-source.subscriber.applied.store) (to_z-of_z w64 c.args.now c.ranges.now)
    (leaves_failed it.holds it.place _ unread (g.R.Read.remaining c.loop-source.source.reader) rest c.args.subscriber.now it.reopens
    it.serves c.loop-source.subscriber (c.read_piece.ensures.none c.in_default.is).1 (c.loop-source.invariant.7 honest))

pub returns-then-count-eq0-clause-crash : goal.returns-then-count-eq0-clause-crash
returns-then-count-eq0-clause-crash g c honest =
    let it = g.C.ReplicaStore in
    let unread = g.R.Read.remaining c.args.source.now.reader in
    let rest = g.R.Read.remaining c.read_piece.new.self.reader in
    subst (λ (z : ℤ). LeavesOldOr it.place it.reopens it.serves
    (FedOver (λ s. PumpsUntil it.holds it.place z unread rest c.args.subscriber.now s fault.Memory)) c.args.subscriber.now.applied.store
    c.loop-source.subscriber.applied.store) (to_z-of_z w64 c.args.now c.ranges.now)
    (leaves_end it.holds it.place _ unread (g.R.Read.remaining c.loop-source.source.reader) rest c.args.subscriber.now it.reopens it.serves
    c.loop-source.subscriber
    (subst (λ (n : ℕ). Consumes (g.R.Read.remaining c.loop-source.source.reader) rest (take n c.read_piece.new.room)) c.if-count-eq0.true
    c.in-Some.ensures.some.1) (c.loop-source.invariant.7 honest))

pub returns-clause-crash : goal.returns-clause-crash
returns-clause-crash g c honest =
    let it = g.C.ReplicaStore in
    let unread = g.R.Read.remaining c.args.source.now.reader in
    let rest = g.R.Read.remaining c.loop-source.source.reader in
    subst (λ (z : ℤ). LeavesOldOr it.place it.reopens it.serves
    (FedOver (λ s. PumpsUntil it.holds it.place z unread rest c.args.subscriber.now s fault.Memory)) c.args.subscriber.now.applied.store
    c.loop-source.subscriber.applied.store) (to_z-of_z w64 c.args.now c.ranges.now)
    (c.loop-source.invariant.7 honest)

pub returns-in_err-feed-clause-stands : goal.returns-in_err-feed-clause-stands
returns-in_err-feed-clause-stands g c honest serves unclosed =
    let it = g.C.ReplicaStore in
    let read = c.in-Some.ensures.some in
    let room = c.read_piece.new.room in
    let is = taken_piece room c.in-Some.count read.0 (c.read_piece.ensures.length ∙ c.loop-source.invariant.1) c.if-count-eq0.false in
    let unread = g.R.Read.remaining c.args.source.now.reader in
    let rest = g.R.Read.remaining c.read_piece.new.self.reader in
    let own = c.loop-source.invariant.6 (c.feed.ensures.honest honest) serves in
    on_residual c.from_residual.result c.in_err-feed.field-0.0 _ c.from_residual.ensures.1 (λ other.
    subst (λ (z : ℤ). StandsAsFed it.place (λ s. PumpsUntil it.holds it.place z unread rest c.args.subscriber.now s fault.Memory)
    c.feed.new.self) (to_z-of_z w64 c.args.now c.ranges.now)
    (read_stands it.holds it.place _ unread (g.R.Read.remaining c.loop-source.source.reader) rest c.args.subscriber.now it.reopens it.serves
    c.feed.new.self c.args.source.now.reads c.loop-source.source.reads c.loop-source.subscriber
    (take c.in-Some.count room) (c.loop-source.invariant.2 own) read.1 is fault.Memory
    (c.in_err-feed.ensures.stands honest own (c.loop-source.invariant.3 ∙ unclosed))))

pub returns-in_err-feed-clause-why : goal.returns-in_err-feed-clause-why
returns-in_err-feed-clause-why g c honest serves unclosed =
    let it = g.C.ReplicaStore in
    let read = c.in-Some.ensures.some in
    let room = c.read_piece.new.room in
    let is = taken_piece room c.in-Some.count read.0 (c.read_piece.ensures.length ∙ c.loop-source.invariant.1) c.if-count-eq0.false in
    let unread = g.R.Read.remaining c.args.source.now.reader in
    let rest = g.R.Read.remaining c.read_piece.new.self.reader in
    let own = c.loop-source.invariant.6 (c.feed.ensures.honest honest) serves in
    on_residual c.from_residual.result c.in_err-feed.field-0.0 _ c.from_residual.ensures.1 (λ other.
    subst (λ (z : ℤ). StandsAsFed it.place (λ s. PumpsUntil it.holds it.place z unread rest c.args.subscriber.now s c.in_err-feed.field-0.0)
    c.feed.new.self) (to_z-of_z w64 c.args.now c.ranges.now)
    (read_stands it.holds it.place _ unread (g.R.Read.remaining c.loop-source.source.reader) rest c.args.subscriber.now it.reopens it.serves
    c.feed.new.self c.args.source.now.reads c.loop-source.source.reads c.loop-source.subscriber
    (take c.in-Some.count room) (c.loop-source.invariant.2 own) read.1 is c.in_err-feed.field-0.0
    (c.in_err-feed.ensures.why honest own (c.loop-source.invariant.3 ∙ unclosed))))

pub returns-in_err-feed-clause-counts_refused : goal.returns-in_err-feed-clause-counts_refused
returns-in_err-feed-clause-counts_refused g c serves unclosed =
    let it = g.C.ReplicaStore in
    let f = c.in_err-feed.field-0.0 in
    let read = c.in-Some.ensures.some in
    let room = c.read_piece.new.room in
    let is = taken_piece room c.in-Some.count read.0 (c.read_piece.ensures.length ∙ c.loop-source.invariant.1) c.if-count-eq0.false in
    let unread = g.R.Read.remaining c.args.source.now.reader in
    let rest = g.R.Read.remaining c.read_piece.new.self.reader in
    on_residual c.from_residual.result f _ c.from_residual.ensures.1
    (λ other. subst (λ (z : ℤ). PumpsCountedUntil it.holds it.place it.tally z unread rest c.args.subscriber.now c.feed.new.self f)
    (to_z-of_z w64 c.args.now c.ranges.now)
    (counts_until it.holds it.place it.tally _ unread (g.R.Read.remaining c.loop-source.source.reader) rest c.args.source.now.reads
    c.loop-source.source.reads c.args.subscriber.now c.loop-source.subscriber c.feed.new.self
    (take c.in-Some.count room) f (c.loop-source.invariant.8 (c.feed.ensures.served serves)) read.1 is
    (c.in_err-feed.ensures.refused serves) (c.in_err-feed.ensures.counts_refused serves (c.loop-source.invariant.3 ∙ unclosed))))

pub returns-then-count-eq0-clause-fed : goal.returns-then-count-eq0-clause-fed
returns-then-count-eq0-clause-fed g c serves =
    let it = g.C.ReplicaStore in
    let unread = g.R.Read.remaining c.args.source.now.reader in
    let rest = g.R.Read.remaining c.read_piece.new.self.reader in
    subst (λ (n : ℕ). Pumps it.holds it.place c.args.now unread rest c.args.source.now.reads n c.args.subscriber.now
    c.loop-source.subscriber) (sym c.read_piece.ensures.reads)
    (subst (λ (z : ℤ). Pumps it.holds it.place z unread rest c.args.source.now.reads c.loop-source.source.reads c.args.subscriber.now
    c.loop-source.subscriber) (to_z-of_z w64 c.args.now c.ranges.now)
    (pumps_end it.holds it.place _ unread (g.R.Read.remaining c.loop-source.source.reader) rest c.args.source.now.reads
    c.loop-source.source.reads c.args.subscriber.now c.loop-source.subscriber (c.loop-source.invariant.2 serves)
    (subst (λ (n : ℕ). Consumes (g.R.Read.remaining c.loop-source.source.reader) rest (take n c.read_piece.new.room)) c.if-count-eq0.true
    c.in-Some.ensures.some.1)))

pub returns-then-count-eq0-clause-counts : goal.returns-then-count-eq0-clause-counts
returns-then-count-eq0-clause-counts g c serves =
    let it = g.C.ReplicaStore in
    let unread = g.R.Read.remaining c.args.source.now.reader in
    let rest = g.R.Read.remaining c.read_piece.new.self.reader in
    subst (λ (n : ℕ). PumpsCounted it.holds it.place it.tally c.args.now unread rest c.args.source.now.reads n c.args.subscriber.now
    c.loop-source.subscriber) (sym c.read_piece.ensures.reads)
    (subst (λ (z : ℤ). PumpsCounted it.holds it.place it.tally z unread rest c.args.source.now.reads c.loop-source.source.reads
    c.args.subscriber.now c.loop-source.subscriber) (to_z-of_z w64 c.args.now c.ranges.now)
    (counts_end it.holds it.place it.tally _ unread (g.R.Read.remaining c.loop-source.source.reader) rest c.args.source.now.reads
    c.loop-source.source.reads c.args.subscriber.now c.loop-source.subscriber (c.loop-source.invariant.8 serves)
    (subst (λ (n : ℕ). Consumes (g.R.Read.remaining c.loop-source.source.reader) rest (take n c.read_piece.new.room)) c.if-count-eq0.true
    c.in-Some.ensures.some.1)))
