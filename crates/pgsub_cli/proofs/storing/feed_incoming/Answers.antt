use Rattle.std.proofs.Common.{◌≡◌, List, Some, sym, subst}
use Rattle.pgsub_core.specs.declared.fault.Fault.TheVariants as fault
use Rattle.pgwire.specs.declared.session.Session.{Session}
use Rattle.pgsub_core.specs.Subscriber.Crashing.{FedOver, LeavesHistory, LeavesOldOr}
use Rattle.pgsub_core.specs.Subscriber.Following.{FeedsSessions}
use Rattle.pgsub_core.specs.Subscriber.Handled.{fault_in}
use Rattle.pgsub_core.specs.Subscriber.Subscribed.{bytes_of}
use Rattle.pgsub_cli.specs.declared.storing.Incoming.{Incoming}
use Rattle.pgsub_cli.specs.declared.storing.Incoming.TheVariants.{Sessions}
use Rattle.pgsub_cli.specs.Limits.{clock}
use Rattle.pgsub_cli.specs.StoreAfter.{FeedsIncoming, StandsFed, LeavesFronts}
use Rattle.pgsub_cli.specs.StoreAfter.{LeavesIncomingHistory}
use Rattle.pgsub_cli.proofs.LeftStores.{file_leaves, stands_as}
use Rattle.pgsub_cli.proofs.storing.feed_incoming.Goals as goal

-- what is said of the sessions of a recording
of_recording : {R : Type 0} (P : List Session → Type 0) (Q : Incoming R → Type 0) (incoming : Incoming R) (sessions : _)
    (given : List Session) → incoming ≡ Sessions sessions → given ≡ sessions.items
    → (P sessions.items → Q (Sessions sessions)) → P given → Q incoming
of_recording P Q incoming sessions given is same said h = subst Q (sym is) (said (subst P same h))

pub returns-in-Sessions-clause-fed : goal.returns-in-Sessions-clause-fed
returns-in-Sessions-clause-fed g c serves =
    of_recording (λ ss. FeedsSessions g.C.ReplicaStore.holds g.C.ReplicaStore.place clock c.args.subscriber.now (bytes_of ss)
    c.follow.new.subscriber (fault_in c.follow.result))
    (λ i. FeedsIncoming g.R.Input.gives g.R.Input.begins g.R.Input.failed g.C.ReplicaStore.holds g.C.ReplicaStore.place i
    c.args.subscriber.now c.follow.new.subscriber (fault_in c.follow.result)) c.args.incoming c.in-Sessions.sessions
    c.as_slice.result.now c.in-Sessions.is c.as_slice.ensures.value (λ h. h)
    (c.follow.ensures.fed serves)

pub returns-in-Sessions-clause-stands : goal.returns-in-Sessions-clause-stands
returns-in-Sessions-clause-stands g c honest serves =
    of_recording (λ ss. StandsFed g.C.ReplicaStore.place
    (FeedsSessions g.C.ReplicaStore.holds g.C.ReplicaStore.place clock c.args.subscriber.now (bytes_of ss)) c.follow.new.subscriber)
    (λ i. StandsFed g.C.ReplicaStore.place
    (FeedsIncoming g.R.Input.gives g.R.Input.begins g.R.Input.failed g.C.ReplicaStore.holds g.C.ReplicaStore.place i
    c.args.subscriber.now) c.follow.new.subscriber) c.args.incoming c.in-Sessions.sessions c.as_slice.result.now c.in-Sessions.is
    c.as_slice.ensures.value (λ h. h) (
      fault_in c.follow.result,
      stands_as g.C.ReplicaStore.place g.C.ReplicaStore.serves
          (FeedsSessions g.C.ReplicaStore.holds g.C.ReplicaStore.place clock c.args.subscriber.now (bytes_of c.as_slice.result.now))
          c.follow.new.subscriber c.follow.result (c.follow.ensures.still_serves honest serves) c.follow.ensures.fed
          (c.follow.ensures.stopped honest serves),
    )

pub returns-in-Sessions-clause-left : goal.returns-in-Sessions-clause-left
returns-in-Sessions-clause-left g c honest =
    of_recording (λ ss. LeavesOldOr g.C.ReplicaStore.place g.C.ReplicaStore.reopens g.C.ReplicaStore.serves
    (FedOver (λ s. FeedsSessions g.C.ReplicaStore.holds g.C.ReplicaStore.place clock c.args.subscriber.now (bytes_of ss) s
    (Some fault.Memory))) c.args.subscriber.now.applied.store c.follow.new.subscriber.applied.store)
    (λ i. LeavesFronts g.R.Input.gives g.R.Input.begins g.R.Input.failed g.C.ReplicaStore.holds g.C.ReplicaStore.place
    g.C.ReplicaStore.reopens g.C.ReplicaStore.serves i c.args.subscriber.now c.args.subscriber.now.applied.store
    c.follow.new.subscriber.applied.store) c.args.incoming c.in-Sessions.sessions c.as_slice.result.now c.in-Sessions.is
    c.as_slice.ensures.value (λ h. h)
    (c.follow.ensures.left honest)

pub returns-in-Sessions-clause-crash : goal.returns-in-Sessions-clause-crash
returns-in-Sessions-clause-crash g c honest serves =
    of_recording (λ ss. LeavesHistory g.C.ReplicaStore.holds g.C.ReplicaStore.place g.C.ReplicaStore.reopens c.args.subscriber.now
    (bytes_of ss) c.follow.new.subscriber)
    (λ i. LeavesIncomingHistory g.R.Input.gives g.R.Input.begins g.R.Input.failed g.C.ReplicaStore.holds g.C.ReplicaStore.place
    g.C.ReplicaStore.reopens i c.args.subscriber.now c.follow.new.subscriber) c.args.incoming c.in-Sessions.sessions
    c.as_slice.result.now c.in-Sessions.is c.as_slice.ensures.value (λ h. h)
    (c.follow.ensures.crash honest serves)

pub returns-in-Raw-clause-fed : goal.returns-in-Raw-clause-fed
returns-in-Raw-clause-fed g c serves =
    subst (λ (i : Incoming g.row.R.Denot).
    FeedsIncoming g.R.Input.gives g.R.Input.begins g.R.Input.failed g.C.ReplicaStore.holds g.C.ReplicaStore.place i
    c.args.subscriber.now c.feed_to.new.subscriber (fault_in c.feed_to.result)) (sym c.in-Raw.is)
    (c.feed_to.ensures.fed serves)

pub returns-in-Raw-clause-stands : goal.returns-in-Raw-clause-stands
returns-in-Raw-clause-stands g c honest serves =
    subst (λ (i : Incoming g.row.R.Denot).
    StandsFed g.C.ReplicaStore.place
    (FeedsIncoming g.R.Input.gives g.R.Input.begins g.R.Input.failed g.C.ReplicaStore.holds g.C.ReplicaStore.place i
    c.args.subscriber.now) c.feed_to.new.subscriber) (sym c.in-Raw.is)
    (c.feed_to.ensures.stands honest serves)

pub returns-in-Raw-clause-left : goal.returns-in-Raw-clause-left
returns-in-Raw-clause-left g c honest =
    subst (λ (i : Incoming g.row.R.Denot).
    LeavesFronts g.R.Input.gives g.R.Input.begins g.R.Input.failed g.C.ReplicaStore.holds g.C.ReplicaStore.place
    g.C.ReplicaStore.reopens g.C.ReplicaStore.serves i c.args.subscriber.now c.args.subscriber.now.applied.store
    c.feed_to.new.subscriber.applied.store) (sym c.in-Raw.is)
    (c.feed_to.ensures.left honest)

pub returns-in-Raw-clause-crash : goal.returns-in-Raw-clause-crash
returns-in-Raw-clause-crash g c honest serves =
    subst (λ (i : Incoming g.row.R.Denot).
    LeavesIncomingHistory g.R.Input.gives g.R.Input.begins g.R.Input.failed g.C.ReplicaStore.holds g.C.ReplicaStore.place
    g.C.ReplicaStore.reopens i c.args.subscriber.now c.feed_to.new.subscriber) (sym c.in-Raw.is)
    (file_leaves g.R.Input.gives g.R.Input.begins g.R.Input.failed g.C.ReplicaStore.holds g.C.ReplicaStore.place c.in-Raw.file
    g.C.ReplicaStore.reopens g.C.ReplicaStore.serves c.args.subscriber.now c.feed_to.new.subscriber (c.feed_to.ensures.left honest)
    (c.position-start.ensures.contains serves) (c.feed_to.ensures.stands honest serves))
