use Rattle.std.proofs.Common.{Some, None, take}
use Rattle.pgsub_core.specs.Machine.Counted.{CountsSessions}
use Rattle.pgsub_core.specs.Subscriber.Subscribed.{bytes_of}
use Rattle.pgsub_core.specs.declared.fault.Fault.TheVariants as fault
use Rattle.pgsub_core.specs.Subscriber.Following.{FeedsSessions}
use Rattle.pgsub_core.specs.Subscriber.Crashing.{LeavesOldOr, FedOver}
use Rattle.pgsub_core.proofs.following.follow.Given as goal

abbrev pub invariant-loop-session : goal.invariant-loop-session
invariant-loop-session g l =
    (g.C.ReplicaStore.serves l.subscriber.applied.store
    → FeedsSessions g.C.ReplicaStore.holds g.C.ReplicaStore.place l.fn.now l.fn.subscriber (bytes_of (take l.session-index l.sessions))
    l.subscriber None)
    × (g.C.ReplicaStore.serves l.subscriber.applied.store → g.C.ReplicaStore.serves l.fn.subscriber.applied.store)
    × (g.C.ReplicaStore.is_honest l.subscriber.applied.store → g.C.ReplicaStore.is_honest l.fn.subscriber.applied.store)
    × (g.C.ReplicaStore.is_honest l.subscriber.applied.store → g.C.ReplicaStore.serves l.fn.subscriber.applied.store
    → g.C.ReplicaStore.serves l.subscriber.applied.store)
    × (g.C.ReplicaStore.is_honest l.subscriber.applied.store
    → LeavesOldOr g.C.ReplicaStore.place g.C.ReplicaStore.reopens g.C.ReplicaStore.serves
    (FedOver (λ s. FeedsSessions g.C.ReplicaStore.holds g.C.ReplicaStore.place l.fn.now l.fn.subscriber (bytes_of l.sessions) s
    (Some fault.Memory)))
    l.fn.subscriber.applied.store l.subscriber.applied.store)
    × (g.C.ReplicaStore.serves l.subscriber.applied.store
    → CountsSessions g.C.ReplicaStore.holds g.C.ReplicaStore.place g.C.ReplicaStore.tally l.fn.now l.fn.subscriber
    (bytes_of (take l.session-index l.sessions)) l.subscriber)
