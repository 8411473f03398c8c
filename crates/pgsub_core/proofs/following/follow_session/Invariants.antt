use Rattle.std.proofs.Common.{◌≡◌, ℕ, List, false, take}
use Rattle.std.specs.List.{flat_map}
use Rattle.pgsub_core.specs.Machine.Counted.{CountsSession}
use Rattle.pgsub_core.specs.declared.fault.Fault.TheVariants as fault
use Rattle.pgsub_core.specs.Subscriber.Subscribed.{session_bytes}
use Rattle.pgsub_core.specs.Subscriber.Following.{FeedsSession, FeedsSessionUntil}
use Rattle.pgsub_core.specs.Subscriber.Crashing.{LeavesOldOr, FedOver}
use Rattle.pgsub_core.proofs.following.follow_session.Given as goal

abbrev pub invariant-loop-piece : goal.invariant-loop-piece
invariant-loop-piece g l =
    (g.C.ReplicaStore.serves l.subscriber.applied.store
    → FeedsSession g.C.ReplicaStore.holds g.C.ReplicaStore.place l.fn.now l.fn.subscriber
    (flat_map (λ (piece : List ℕ). piece) (take l.piece-index l.session.pieces)) l.subscriber)
    × (g.C.ReplicaStore.serves l.subscriber.applied.store → g.C.ReplicaStore.serves l.fn.subscriber.applied.store)
    × (l.subscriber.framing.closed ≡ false)
    × (g.C.ReplicaStore.is_honest l.subscriber.applied.store → g.C.ReplicaStore.is_honest l.fn.subscriber.applied.store)
    × (g.C.ReplicaStore.is_honest l.subscriber.applied.store → g.C.ReplicaStore.serves l.fn.subscriber.applied.store
    → g.C.ReplicaStore.serves l.subscriber.applied.store)
    × (g.C.ReplicaStore.is_honest l.subscriber.applied.store
    → LeavesOldOr g.C.ReplicaStore.place g.C.ReplicaStore.reopens g.C.ReplicaStore.serves
    (FedOver (λ s. FeedsSessionUntil g.C.ReplicaStore.holds g.C.ReplicaStore.place l.fn.now l.fn.subscriber (session_bytes l.session) s
    fault.Memory))
    l.fn.subscriber.applied.store l.subscriber.applied.store)
    × (g.C.ReplicaStore.serves l.subscriber.applied.store
    → CountsSession g.C.ReplicaStore.holds g.C.ReplicaStore.place g.C.ReplicaStore.tally l.fn.now l.fn.subscriber
    (flat_map (λ (piece : List ℕ). piece) (take l.piece-index l.session.pieces)) l.subscriber)
