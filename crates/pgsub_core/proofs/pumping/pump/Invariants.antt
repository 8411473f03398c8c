use Rattle.std.proofs.Common.{◌-◌, ◌≡◌, false, length}
use Rattle.pgsub_core.specs.declared.fault.Fault.TheVariants as fault
use Rattle.pgsub_core.specs.Subscriber.Crashing.{LeavesOldOr, FedOver}
use Rattle.pgsub_core.specs.Calls.Pumping.{Pumps, PumpsUntil, PumpsCounted}
use Rattle.pgsub_core.proofs.pumping.pump.Given as goal

abbrev pub invariant-loop-source : goal.invariant-loop-source
invariant-loop-source g l =
    (l.source.failed ≡ false)
    × (length l.room ≡ 4096)
    × (g.C.ReplicaStore.serves l.subscriber.applied.store
    → Pumps g.C.ReplicaStore.holds g.C.ReplicaStore.place l.fn.now (g.R.Read.remaining l.fn.source.reader)
    (g.R.Read.remaining l.source.reader) l.fn.source.reads l.source.reads l.fn.subscriber l.subscriber)
    × (l.subscriber.framing.closed ≡ l.fn.subscriber.framing.closed)
    × (g.C.ReplicaStore.serves l.subscriber.applied.store → g.C.ReplicaStore.serves l.fn.subscriber.applied.store)
    × (g.C.ReplicaStore.is_honest l.subscriber.applied.store → g.C.ReplicaStore.is_honest l.fn.subscriber.applied.store)
    × (g.C.ReplicaStore.is_honest l.subscriber.applied.store → g.C.ReplicaStore.serves l.fn.subscriber.applied.store
    → g.C.ReplicaStore.serves l.subscriber.applied.store)
    × (g.C.ReplicaStore.is_honest l.subscriber.applied.store
    → LeavesOldOr g.C.ReplicaStore.place g.C.ReplicaStore.reopens g.C.ReplicaStore.serves
    (FedOver (λ s. PumpsUntil g.C.ReplicaStore.holds g.C.ReplicaStore.place l.fn.now (g.R.Read.remaining l.fn.source.reader)
    (g.R.Read.remaining l.source.reader) l.fn.subscriber s fault.Memory)) l.fn.subscriber.applied.store l.subscriber.applied.store)
    × (g.C.ReplicaStore.serves l.subscriber.applied.store
    → PumpsCounted g.C.ReplicaStore.holds g.C.ReplicaStore.place g.C.ReplicaStore.tally l.fn.now (g.R.Read.remaining l.fn.source.reader)
    (g.R.Read.remaining l.source.reader) l.fn.source.reads l.source.reads l.fn.subscriber l.subscriber)

abbrev pub decreases-loop-source : goal.decreases-loop-source
decreases-loop-source g l = 18446744073709551615 - l.source.reads
