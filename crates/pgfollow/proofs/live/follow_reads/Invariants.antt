use Rattle.std.proofs.Common.{◌-◌, ◌≡◌, [], false, length}
use Rattle.pgfollow.specs.Live.{LiveSteps, piece_len}
use Rattle.pgfollow.proofs.live.follow_reads.Given as goal

abbrev pub invariant-loop-link : goal.invariant-loop-link
invariant-loop-link g l =
    (l.link.read_failed ≡ false) × (l.link.write_failed ≡ false) × (length l.room ≡ piece_len) × (l.subscriber.framing.closed ≡ false)
    × (g.C.ReplicaStore.is_honest l.subscriber.applied.store → g.C.ReplicaStore.is_honest l.fn.subscriber.applied.store)
    × (g.C.ReplicaStore.is_honest l.subscriber.applied.store → g.C.ReplicaStore.serves l.fn.subscriber.applied.store
    → g.C.ReplicaStore.serves l.subscriber.applied.store)
    × (g.C.ReplicaStore.is_honest l.subscriber.applied.store → g.C.ReplicaStore.serves l.fn.subscriber.applied.store
    → LiveSteps g.C.ReplicaStore.holds g.C.ReplicaStore.place g.C.ReplicaStore.reopens g.C.ReplicaStore.serves g.C.ReplicaStore.tally
    (g.R.Read.remaining l.fn.link.reader) (g.R.Read.remaining l.link.reader) []
    (g.W.Write.contents l.fn.link.writer) (g.W.Write.contents l.link.writer) l.fn.subscriber l.subscriber)

abbrev pub decreases-loop-link : goal.decreases-loop-link
decreases-loop-link g l = 18446744073709551615 - l.link.reads
