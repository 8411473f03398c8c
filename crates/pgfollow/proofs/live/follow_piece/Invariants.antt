use Rattle.std.proofs.Common.{◌-◌, ◌≤◌, ◌≡◌, false, length, take}
use Rattle.pgfollow.specs.Live.{FollowsPiece}
use Rattle.pgfollow.proofs.live.follow_piece.Given as goal

abbrev pub invariant-loop-taken : goal.invariant-loop-taken
invariant-loop-taken g l =
    (l.taken ≤ length l.piece) × (l.link.write_failed ≡ false) × (l.subscriber.framing.closed ≡ false)
    × (l.link.reader ≡ l.fn.link.reader) × (l.link.read_failed ≡ l.fn.link.read_failed) × (l.link.reads ≡ l.fn.link.reads)
    × (g.C.ReplicaStore.is_honest l.subscriber.applied.store → g.C.ReplicaStore.is_honest l.fn.subscriber.applied.store)
    × (g.C.ReplicaStore.is_honest l.subscriber.applied.store → g.C.ReplicaStore.serves l.fn.subscriber.applied.store
    → g.C.ReplicaStore.serves l.subscriber.applied.store)
    × (g.C.ReplicaStore.is_honest l.subscriber.applied.store → g.C.ReplicaStore.serves l.fn.subscriber.applied.store
    → FollowsPiece g.C.ReplicaStore.holds g.C.ReplicaStore.place g.C.ReplicaStore.reopens g.C.ReplicaStore.serves g.C.ReplicaStore.tally
    (g.W.Write.contents l.fn.link.writer) (g.W.Write.contents l.link.writer) (take l.taken l.piece) l.fn.subscriber l.subscriber)

abbrev pub decreases-loop-taken : goal.decreases-loop-taken
decreases-loop-taken g l = length l.piece - l.taken
