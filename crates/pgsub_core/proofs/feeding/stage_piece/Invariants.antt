use Rattle.std.proofs.Common.{◌≡◌, ◌<◌, ◌+◌, ◌-◌, length}
use Rattle.pgsub_core.specs.Machine.Opened.{AreOpened}
use Rattle.pgsub_core.specs.Machine.Counted.{IsCountedTo}
use Rattle.pgsub_core.specs.Calls.Staging.{Rests}
use Rattle.pgsub_core.proofs.Marks.{Head}
use Rattle.pgsub_core.specs.Calls.Framing.{IsFedTo, FeedStops}
use Rattle.pgsub_core.proofs.feeding.stage_piece.Given as goal

abbrev pub invariant-loop-applier : goal.invariant-loop-applier
invariant-loop-applier g l =
    AreOpened l.applier.order l.applier.held
    × (0 < length l.piece → 0 < l.taken)
    × IsFedTo g.C.ReplicaStore.stages g.C.ReplicaStore.reach l.now g.C.ReplicaStore.serves l.fn.deframer l.fn.applier l.piece l.deframer
    l.applier l.taken
    × (g.C.ReplicaStore.serves l.applier.store → g.C.ReplicaStore.serves l.fn.applier.store)
    × (g.C.ReplicaStore.is_honest l.applier.store → g.C.ReplicaStore.is_honest l.fn.applier.store)
    × (g.C.ReplicaStore.is_honest l.applier.store → g.C.ReplicaStore.serves l.fn.applier.store → g.C.ReplicaStore.serves l.applier.store)
    × Rests g.C.ReplicaStore.holds g.C.ReplicaStore.place g.C.ReplicaStore.reopens g.C.ReplicaStore.serves g.C.ReplicaStore.is_honest
    l.fn.applier.store l.applier.store
    × Head g.C.ReplicaStore.holds g.C.ReplicaStore.place g.C.ReplicaStore.reopens g.C.ReplicaStore.serves g.C.ReplicaStore.is_honest
    g.C.ReplicaStore.stages g.C.ReplicaStore.reach
    (FeedStops g.C.ReplicaStore.stages g.C.ReplicaStore.reach l.now l.fn.deframer l.fn.applier l.piece) l.fn.applier.store l.mark.confirmed
    l.mark.received l.mark.replies l.applier
    × IsCountedTo g.C.ReplicaStore.stages g.C.ReplicaStore.reach g.C.ReplicaStore.stages_tally l.now g.C.ReplicaStore.serves l.fn.deframer
    l.fn.applier l.piece l.deframer l.applier l.taken
    × (g.C.ReplicaStore.tally l.applier.store ≡ g.C.ReplicaStore.tally l.fn.applier.store)

abbrev pub decreases-loop-applier : goal.decreases-loop-applier
decreases-loop-applier g l = length l.deframer.held + (length l.piece - l.taken)
