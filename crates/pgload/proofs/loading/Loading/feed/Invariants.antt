use Rattle.std.proofs.Common.{◌≡◌, ◌≤◌, ◌++◌, ◌+◌, ◌-◌, ℕ, List, length, take}
use Rattle.pgload.specs.Loading.{IsBounded}
use Rattle.pgload.specs.Inputs.{HasRead}
use Rattle.pgload.proofs.loading.Loading.feed.Given as goal

abbrev pub invariant-frames : goal.invariant-frames
invariant-frames g l = record {
  within : l.taken ≤ length l.piece;
  read : (bytes : List ℕ)
      → HasRead g.C.ReplicaStore.holds g.C.ReplicaStore.place g.C.ReplicaStore.reopens g.C.ReplicaStore.serves g.C.ReplicaStore.is_honest
      l.fn.self.load.limits.max_line bytes l.fn.self.deframer l.fn.self.load.store l.fn.self.load.table l.fn.self.load.closed
      → HasRead g.C.ReplicaStore.holds g.C.ReplicaStore.place g.C.ReplicaStore.reopens g.C.ReplicaStore.serves g.C.ReplicaStore.is_honest
      l.fn.self.load.limits.max_line (bytes ++ take l.taken l.piece) l.self.deframer l.self.load.store l.self.load.table
      l.self.load.closed;
  bounded : IsBounded l.fn.self.load.limits.batch l.fn.self.load.table → IsBounded l.fn.self.load.limits.batch l.self.load.table;
  limits : l.self.load.limits ≡ l.fn.self.load.limits;
  max_frame : l.self.deframer.max ≡ l.fn.self.deframer.max;
}

abbrev pub decreases-frames : goal.decreases-frames
decreases-frames g l = length l.self.deframer.held + (length l.piece - l.taken)
