use Rattle.std.proofs.Common.{◌≡◌, ◌-◌, ℕ, List, []}
use Rattle.std.specs.Io.KnownBytes.{Consumes}
use Rattle.pgwire.specs.Deframed.{fresh}
use Rattle.pgload.specs.Inputs.{HasRead}
use Rattle.pgload.proofs.reading.read_frames.Given as goal

abbrev pub invariant-loop-count : goal.invariant-loop-count
invariant-loop-count g l = record {
  limits : l.load.limits ≡ l.fn.load.limits;
  honest : g.C.ReplicaStore.is_honest l.load.store → g.C.ReplicaStore.is_honest l.fn.load.store;
  read : HasRead g.C.ReplicaStore.holds g.C.ReplicaStore.place g.C.ReplicaStore.reopens g.C.ReplicaStore.serves g.C.ReplicaStore.is_honest
      l.fn.load.limits.max_line [] (fresh l.max_frame) l.fn.load.store l.fn.load.table l.fn.load.closed
      → (bytes : List ℕ) × Consumes (g.R.Read.remaining l.fn.reader) (g.R.Read.remaining l.reader) bytes
      × HasRead g.C.ReplicaStore.holds g.C.ReplicaStore.place g.C.ReplicaStore.reopens g.C.ReplicaStore.serves g.C.ReplicaStore.is_honest
      l.fn.load.limits.max_line bytes (fresh l.max_frame) l.load.store l.load.table l.load.closed;
}

abbrev pub decreases-loop-count : goal.decreases-loop-count
decreases-loop-count g l = 18446744073709551615 - l.count
