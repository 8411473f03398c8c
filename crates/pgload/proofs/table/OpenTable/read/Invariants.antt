use Rattle.std.proofs.Common.{◌≤◌, ◌-◌, ℕ, List, length, take}
use Rattle.pgapply.specs.Apply.{Change}
use Rattle.pgload.specs.Loads.{TableText}
use Rattle.pgload.specs.Loading.{with_text, IsLoading}
use Rattle.pgload.proofs.table.OpenTable.read.Given as goal

abbrev pub invariant-loop-taken : goal.invariant-loop-taken
invariant-loop-taken g l = record {
  within : l.read ≤ length l.piece;
  loading : (max_line : ℕ) (before : List Change) (table : TableText)
      → IsLoading g.C.ReplicaStore.holds g.C.ReplicaStore.place g.C.ReplicaStore.reopens g.C.ReplicaStore.serves g.C.ReplicaStore.is_honest
      max_line before table l.fn.store l.fn.self
      → IsLoading g.C.ReplicaStore.holds g.C.ReplicaStore.place g.C.ReplicaStore.reopens g.C.ReplicaStore.serves g.C.ReplicaStore.is_honest
      max_line before (with_text table (take l.read l.piece)) l.store l.self;
  batch : length l.fn.self.rows ≤ l.batch → length l.self.rows ≤ l.batch;
  honest : g.C.ReplicaStore.is_honest l.store → g.C.ReplicaStore.is_honest l.fn.store;
}

abbrev pub decreases-loop-taken : goal.decreases-loop-taken
decreases-loop-taken g l = length l.piece - l.read
