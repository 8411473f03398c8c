-- Part of the statement. PostgreSQL documentation, Logical Decoding Concepts: a server's history,
-- the transactions in commit order, and the rows that it gives.
use Rattle.std.specs.Prelude.{◌<◌, ◌≤◌, ◌≢◌, ℕ, ℤ, List, [], ◌∷◌, nat_le, nat_lt, Result}
use Rattle.std.specs.List.{flat_map, filter}
use Rattle.std.specs.FinMap as map
use Rattle.pgapply.specs.declared.fault.StoreFault.{StoreFault}
use Rattle.pgapply.specs.Value.{Tables}
use Rattle.pgapply.specs.Apply.{Change, fold_changes}
use Rattle.pgsub_core.specs.Server.Work.{Work, IsWork, surviving_changes, xids_of, AllDiffer}

-- a transaction: lsn is that of its commit record, end the place behind that record, time when it
-- was committed, in microseconds since 2000-01-01
pub record Transaction : Type 0 where
  pub xid : ℕ
  pub work : Work
  pub lsn : ℕ
  pub end : ℕ
  pub time : ℤ

-- Commits stand one behind the other, from this LSN on.
abbrev pub IsHistoryFrom : ℕ → List Transaction → Type 0
IsHistoryFrom from [] = Unit {0}
IsHistoryFrom from (t ∷ ts) = (from ≤ t.lsn) × (t.lsn < t.end) × IsWork t.work × AllDiffer (t.xid ∷ xids_of t.work) × IsHistoryFrom t.end ts

abbrev pub IsHistory : List Transaction → Type 0
IsHistory ts = IsHistoryFrom 0 ts

abbrev pub all_changes : List Transaction → List Change
all_changes ts = flat_map (λ (t : Transaction). surviving_changes t.work) ts

abbrev pub ended_by : ℕ → List Transaction → List Transaction
ended_by p ts = filter (λ (t : Transaction). nat_le t.end p) ts

abbrev pub ended_after : ℕ → List Transaction → List Transaction
ended_after p ts = filter (λ (t : Transaction). nat_lt p t.end) ts

-- the rows after all transactions that end by p
unfoldable pub tables_as_of : List Transaction → ℕ → Result Tables StoreFault
tables_as_of ts p = fold_changes map.empty (all_changes (ended_by p ts))

abbrev pub ChangesRows : Transaction → Type 0
ChangesRows t = surviving_changes t.work ≢ []
