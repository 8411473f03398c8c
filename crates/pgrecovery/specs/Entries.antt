-- Part of the statement. PostgreSQL documentation, Logical Replication Message Formats, Begin,
-- Commit and Stream Commit: the entries that a ledger gets in a run are the transactions of the
-- history, one by one.
use Rattle.std.specs.Prelude.{◌≡◌, ◌<◌, ◌≤◌, ◌++◌, ℕ, List, Bool, Ok}
use Rattle.std.specs.List.{AllByRecursion}
use Rattle.pgapply.specs.Tallies.{Tally, nothing_taken}
use Rattle.pgapply.specs.Value.{Tables}
use Rattle.pgledger.specs.Entries.{Entry, LeadTo}
use Rattle.pgledger.specs.Records.{RecordsSince, TellTo, tally_since}
use Rattle.pgsub_core.specs.Server.History.{Transaction, IsHistory, tables_as_of}
use Rattle.pgsub_core.specs.Subscriber.Tallied.{ended_between, history_tallied, taken_of}

module _ {L : Type 0} (begins : L → ℕ) (keeps : L → List Entry → Type 0) (outlasts : L → ℕ → Type 0) (is_stuck : L → Bool) where
  -- From some tables where the ledger begins its entries lead to the LSN at which a run began.
  -- Those behind it tell the history's transactions up to this LSN that change rows: each with its
  -- end and final LSN, its xid and time, and the images of its surviving changes. The others end
  -- later.
  pub record TellsHistory (l : L) (history : List Transaction) (from place : ℕ) (tables : Tables) : Type 0 where
    pub base : Tables
    pub before : List Entry
    pub since : List Entry
    pub later : List Entry
    pub kept : keeps l (before ++ since ++ later)
    pub mid : Tables
    pub leads : LeadTo base (begins l) before mid from
    pub tells : TellTo mid from since (taken_of (ended_between from place history)) tables place
    pub above : AllByRecursion (λ (e : Entry). place < e.end) later

  -- Let a store that had taken nothing hold a history's rows at the position where the run began,
  -- and at the one where it is, and let its tally be the history's between them, as `CountsHistory`
  -- says. Then what is said of the entries since the run began (`RecordsSince`) is said of
  -- transactions.
  abbrev pub EntriesAreTransactions : Type 0
  EntriesAreTransactions =
      (history : List Transaction) (l : L) (begun since place reach : ℕ) (tally : Tally) (were tables : Tables) → IsHistory history
      → begun ≤ place → tables_as_of history begun ≡ Ok were → tables_as_of history place ≡ Ok tables
      → tally_since since tally ≡ history_tallied history begun place (tally_since begun nothing_taken)
      → RecordsSince begins keeps outlasts is_stuck l since tally.commits tables place reach
      → TellsHistory l history begun place tables
