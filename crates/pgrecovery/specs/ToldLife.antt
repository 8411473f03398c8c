-- Part of the statement. PostgreSQL documentation, Logical Replication Message Formats, Begin,
-- Commit and Stream Commit: one life of a store in two files with a feed in a folder, and which
-- transactions of the history the entries of its feed are.
use Rattle.std.specs.Prelude.{◌≡◌, ◌<◌, ◌++◌, ℕ, List, [], ◌∷◌, Bool, Ok, max, ⊤}
use Rattle.std.specs.List.{AllByRecursion}
use Rattle.sqlite_disk.specs.declared.Disk as disk
use Rattle.sqlite.specs.Files.{over_files}
use Rattle.sqlite.specs.Recovery.{Image}
use Rattle.pgapply.specs.Tallies.{Tally, nothing_taken}
use Rattle.pgapply.specs.Value.{Tables}
use Rattle.pgledger.specs.Entries.{Entry, LeadTo}
use Rattle.pgledger.specs.Records.{RecordsSince, TellTo, tally_since}
use Rattle.pgfeed.specs.declared.feed.Feed.{Feed}
use Rattle.pgfeed.specs.Beside.{KeepsRest, LastsFrom, is_stuck_feed, told_from}
use Rattle.pgfeed.specs.Feeds.{KeepsAll}
use Rattle.pgstore.specs.StoreValue.{Serves}
use Rattle.pgstore.specs.Reopened.{IsEmptyContent}
use Rattle.pgsub_core.specs.Server.History.{Transaction, IsHistory, tables_as_of}
use Rattle.pgsub_core.specs.Subscriber.Safe.{IsSafe}
use Rattle.pgsub_core.specs.Subscriber.Safely.{IsSent}
use Rattle.pgsub_core.specs.Subscriber.Tallied.{ended_between, history_tallied, taken_of}
use Rattle.pgrecovery.specs.Recovered.{holds_tables}
use Rattle.pgrecovery.specs.FedLife.{AreFedRuns, FedRun, FedStore, fed_newly, fed_position}

module _ {F E : Type 0} (shows : E → List ℕ) (may_leave : E → List ℕ → Type 0) (is_clean : E → Bool) (is_true : F → Type 0)
    (places : F → List ℕ) (has : F → ℕ → List ℕ → Type 0) where
  -- Behind an LSN, or behind the one at which the feed begins if that is later, the entries that it
  -- has tell the history's transactions up to this place that change rows, one by one, in their
  -- order and each once: with its end and final LSN, its xid and time, and the images of its
  -- surviving changes. They lead to the history's rows at the place. The others end later.
  pub record TellsThere (l : Feed F E) (history : List Transaction) (from place : ℕ) : Type 0 where
    pub tables : Tables
    pub same : tables_as_of history place ≡ Ok tables
    pub base : Tables
    pub mid : Tables
    pub before : List Entry
    pub since : List Entry
    pub later : List Entry
    pub kept : KeepsAll shows may_leave is_clean is_true places has l (before ++ (since ++ later))
    pub leads : LeadTo base l.begins before mid (max from l.begins)
    pub tells : TellTo mid (max from l.begins) since (taken_of (ended_between (max from l.begins) place history)) tables place
    pub above : AllByRecursion (λ (e : Entry). place < e.end) later

-- what the store has taken since its run began
abbrev pub fed_tally : {D F E : Type 0} {g : disk.Ghosts D} → FedStore g F E → Tally
fed_tally r = tally_since r.from r.store.group.tally

module _ {D F E : Type 0} (g : disk.Ghosts D) (shows : E → List ℕ) (may_leave : E → List ℕ → Type 0) (is_clean : E → Bool)
    (is_true : F → Type 0) (places : F → List ℕ) (has : F → ℕ → List ℕ → Type 0) (supposed : Type 0) where
  -- The store holds these tables. Where that is so which is supposed of the folder, the entries of
  -- its feed lead to them, and those since the run began tell the commits that the store took
  -- (`pgledger::Recorded`).
  abbrev pub holds_told : FedStore g F E → Tables → Type 0
  holds_told r tables =
      holds_tables over_files r.store tables
      × (supposed
      → RecordsSince told_from (KeepsRest shows may_leave is_clean is_true places has)
      (LastsFrom shows may_leave is_clean is_true places has) is_stuck_feed r.ledger r.from r.store.group.tally.commits tables
      r.store.position r.store.group.reach)

  -- What else the contracts say of a run. As it began, the store had taken nothing, and the feed
  -- came to it (`Recorded::new`). While the store serves at its end, it holds the history's rows,
  -- and the history's transactions have come to its tally (`safe` and `tally` of `follow`; of a
  -- live run `at_end` and the last clause of `FollowsLive`).
  pub record IsToldRun (history : List Transaction) (r : FedRun g F E) : Type 0 where
    pub from : r.begun.from ≡ fed_position r.begun
    pub untaken : r.begun.store.group.tally ≡ nothing_taken
    pub safe : Serves over_files r.ended.store → (tables : Tables) → holds_told r.begun tables
        → IsSent history (fed_newly r tables) r.sessions r.all_complete
        → (tables' : Tables) × holds_told r.ended tables' × IsSafe history tables' (fed_position r.ended) r.confirmed
    pub tallied : Serves over_files r.ended.store → (tables : Tables) → holds_told r.begun tables
        → IsSent history (fed_newly r tables) r.sessions r.all_complete
        → fed_tally r.ended ≡ history_tallied history (fed_position r.begun) (fed_position r.ended) (fed_tally r.begun)

  -- So it is in each run, where that is so which is supposed of the folder: as it ends, if the
  -- store serves, behind where the run began; and as the next one begins at the position at which
  -- it ended, closed or crashed in between, behind the same LSN.
  abbrev pub TellThrough : List Transaction → Type 0 → ℕ → ℕ → List (FedRun g F E) → Type 0
  TellThrough history served from position [] = ⊤
  TellThrough history served from position (r ∷ runs) =
      (served → fed_position r.begun ≡ position → supposed
      → TellsThere shows may_leave is_clean is_true places has r.begun.ledger history from position)
      × (Serves over_files r.ended.store → supposed
      → TellsThere shows may_leave is_clean is_true places has r.ended.ledger history (fed_position r.begun) (fed_position r.ended))
      × TellThrough history (Serves over_files r.ended.store) (fed_position r.begun) (fed_position r.ended) runs

  -- Of any list of such runs of one history, the first over files without a store and a folder
  -- without segments.
  abbrev pub OneToldLife : Type 0
  OneToldLife =
      (history : List Transaction) (content : Image) (runs : List (FedRun g F E)) → IsHistory history → IsEmptyContent content
      → AreFedRuns g shows may_leave is_clean is_true places has supposed history content (λ p folder. places folder ≡ []) 0 runs
      → AllByRecursion (IsToldRun history) runs
      → ∥ TellThrough history ⊤ 0 0 runs ∥₁
