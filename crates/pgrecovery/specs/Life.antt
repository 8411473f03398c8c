-- Part of the statement. PostgreSQL documentation, Logical Replication, Subscription; SQLite
-- documentation, WAL-mode File Format, Recovery: one life of a store in two files. Runs follow each
-- other, each over what the one before left, closed or crashed.
use Rattle.std.specs.Prelude.{◌≡◌, ◌≤◌, ◌⊎◌, ℕ, ℤ, List, [], ◌∷◌, Ok, Option, max, ⊤}
use Rattle.sqlite_disk.specs.declared.Disk as disk
use Rattle.sqlite_disk.specs.declared.Files.{Files}
use Rattle.sqlite_store.specs.declared.store.FileStore.{FileStore}
use Rattle.sqlite.specs.Files.{over_files}
use Rattle.sqlite.specs.Recovery.{Image}
use Rattle.sqlite.specs.WalFiles.{outcomes}
use Rattle.pgorder.specs.declared.Version.{Version}
use Rattle.pgapply.specs.Value.{Tables}
use Rattle.pgstore.specs.StoreValue.{StoreValue, Serves}
use Rattle.pgstore.specs.Reopened.{CrashLeaves, HoldsContent, IsCopiedTo, IsEmptyContent, Reopens}
use Rattle.pgsub_core.specs.declared.fault.Fault.{Fault}
use Rattle.pgsub_core.specs.Server.History.{Transaction, IsHistory, tables_as_of}
use Rattle.pgsub_core.specs.Server.Stream.{Sent}
use Rattle.pgsub_core.specs.Server.Sessions.{AreIncoming, starting_by}
use Rattle.pgsub_core.specs.Subscriber.Safe.{NothingBetween}
use Rattle.pgsub_core.specs.Subscriber.Subscribed.{newly, progress_of}
use Rattle.pgsub_core.specs.Subscriber.SubscriberValue.{seen}
use Rattle.pgsub_core.specs.Subscriber.Crashing.{LeavesHistory, StandsAsFed}
use Rattle.pgsub_core.specs.Subscriber.Following.{FollowsSessions}
use Rattle.pgrecovery.specs.Recovered.{OverFiles, holds_tables, position_of}

-- A run: what the files held as their store was opened, the subscriber over that, the sessions that
-- it was fed, the subscriber then, and what the files hold for the next one.
pub record Run {D : Type 0} (g : disk.Ghosts D) : Type 0 where
  pub content : Image
  pub begun : OverFiles g
  pub version : Version
  pub max_frame : ℕ
  pub limit : ℕ
  pub sessions : List (List ℕ)
  pub all_complete : List (List Sent)
  pub ended : OverFiles g
  pub after : Image

abbrev pub place_of : {D : Type 0} {g : disk.Ghosts D} → OverFiles g → ℕ
place_of s = s.applied.store.position

-- The files have this content once the store is closed, also where its log is gone.
abbrev pub ClosedAs : {D : Type 0} {g : disk.Ghosts D} → StoreValue (FileStore D g) → Image → Type 0
ClosedAs {D} {g} s content =
    (files : Files D) × IsCopiedTo s files × ((left : Image) × outcomes g files.log files.db left
    × ((content ≡ left) ⊎ (content ≡ record left { log = [] })))

-- A run of this history. The store was opened on the content, and the subscriber over it is new.
-- Its sessions start at most at what was ever confirmed. It followed them, whatever was returned,
-- as `follow` says (`why`, `crash`), and then it was closed or a crash came, at the end of any
-- call.
pub record IsRun {D : Type 0} {g : disk.Ghosts D} (history : List Transaction) (confirmed : ℕ) (r : Run g) : Type 0 where
  pub found : HoldsContent over_files r.content r.begun.applied.store
  pub new : (tables : Tables)
      → seen position_of r.begun tables ≡ newly tables (place_of r.begun) r.version r.max_frame r.limit
  pub sent : (tables : Tables)
      → AreIncoming r.version history
      (starting_by (max (place_of r.begun) confirmed) (progress_of (newly tables (place_of r.begun) r.version r.max_frame r.limit)))
      r.sessions r.all_complete
  pub clock : ℤ
  pub answered : Option Fault
  pub followed : StandsAsFed position_of (λ s. FollowsSessions (holds_tables over_files) position_of clock r.begun r.sessions s answered)
      r.ended
  pub rows : Serves over_files r.ended.applied.store
      → FollowsSessions (holds_tables over_files) position_of clock r.begun r.sessions r.ended answered
  pub crash : LeavesHistory (holds_tables over_files) position_of (Reopens over_files over_files) r.begun r.sessions r.ended
  pub left : CrashLeaves r.ended.applied.store r.after
      ⊎ (Serves over_files r.ended.applied.store × ClosedAs r.ended.applied.store r.after)

-- Each run is over what the one before left. This much was ever confirmed before.
abbrev pub AreRuns : {D : Type 0} {g : disk.Ghosts D} → List Transaction → Image → ℕ → List (Run g) → Type 0
AreRuns history content confirmed [] = ⊤
AreRuns history content confirmed (r ∷ runs) =
    (r.content ≡ content) × IsRun history confirmed r × AreRuns history r.after (max confirmed r.ended.applied.confirmed) runs

-- The store holds exactly the history's rows up to its position, with all that was confirmed up to
-- that LSN and changes rows.
pub record HoldsHistory {D : Type 0} {g : disk.Ghosts D} (history : List Transaction) (confirmed : ℕ) (s : OverFiles g) : Type 0 where
  pub tables : Tables
  pub held : holds_tables over_files s.applied.store tables
  pub same : tables_as_of history (place_of s) ≡ Ok tables
  pub stored : NothingBetween history (place_of s) confirmed

-- So it is in each run, as it begins and, while the store serves, as it ends. Positions never fall,
-- and what was confirmed in any run is in each later one.
abbrev pub HoldThrough : {D : Type 0} {g : disk.Ghosts D} → List Transaction → ℕ → ℕ → List (Run g) → Type 0
HoldThrough history position confirmed [] = ⊤
HoldThrough history position confirmed (r ∷ runs) =
    (position ≤ place_of r.begun) × (place_of r.begun ≤ place_of r.ended) × HoldsHistory history confirmed r.begun
    × (Serves over_files r.ended.applied.store → HoldsHistory history (max confirmed r.ended.applied.confirmed) r.ended)
    × HoldThrough history (place_of r.ended) (max confirmed r.ended.applied.confirmed) runs

-- Of any list of runs of one history, the first over files without a store.
abbrev pub OneLife : {D : Type 0} → disk.Ghosts D → Type 0
OneLife {D} g =
    (history : List Transaction) (content : Image) (runs : List (Run g)) → IsHistory history → IsEmptyContent content
    → AreRuns history content 0 runs → ∥ HoldThrough history 0 0 runs ∥₁
