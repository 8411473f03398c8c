-- Part of the statement. PostgreSQL documentation, Logical Replication, Subscription; SQLite
-- documentation, WAL-mode File Format, Recovery: what the store holds that is opened on what a
-- crash left of a subscriber's, and where a new subscriber over it goes on.
use Rattle.std.specs.Prelude.{◌≡◌, ◌≤◌, ℕ, List, Ok, max}
use Rattle.sqlite_disk.specs.declared.Disk as disk
use Rattle.sqlite_store.specs.declared.store.FileStore.{FileStore}
use Rattle.sqlite.specs.Recovery.{Image}
use Rattle.sqlite.specs.Store.{Ghosts}
use Rattle.sqlite.specs.Files.{over_files}
use Rattle.pgorder.specs.declared.Version.{Version}
use Rattle.pgapply.specs.Value.{Tables}
use Rattle.pgapply.specs.Stored.{Stored}
use Rattle.pgencoded.specs.Acts.{committed_of}
use Rattle.pgencoded.specs.Spelled.{IsStored}
use Rattle.pgstore.specs.StoreValue.{StoreValue, Contains}
use Rattle.pgstore.specs.Reopened.{CrashLeaves, HoldsContent, Reopens}
use Rattle.pgsub_core.specs.Server.History.{Transaction, IsHistory, tables_as_of}
use Rattle.pgsub_core.specs.Server.Stream.{Sent}
use Rattle.pgsub_core.specs.Subscriber.Safe.{NothingBetween}
use Rattle.pgsub_core.specs.Server.Sessions.{AreIncoming, starting_by}
use Rattle.pgsub_core.specs.Subscriber.Subscribed.{IsSafeFor, newly, progress_of}
use Rattle.pgsub_core.specs.Subscriber.Confirming.{AreSafeReplies}
use Rattle.pgsub_core.specs.Subscriber.Safely.{IsSent}
use Rattle.pgsub_core.specs.Subscriber.SubscriberValue.{SubscriberValue, seen}
use Rattle.pgsub_core.specs.Subscriber.Crashing.{IsLeftSafely, LeavesHistory}

-- Whatever sessions of the history come next, a new subscriber over these tables starts as they ask
-- it: also where they start as far as what was confirmed. Nothing waits to be sent.
abbrev pub GoesOn : List Transaction → Tables → ℕ → ℕ → Type 0
GoesOn history tables position confirmed =
    (v : Version) (max_frame limit : ℕ) (sessions : List (List ℕ)) (all_complete : List (List Sent))
    → AreIncoming v history (starting_by (max position confirmed) (progress_of (newly tables position v max_frame limit))) sessions
    all_complete
    → IsSent history (newly tables position v max_frame limit) sessions all_complete
    × AreSafeReplies history (newly tables position v max_frame limit)

abbrev pub position_of : {S : Type 0} → StoreValue S → ℕ
position_of s = s.position

module _ {S : Type 0} (g : Ghosts S) where
  abbrev pub holds_tables : StoreValue S → Tables → Type 0
  holds_tables s tables = IsStored tables (committed_of g s.rows)

  -- The store holds exactly the history's rows up to a position of its own. That is no lower than
  -- the position before the crash, and every transaction that changes rows and ends by what was
  -- confirmed is among them.
  pub record Recovers (history : List Transaction) (position confirmed : ℕ) (s : StoreValue S) : Type 0 where
    pub tables : Tables
    pub held : holds_tables s tables
    pub same : tables_as_of history s.position ≡ Ok tables
    pub not_lower : position ≤ s.position
    pub stored : NothingBetween history s.position confirmed
    pub goes_on : GoesOn history tables s.position confirmed

-- ---- a subscriber over a store in two files

abbrev pub OverFiles : {D : Type 0} → disk.Ghosts D → Type 0
OverFiles {D} g = SubscriberValue (StoreValue (FileStore D g))

-- whatever store is opened on what a crash leaves of the subscriber's, in files of any kind, it has
-- recovered
abbrev pub CrashIsRecovered : {D S : Type 0} {g : disk.Ghosts D} → Ghosts S → List Transaction → OverFiles g → Type 0
CrashIsRecovered {D} {S} h history s =
    (content : Image) (store : StoreValue S) → CrashLeaves s.applied.store content → HoldsContent h content store
    → ∥ Recovers h history s.applied.store.position s.applied.confirmed store ∥₁

-- What `follow` says of a crash after it, whatever it returned: that is so in files of the same
-- kind, also where the store has shut.
abbrev pub FollowedIsRecovered : {D : Type 0} → disk.Ghosts D → Type 0
FollowedIsRecovered {D} g =
    (history : List Transaction) (sessions : List (List ℕ)) (all_complete : List (List Sent)) (tables : Tables) (old new : OverFiles g)
    → holds_tables over_files old.applied.store tables → IsSent history (seen position_of old tables) sessions all_complete
    → LeavesHistory (holds_tables over_files) position_of (Reopens over_files over_files) old sessions new
    → CrashIsRecovered (over_files {g = g}) history new

-- What `follow_live` says of a crash when a status is written, and at its end.
abbrev pub LeftSafelyIsRecovered : {D : Type 0} → disk.Ghosts D → Type 0
LeftSafelyIsRecovered {D} g =
    (history : List Transaction) (s : OverFiles g) → IsHistory history
    → ((other : StoreValue (FileStore D g)) → Reopens over_files over_files s.applied.store other
    → IsLeftSafely (holds_tables over_files) position_of history s other)
    → CrashIsRecovered (over_files {g = g}) history s

-- While the store serves, it is so in files of any kind.
abbrev pub ServedIsRecovered : {D S : Type 0} → disk.Ghosts D → Ghosts S → Type 0
ServedIsRecovered g h =
    (history : List Transaction) (s : OverFiles g) (v : Stored) (tables : Tables) → IsHistory history
    → Contains over_files s.applied.store v → holds_tables over_files s.applied.store tables → IsSafeFor history (seen position_of s tables)
    → CrashIsRecovered h history s

-- Of whatever history the sessions are, and whatever tables the old store held: so it is after they
-- were followed.
abbrev pub RecoversHistory : {D : Type 0} {g : disk.Ghosts D} → OverFiles g → List (List ℕ) → OverFiles g → Type 0
RecoversHistory {D} {g} old sessions new =
    (history : List Transaction) (all_complete : List (List Sent)) (tables : Tables)
    → holds_tables over_files old.applied.store tables → IsSent history (seen position_of old tables) sessions all_complete
    → CrashIsRecovered (over_files {g = g}) history new
