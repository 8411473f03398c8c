-- Part of the statement. PostgreSQL documentation, Logical Replication, Subscription; SQLite
-- documentation, WAL-mode File Format, Recovery: one life of a store in two files with a feed in a
-- folder. Runs follow each other, each over what the one before left, closed or crashed, but for
-- segments of the feed that others removed.
use Rattle.std.specs.Prelude.{◌≡◌, ◌≤◌, ◌⊎◌, ℕ, List, [], ◌∷◌, Bool, Ok, max, ⊤}
use Rattle.sqlite_disk.specs.declared.Disk as disk
use Rattle.sqlite_store.specs.declared.store.FileStore.{FileStore}
use Rattle.sqlite.specs.Files.{over_files}
use Rattle.sqlite.specs.Recovery.{Image}
use Rattle.pgorder.specs.declared.Version.{Version}
use Rattle.pgapply.specs.Value.{Tables}
use Rattle.pgledger.specs.declared.recorded.Recorded.{Recorded}
use Rattle.pgfeed.specs.declared.feed.Feed.{Feed}
use Rattle.pgfeed.specs.Beside.{LeadsFrom, RecordsRest}
use Rattle.pgfeed.specs.Feeds.{IsHonestFeed, OpensIn, ReopensAt}
use Rattle.pgfeed.specs.Lasting.{IsLeftOf}
use Rattle.pgstore.specs.StoreValue.{StoreValue, Serves}
use Rattle.pgstore.specs.Reopened.{CrashLeaves, HoldsContent, IsEmptyContent, Reopens}
use Rattle.pgsub_core.specs.Server.History.{Transaction, IsHistory, tables_as_of}
use Rattle.pgsub_core.specs.Server.Stream.{Sent}
use Rattle.pgsub_core.specs.Server.Sessions.{AreIncoming, starting_by}
use Rattle.pgsub_core.specs.Subscriber.Safe.{IsSafe, NothingBetween}
use Rattle.pgsub_core.specs.Subscriber.Safely.{IsSent}
use Rattle.pgsub_core.specs.Subscriber.Subscribed.{Subscribed, newly, progress_of}
use Rattle.pgrecovery.specs.Recovered.{holds_tables}
use Rattle.pgrecovery.specs.Life.{ClosedAs}

-- a store in two files, and its feed
abbrev pub FedStore : {D : Type 0} → disk.Ghosts D → Type 0 → Type 0 → Type 0
FedStore {D} g F E = Recorded (StoreValue (FileStore D g)) (Feed F E)

abbrev pub fed_position : {D F E : Type 0} {g : disk.Ghosts D} → FedStore g F E → ℕ
fed_position r = r.store.position

-- A run: what the files held as their store was opened, and the folder as its feed was; these two,
-- the sessions that a new subscriber over them was fed, the two then, what the subscriber
-- confirmed, and what the files hold for the next run.
pub record FedRun {D : Type 0} (g : disk.Ghosts D) (F E : Type 0) : Type 0 where
  pub content : Image
  pub folder : F
  pub begun : FedStore g F E
  pub version : Version
  pub max_frame : ℕ
  pub limit : ℕ
  pub sessions : List (List ℕ)
  pub all_complete : List (List Sent)
  pub ended : FedStore g F E
  pub confirmed : ℕ
  pub after : Image

-- the subscriber over these tables
abbrev pub fed_newly : {D F E : Type 0} {g : disk.Ghosts D} → FedRun g F E → Tables → Subscribed
fed_newly r tables = newly tables (fed_position r.begun) r.version r.max_frame r.limit

module _ {D F E : Type 0} (g : disk.Ghosts D) (shows : E → List ℕ) (may_leave : E → List ℕ → Type 0) (is_clean : E → Bool)
    (is_true : F → Type 0) (places : F → List ℕ) (has : F → ℕ → List ℕ → Type 0) (supposed : Type 0) where
  -- The store holds these tables. Where that is so which is supposed of the folder, the entries of
  -- its feed lead to them.
  abbrev pub holds_fed : FedStore g F E → Tables → Type 0
  holds_fed r tables =
      holds_tables over_files r.store tables
      × (supposed
      → RecordsRest shows may_leave is_clean is_true places has r.ledger tables r.store.position r.store.group.reach)

  -- A crash leaves this one: the store is opened again, and then the feed at its position. Of the
  -- feed that is asked where that is so which is supposed of the folder.
  abbrev pub reopens_fed : FedStore g F E → FedStore g F E → Type 0
  reopens_fed r other =
      Reopens over_files over_files r.store other.store
      × (supposed → ReopensAt shows may_leave is_clean is_true places has r.ledger other.store.position other.ledger)

  -- A crash has left this one: it holds the history's rows up to its own position, which is no
  -- lower than that one, with all that is confirmed.
  pub record IsLeftFed (history : List Transaction) (place confirmed : ℕ) (other : FedStore g F E) : Type 0 where
    pub tables : Tables
    pub held : holds_fed other tables
    pub same : tables_as_of history (fed_position other) ≡ Ok tables
    pub position : place ≤ fed_position other
    pub stored : NothingBetween history (fed_position other) confirmed

  -- It followed sessions of this history, whatever was returned: its position didn't fall, and
  -- while the store serves it holds the history's rows, with all that is confirmed; so does what a
  -- crash leaves (`why`, `safe`, `crash` of `follow`).
  pub record IsFollowed (history : List Transaction) (r : FedRun g F E) : Type 0 where
    pub up : (tables : Tables) → holds_fed r.begun tables → IsSent history (fed_newly r tables) r.sessions r.all_complete
        → fed_position r.begun ≤ fed_position r.ended
    pub rows : Serves over_files r.ended.store → (tables : Tables) → holds_fed r.begun tables
        → IsSent history (fed_newly r tables) r.sessions r.all_complete
        → (tables' : Tables) × holds_fed r.ended tables' × IsSafe history tables' (fed_position r.ended) r.confirmed
    pub crash : (tables : Tables) → holds_fed r.begun tables → IsSent history (fed_newly r tables) r.sessions r.all_complete
        → (other : FedStore g F E) → reopens_fed r.ended other → IsLeftFed history (fed_position r.ended) r.confirmed other

  -- A run of this history. The store was opened on the content, and the feed at its position in the
  -- folder, whose answers were true, if that is so which is supposed of it. The sessions of a new
  -- subscriber over them start at most at what was ever confirmed. It followed them, and then it
  -- was closed or a crash came, at the end of any call.
  pub record IsFedRun (history : List Transaction) (confirmed : ℕ) (r : FedRun g F E) : Type 0 where
    pub found : HoldsContent over_files r.content r.begun.store
    pub opened : OpensIn shows may_leave is_clean is_true places has r.folder (fed_position r.begun) r.begun.ledger
    pub honest : supposed → IsHonestFeed shows may_leave is_clean is_true places has r.begun.ledger
    pub sent : (tables : Tables)
        → AreIncoming r.version history (starting_by (max (fed_position r.begun) confirmed) (progress_of (fed_newly r tables))) r.sessions
        r.all_complete
    pub followed : IsFollowed history r
    pub left : CrashLeaves r.ended.store r.after ⊎ (Serves over_files r.ended.store × ClosedAs r.ended.store r.after)

  -- A folder has what is left of a feed, but for a front of segments that others removed. The last
  -- one of these ended below the LSN.
  abbrev pub IsLeftBy : Feed F E → ℕ → F → Type 0
  IsLeftBy l p folder = (gone : List ℕ) × IsLeftOf shows may_leave is_clean is_true places has l p gone folder

  -- Each run is over what the one before left of the files; and of the folder, where that is so
  -- which is supposed of it. This much was ever confirmed before.
  abbrev pub AreFedRuns : List Transaction → Image → (ℕ → F → Type 0) → ℕ → List (FedRun g F E) → Type 0
  AreFedRuns history content is_left confirmed [] = ⊤
  AreFedRuns history content is_left confirmed (r ∷ runs) =
      (r.content ≡ content) × (supposed → is_left (fed_position r.begun) r.folder) × IsFedRun history confirmed r
      × AreFedRuns history r.after (IsLeftBy r.ended.ledger) (max confirmed r.confirmed) runs

  -- The store holds exactly the history's rows up to its position, with all that was confirmed up
  -- to that LSN and changes rows. Where that is so which is supposed of the folder, the entries
  -- that its feed keeps lead there, from some tables where it begins.
  pub record HoldsFed (history : List Transaction) (confirmed : ℕ) (s : FedStore g F E) : Type 0 where
    pub tables : Tables
    pub held : holds_tables over_files s.store tables
    pub same : tables_as_of history (fed_position s) ≡ Ok tables
    pub stored : NothingBetween history (fed_position s) confirmed
    pub leads : supposed → LeadsFrom shows may_leave is_clean is_true places has s.ledger tables (fed_position s)

  -- So it is in each run, as it begins and, while the store serves, as it ends. Positions never
  -- fall, and what was confirmed in any run is in each later one.
  abbrev pub HoldFedThrough : List Transaction → ℕ → ℕ → List (FedRun g F E) → Type 0
  HoldFedThrough history position confirmed [] = ⊤
  HoldFedThrough history position confirmed (r ∷ runs) =
      (position ≤ fed_position r.begun) × (fed_position r.begun ≤ fed_position r.ended) × HoldsFed history confirmed r.begun
      × (Serves over_files r.ended.store → HoldsFed history (max confirmed r.confirmed) r.ended)
      × HoldFedThrough history (fed_position r.ended) (max confirmed r.confirmed) runs

  -- Of any list of runs of one history, the first over files without a store and a folder without
  -- segments. What is supposed of the folder is any statement. With one that is true the law says
  -- all of store and feed; with one that is false, all of the store, whatever became of the folder.
  abbrev pub OneFedLife : Type 0
  OneFedLife =
      (history : List Transaction) (content : Image) (runs : List (FedRun g F E)) → IsHistory history → IsEmptyContent content
      → AreFedRuns history content (λ p folder. places folder ≡ []) 0 runs → ∥ HoldFedThrough history 0 0 runs ∥₁
