-- What a crash leaves of a store in two files, and what the store holds that is opened on them
-- next. SQLite documentation, Write-Ahead Logging, and WAL-mode File Format, Recovery: after a
-- crash the next open finds the last transaction whose commit is whole in the log, and nothing of a
-- later one.
use Rattle.std.specs.Prelude.{◌≡◌, ◌≤◌, ◌⊎◌, []}
use Rattle.sqlite_disk.specs.declared.Disk as disk
use Rattle.sqlite_disk.specs.declared.Files.{Files}
use Rattle.sqlite_store.specs.declared.store.FileStore.{FileStore}
use Rattle.sqlite.specs.Recovery.{Image}
use Rattle.sqlite.specs.WalFiles.{outcomes}
use Rattle.sqlite.specs.WalReads.{AreClean}
use Rattle.sqlite.specs.Tree.{Trees}
use Rattle.sqlite.specs.Store.{Ghosts}
use Rattle.sqlite.specs.Closing.{HoldsAlone}
use Rattle.sqlite.specs.Held as connection
use Rattle.sqlite.specs.Held.{Held}
use Rattle.sqlite.specs.Effect.{Database, IsDatabase}
use Rattle.sqlite.specs.Start.{FindsIn}
use Rattle.sqlite.specs.State.{HasCleanDisk, IsLive, Opens}
use Rattle.sqlite.specs.Files.{image_of, over_files, AreFoundIn, HoldsDatabase, IsEmpty}
use Rattle.sqlite.specs.Files.{IsNothing}
use Rattle.sqlite_trees.specs.Objects.{catalog_tree}
use Rattle.sqlite_catalog.specs.Listing.{Lists}
use Rattle.pgtables.specs.Schema.{store_schema}
use Rattle.pgmemory.specs.Stopped.{Leaves}
use Rattle.pgtables.specs.Kept as connected
use Rattle.pgrows.specs.Rows.{state}
use Rattle.pgapply.specs.Stored.{Stored}
use Rattle.pgencoded.specs.DatabaseValue.{AreOf, IsValueOf, nothing_stored}
use Rattle.pgstore.specs.StoreValue.{StoreValue, Adopts, Contains, Holds, Keeps, Serves}

-- There is no database in files with this content, or one without any table: none was made yet, or
-- an empty one.
abbrev pub IsEmptyContent : Image → Type 0
IsEmptyContent content = IsNothing content ⊎ ((db : Trees) × HoldsDatabase content db × IsEmpty db)

-- Trees are as a run of a store leaves them: where they list its tables, they hold a store.
abbrev pub AreAsLeft : Trees → Type 0
AreAsLeft db = Lists (db catalog_tree) store_schema → (v : Stored) × AreOf v db

-- So are those that files with this content can be read as, whatever these are.
abbrev pub IsAsLeft : Image → Type 0
IsAsLeft content = (db : Trees) → AreFoundIn content db → AreAsLeft db

module _ {S : Type 0} (g : Ghosts S) where
  -- The store holds what is stored in files with this content.
  pub record HoldsContent (content : Image) (s : StoreValue S) : Type 0 where
    -- whatever value a database in them has, where a table that was dropped counts as empty
    pub stood : (db : Database) → HoldsDatabase content db.trees → IsDatabase db → (v : Stored) → IsValueOf v db → Holds g s v
    -- nothing at 0/0, where nothing is stored in them
    pub empty : IsEmptyContent content → Holds g s nothing_stored
    -- and a database in them has a value, that of nothing where it has no table
    pub known : (db : Database) → HoldsDatabase content db.trees → IsDatabase db → (v : Stored) × IsValueOf v db

  -- So does one that adopted a connection which an open of such files gave.
  abbrev pub AdoptedHoldsContent : Type 0
  AdoptedHoldsContent =
      (content : Image) (conn : Held S) (s : StoreValue S) → FindsIn content (connection.state g conn) → Opens (connection.state g conn)
      → IsLive (connection.state g conn) → Adopts g conn s
      → HoldsContent content s

  -- A connection to files with this content, of which no store was made: it sees the database that
  -- was found in them, and whatever a crash leaves of it is that one, or has the tables of a store
  -- with the same value.
  pub record StaysAsFound (content : Image) (conn : Held S) : Type 0 where
    pub seen : connected.IfServing g conn ((db : Trees) → HoldsDatabase content db → (connection.state g conn).now.trees ≡ db)
    pub left : HasCleanDisk (connection.state g conn) → (db : Trees) → HoldsDatabase content db → (other : Trees)
        → (connection.state g conn).may_leave other
        → (other ≡ db) ⊎ ((found : Database) × (found.trees ≡ db) × (v : Stored) × IsValueOf v found × AreOf v other)

  -- So it is where a connection isn't adopted that an open of such files gave.
  abbrev pub RefusedStaysAsFound : Held S → Held S → Type 0
  RefusedStaysAsFound opened conn = (content : Image) → FindsIn content (connection.state g opened) → Opens (connection.state g opened)
      → StaysAsFound content conn

module _ {S T : Type 0} (g : Ghosts S) (h : Ghosts T) where
  -- The new one was opened on what a crash at this moment may leave of the old one. It may be in
  -- files of another kind.
  pub record Reopens (old : StoreValue S) (new : StoreValue T) : Type 0 where
    pub db : Trees
    pub left : (state g old.rows).may_leave db
    pub opened : (v : Stored) → AreOf v db → Holds h new v

  -- So where the old one serves, of which a crash leaves what it contains, the new one holds the
  -- same.
  abbrev pub ReopensTheSame : Type 0
  ReopensTheSame =
      (old : StoreValue S) (new : StoreValue T) (v : Stored) → Contains g old v → Reopens old new → (w : Stored) → Holds g old w
      → Holds h new w

  -- And where it has shut, the new one holds nothing older: its position is no lower, and at the
  -- same position it has the same tables.
  abbrev pub ReopensNothingOlder : Type 0
  ReopensNothingOlder =
      (old : StoreValue S) (new : StoreValue T) (v : Stored) → Keeps g old v → Reopens old new
      → (w : Stored) × Holds h new w × (v.position ≤ w.position) × (w.position ≡ v.position → Holds h new v)

-- A crash of the store at this moment may leave this content of its two files, or they have it once
-- it is closed.
pub record CrashLeaves {D : Type 0} {g : disk.Ghosts D} (old : StoreValue (FileStore D g)) (content : Image) : Type 0 where
  -- the files as the crash finds them, of which `Store::stop` says this, or as they are closed: so
  -- says `Store::close_files`
  pub files : Files D
  pub stopped : Leaves g (state over_files old.rows).may_leave files
  -- their disks have given back what was written
  pub honest : AreClean g files.log files.db
  -- and each says that its file may hold this after a crash
  pub left : outcomes g files.log files.db content

-- The store was closed to these files. It served, and the file of the database has all of it: with
-- the log and without it, as the files read now and after a crash.
pub record IsCopiedTo {D : Type 0} {g : disk.Ghosts D} (s : StoreValue (FileStore D g)) (files : Files D) : Type 0 where
  pub served : Serves over_files s
  pub seen : HoldsAlone (image_of g files) (state over_files s.rows).committed.trees
  pub left : (content : Image) → outcomes g files.log files.db content → HoldsAlone content (state over_files s.rows).committed.trees
  -- what the store held is in these trees
  pub holds : (v : Stored) → Holds over_files s v → AreOf v (state over_files s.rows).committed.trees

-- Whichever store a crash left this content of, the new one reopens it.
abbrev pub ReopensLeft : {D : Type 0} {g : disk.Ghosts D} → Image → StoreValue (FileStore D g) → Type 0
ReopensLeft {D} {g} content new = (old : StoreValue (FileStore D g)) → CrashLeaves old content → ∥ Reopens over_files over_files old new ∥₁

-- Files with what a crash left hold a database, and the store that holds what is stored in them
-- reopens the one before the crash.
abbrev pub LeftIsReopened : {D S : Type 0} → disk.Ghosts D → Ghosts S → Type 0
LeftIsReopened {D} {S} g h =
    (old : StoreValue (FileStore D g)) (new : StoreValue S) (content : Image) → CrashLeaves old content → HoldsContent h content new
    → ∥ Reopens over_files h old new ∥₁

-- What a closed store held is held by the one that is opened next on its files, or on what a crash
-- leaves of them, also where the log is gone.
abbrev pub ClosedIsReopened : {D S : Type 0} → disk.Ghosts D → Ghosts S → Type 0
ClosedIsReopened {D} {S} g h =
    (old : StoreValue (FileStore D g)) (new : StoreValue S) (files : Files D) (left content : Image) → IsCopiedTo old files
    → outcomes g files.log files.db left → (content ≡ left) ⊎ (content ≡ record left { log = [] }) → HoldsContent h content new
    → (v : Stored) → Holds over_files old v → ∥ Holds h new v ∥₁

-- What a crash left of a store is as a run leaves it, so that the next start may trust it: of one
-- that serves, or was shut by a failure of its disk.
abbrev pub CrashIsAsLeft : {D : Type 0} → disk.Ghosts D → Type 0
CrashIsAsLeft {D} g =
    (old : StoreValue (FileStore D g)) (v : Stored) (content : Image) → Keeps over_files old v → CrashLeaves old content
    → ∥ IsAsLeft content ∥₁

-- So are the files of a store that was closed, as they are found next, also where the log is gone.
abbrev pub ClosedIsAsLeft : {D : Type 0} → disk.Ghosts D → Type 0
ClosedIsAsLeft {D} g =
    (old : StoreValue (FileStore D g)) (files : Files D) (left content : Image) → IsCopiedTo old files
    → outcomes g files.log files.db left → (content ≡ left) ⊎ (content ≡ record left { log = [] })
    → (v : Stored) → Holds over_files old v → ∥ IsAsLeft content ∥₁
