-- Part of the statement. PostgreSQL documentation, Logical Replication, Subscription; SQLite
-- documentation, Write-Ahead Logging: a run over a store in two files. The store is opened on what
-- the files held, and closed at the end.
use Rattle.std.specs.Prelude.{◌≡◌, ◌==◌, ◌⊎◌, ℕ, List, [], Option, None, Some, Result, Ok, Err}
use Rattle.std.specs.Prelude.{if◌then◌else◌}
use Rattle.sqlite_disk.specs.declared.Disk as disk
use Rattle.sqlite_disk.specs.declared.Files.{Files}
use Rattle.sqlite_store.specs.declared.store.FileStore.{FileStore}
use Rattle.sqlite.specs.Files.{over_files}
use Rattle.sqlite.specs.Recovery.{Image}
use Rattle.sqlite.specs.State.{HasCleanDisk}
use Rattle.sqlite.specs.Store.{Ghosts}
use Rattle.sqlite.specs.Tree.{Trees}
use Rattle.sqlite.specs.WalReads.{AreClean}
use Rattle.pgcommand.specs.declared.limits.Limits.{Limits}
use Rattle.pgorder.specs.declared.Version.{Version}
use Rattle.pgapply.specs.declared.fault.StoreFault.{StoreFault}
use Rattle.pgapply.specs.declared.fault.StoreFault.TheVariants as store
use Rattle.pgapply.specs.Tallies.{nothing_taken}
use Rattle.pgmemory.specs.Stopped.{Leaves}
use Rattle.pgrows.specs.Rows.{state}
use Rattle.pgstore.specs.StoreValue.{StoreValue, HasTables, IsHonest, Serves}
use Rattle.pgstore.specs.Reopened.{HoldsContent, IsCopiedTo, Reopens}
use Rattle.pgload.specs.declared.fault.InputFault.{InputFault}
use Rattle.pgloaded.specs.Loaded.{input_line, status_of_load, stream_fault}
use Rattle.pgsub_core.specs.declared.fault.Fault.{Fault}
use Rattle.pgsub_core.specs.declared.fault.Fault.TheVariants as fault
use Rattle.pgfollow.specs.declared.fault.FollowFault.{FollowFault}
use Rattle.pgsub_cli.specs.declared.fault.Ending.{Ending}
use Rattle.pgsub_cli.specs.declared.fault.Ending.TheVariants.{Done}
use Rattle.pgsub_cli.specs.declared.fault.RunFault.{RunFault}
use Rattle.pgsub_cli.specs.declared.fault.RunFault.TheVariants as run
use Rattle.pgsub_cli.specs.declared.reported.Reported.{Reported}
use Rattle.pgspooled.specs.declared.honesty.Honesty.{Honesty}
use Rattle.pgsub_cli.specs.Caused.{TellsCaused}
use Rattle.pgsub_cli.specs.FaultTexts.{memory_line}
use Rattle.pgsub_cli.specs.FollowedLive.{FollowsBuffered, IsReadBack}
use Rattle.pgsub_cli.specs.FollowStatus.{status_of_fault}
use Rattle.pgsub_cli.specs.Runs.{Tells}

-- ---- how a run ends whose load isn't taken

abbrev pub status_by : Option Fault → InputFault → ℕ
status_by (Some of) f = status_of_fault of
status_by None f = status_of_load f

abbrev pub status_of_unloaded : InputFault → ℕ
status_of_unloaded f = status_by (stream_fault f) f

module _ {E : Type 0} (takes : E → List ℕ → E → Type 0) (failed : E → Type 0) where
  abbrev pub TellsBy : Option Fault → InputFault → E → E → Type 0
  TellsBy (Some of) f old new = TellsCaused takes failed (Err (run.Stream of)) old new
  TellsBy None f old new = takes old (input_line f) new ⊎ (takes old memory_line new ⊎ failed old)

  -- standard error gets the line, and before it the cause of the store's error, where that is known
  abbrev pub TellsUnloaded : InputFault → E → E → Type 0
  TellsUnloaded f old new = TellsBy (stream_fault f) f old new

-- ---- how a run ends whose store is closed

-- closing that failed ends as a run does that this fault of the store stopped
abbrev pub ending_of_closing : Option StoreFault → Result Ending RunFault
ending_of_closing None = Ok Done
ending_of_closing (Some f) = Err (run.Stream (fault.Store f))

-- the exit status of following where the store can't be closed: 14 where memory ran out, else 13
abbrev pub status_of_unclosed : StoreFault → ℕ
status_of_unclosed store.Memory = 14
status_of_unclosed _ = 13

-- The exit status of a run that ended with one: where it went well, that of the fault of closing.
abbrev pub status_closed : (StoreFault → ℕ) → ℕ → Option StoreFault → ℕ
status_closed status ended None = ended
status_closed status ended (Some f) = if ended == 0 then status f else ended

-- Standard error gets what a run tells of the fault that it ended with, and then the line of the
-- fault of closing its store, where there is one.
abbrev pub TellsBoth : {E : Type 0} → (E → List ℕ → E → Type 0) → (E → Type 0) → (E → E → Type 0) → Option StoreFault → E → E → Type 0
TellsBoth {E} takes failed tells closing old new =
    (between : E) × tells old between × Tells takes failed [] [] (ending_of_closing closing) between new

-- ---- the store of a run

abbrev pub position_of : {S : Type 0} → StoreValue S → ℕ
position_of store = store.position

module _ {S : Type 0} (g : Ghosts S) where
  -- It is honest, and what was read of the spools' file, where one is named, is what was written.
  abbrev pub IsKept : {P : Type 0} → Option P → Honesty → StoreValue S → Type 0
  IsKept spool honesty store = IsReadBack spool honesty × IsHonest g store

  -- `FollowsBuffered`, of a store that tells a listener of each settling
  abbrev pub FollowsTold : {P : Type 0} → (L : Type 0) → Option P → Option (List ℕ) → Option (List ℕ) → ℕ → Option (List ℕ)
      → Option (List ℕ) → Limits → Version → StoreValue S → StoreValue S → Honesty → Option FollowFault → Type 0
  FollowsTold L spool unread rest reads wrote wrote' limits version opened ended honesty why =
      (told : Reported (StoreValue S) L) × (last : Reported (StoreValue S) L) × (told.store ≡ opened) × (last.store ≡ ended)
      × FollowsBuffered {C = Reported (StoreValue S) L} (λ r. HasTables g r.store) (λ r. r.store.position)
      (λ r other. Reopens g g r.store other.store) (λ r. Serves g r.store)
      (λ r. r.store.group.tally) spool unread rest reads wrote wrote' limits version told last honesty why

  -- a crash of the one store leaves nothing that it couldn't leave of the other
  abbrev pub LeavesNothingNew : StoreValue S → StoreValue S → Type 0
  LeavesNothingNew old new = (other : StoreValue S) → Reopens g g new other → Reopens g g old other

module _ {D : Type 0} {g : disk.Ghosts D} where
  -- A store is closed to its files: whatever content they have then, or after a crash later, is one
  -- that it could leave, and the file of the database alone has all of it. Where the log can't be
  -- copied, its trees can leave nothing new. The disks were honest while it was open, if they have
  -- been so up to then.
  abbrev pub ClosesTo : StoreValue (FileStore D g) → Result (Files D) (StoreFault × FileStore D g) → Type 0
  ClosesTo ended (Ok files) =
      (AreClean g files.log files.db → IsHonest over_files ended) × Leaves g (state over_files ended.rows).may_leave files
      × (AreClean g files.log files.db → IsCopiedTo ended files)
  ClosesTo ended (Err e) =
      HasCleanDisk (state over_files e.1)
      → IsHonest over_files ended × ((db : Trees) → (state over_files e.1).may_leave db → (state over_files ended.rows).may_leave db)

  -- why the log can't be copied, where it can't
  abbrev pub fault_of_closing : Result (Files D) (StoreFault × FileStore D g) → Option StoreFault
  fault_of_closing (Ok files) = None
  fault_of_closing (Err e) = Some e.0

  -- A run over files that had this content: a store that holds what is stored in them was opened,
  -- if the disks gave back what was written until the run had ended, as this says of its store, and
  -- had taken nothing; the run led from it to another; and that one was closed.
  pub record RunsInFiles (kept : StoreValue (FileStore D g) → Type 0) (content : Image)
      (leads : StoreValue (FileStore D g) → StoreValue (FileStore D g) → Type 0)
      (closing : Result (Files D) (StoreFault × FileStore D g)) : Type 0 where
    pub opened : StoreValue (FileStore D g)
    pub ended : StoreValue (FileStore D g)
    pub found : kept ended → HoldsContent over_files content opened
    pub serves : kept ended → Serves over_files opened
    pub untaken : opened.group.tally ≡ nothing_taken
    pub run : leads opened ended
    pub closes : ClosesTo ended closing
