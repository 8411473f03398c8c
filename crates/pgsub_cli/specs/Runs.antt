-- How a run ends, and what was printed then.
use Rattle.std.specs.Prelude.{◌≡◌, ◌⊎◌, ◌++◌, ◌≤◌, ◌-◌, ◌^◌, ℕ, List, [], ◌∷◌, Bool, Option, None}
use Rattle.std.specs.Prelude.{Some, Result, Ok, Err, codes, decimal, length, String, option_map}
use Rattle.std.specs.Prelude.{string_bytes}
use Rattle.std.specs.declared.alloc.AllocError.{AllocError}
use Rattle.std.specs.declared.alloc.Global.{Global}
use Rattle.std.specs.FinMap as map
use Rattle.pglsn.specs.Texts.{ReadsAs, lsn_text}
use Rattle.pgorder.specs.declared.Version.{Version}
use Rattle.pgorder.specs.declared.Version.TheVariants.{Two}
use Rattle.pgcommand.specs.declared.limits.Limits.{Limits}
use Rattle.pgapply.specs.Dump.{dump}
use Rattle.pgcommand.specs.declared.task.Task.{Task}
use Rattle.pgcommand.specs.declared.task.Task.TheVariants as task
use Rattle.pgsub_core.specs.declared.converging.ConvergeFault.{ConvergeFault}
use Rattle.pgsub_core.specs.declared.converging.Side.{Side}
use Rattle.pgsub_core.specs.declared.converging.Side.TheVariants.{Left, Right}
use Rattle.pgsub_core.specs.declared.converging.Verdict.{Verdict}
use Rattle.pgsub_core.specs.declared.converging.Verdict.TheVariants as verdict
use Rattle.pgsub_core.specs.declared.fault.Fault.{Fault}
use Rattle.pgsub_core.specs.declared.fault.Fault.TheVariants as fault
use Rattle.pgwire.specs.declared.session.Session.{Session}
use Rattle.pgsub_core.specs.Machine.Faults.{IsReadFault}
use Rattle.pgsub_core.specs.Subscriber.Subscribed.{Subscribed, bytes_of}
use Rattle.pgsub_core.specs.Subscriber.Verdicts.{IsVerdict}
use Rattle.pgsub_cli.specs.declared.fault.Ending.{Ending}
use Rattle.pgsub_cli.specs.declared.fault.Ending.TheVariants.{Done, Differs}
use Rattle.pgsub_cli.specs.declared.fault.RunFault.{RunFault}
use Rattle.pgsub_cli.specs.declared.fault.RunFault.TheVariants as run
use Rattle.pgsub_cli.specs.declared.printed.Printed.{Printed}
use Rattle.pgsub_cli.specs.declared.storing.Incoming.{Incoming}
use Rattle.pgsub_cli.specs.declared.storing.Incoming.TheVariants.{Sessions, Raw}
use Rattle.pgsub_cli.specs.Dumped.{PrintsHeld}
use Rattle.pgsub_cli.specs.DumpText.{dump_of}
use Rattle.pgsub_cli.specs.FaultTexts.{stop_line, memory_line}
use Rattle.pgsub_cli.specs.Followed.{Leaves, PrintsLed, lines_of, new_subscriber, resumed_lines_of}
use Rattle.pgsub_cli.specs.Limits.{default_limits}
use Rattle.pgsub_cli.specs.Recorded.{ComesOf, ComesNot, Records, IsUnread}
use Rattle.pgsub_cli.specs.Shown.{AreShown}
use Rattle.pgsub_cli.specs.Watched.{WritesWatched}

-- ---- the exit status: 0 done, 1 a stream that is rejected or memory that ran out, 2 usage, 3 a
-- fault of a file, 4 a difference

abbrev pub status_of_stream : Fault → ℕ
status_of_stream (fault.Wire f) = 1
status_of_stream (fault.Decode f) = 1
status_of_stream (fault.Order f) = 1
status_of_stream (fault.Relation f) = 1
status_of_stream (fault.Spool f) = 1
status_of_stream (fault.Store f) = 1
status_of_stream fault.Read = 3
status_of_stream fault.Closed = 1
status_of_stream fault.Memory = 1

abbrev pub status_of : Result Ending RunFault → ℕ
status_of (Ok Done) = 0
status_of (Ok Differs) = 4
status_of (Err (run.Stream f)) = status_of_stream f
status_of (Err (run.OfSide side f)) = 1
status_of (Err (run.NotHexadecimal line)) = 3
status_of (Err run.TooLong) = 3
status_of (Err (run.CannotRead side)) = 3
status_of (Err run.CannotWrite) = 3
status_of (Err run.NotAnLsn) = 2

-- ---- the line of the fault on standard error

-- the paths of what a task reads, as the command line names them
abbrev pub left_path : Task → List ℕ
left_path (task.Show version file) = string_bytes file
left_path (task.Apply version limits raw progress store cache feed file) = string_bytes file
left_path (task.Dump store cache) = string_bytes store
left_path (task.Follow version limits store cache feed spool watch repeats load trust) = string_bytes store
left_path (task.Same version left right) = string_bytes left
left_path (task.Resume file) = string_bytes file
left_path (task.Lsn text) = []
left_path (task.Watch version file) = string_bytes file

abbrev pub right_path : Task → List ℕ
right_path (task.Show version file) = []
right_path (task.Apply version limits raw progress store cache feed file) = []
right_path (task.Dump store cache) = []
right_path (task.Follow version limits store cache feed spool watch repeats load trust) = []
right_path (task.Same version left right) = string_bytes right
right_path (task.Resume file) = []
right_path (task.Lsn text) = []
right_path (task.Watch version file) = []

-- the file of the store that the command line names, if it names one
abbrev pub store_path : Task → Option (List ℕ)
store_path (task.Apply version limits raw progress store cache feed file) = option_map string_bytes store
store_path (task.Dump store cache) = Some (string_bytes store)
store_path (task.Follow version limits store cache feed spool watch repeats load trust) = Some (string_bytes store)
store_path _ = None

-- Standard error gets the line of the fault, and nothing where there is none. Where there is no
-- memory for that line, it gets the one that says so.
abbrev pub Tells : {E : Type 0} → (E → List ℕ → E → Type 0) → (E → Type 0) → List ℕ → List ℕ → Result Ending RunFault → E → E → Type 0
Tells takes failed left right (Ok ending) old new = new ≡ old
Tells takes failed left right (Err f) old new = takes old (stop_line f left right) new ⊎ (takes old memory_line new ⊎ failed old)

-- ---- the lines on standard output

-- the position that these sessions leave of an empty store, and what may be confirmed, where this
-- stops them
abbrev pub PrintsResumed : List Session → Option Fault → List ℕ → Type 0
PrintsResumed sessions stopped lines = PrintsLed resumed_lines_of (new_subscriber default_limits Two) (bytes_of sessions) stopped lines

abbrev pub PrintsShown : Version → List Session → Option Fault → List ℕ → Type 0
PrintsShown version sessions stopped lines = AreShown version (bytes_of sessions) lines stopped

-- the fault of feeding, where a read that failed is none
abbrev pub fault_of_feeding : Option Fault → Option Fault
fault_of_feeding None = None
fault_of_feeding (Some (fault.Wire f)) = Some (fault.Wire f)
fault_of_feeding (Some (fault.Decode f)) = Some (fault.Decode f)
fault_of_feeding (Some (fault.Order f)) = Some (fault.Order f)
fault_of_feeding (Some (fault.Relation f)) = Some (fault.Relation f)
fault_of_feeding (Some (fault.Spool f)) = Some (fault.Spool f)
fault_of_feeding (Some (fault.Store f)) = Some (fault.Store f)
fault_of_feeding (Some fault.Read) = None
fault_of_feeding (Some fault.Closed) = Some fault.Closed
fault_of_feeding (Some fault.Memory) = Some fault.Memory

module _ {R : Type 0} (gives begins : R → List ℕ → Type 0) (failed : R → Type 0) where
  -- Which bytes of a file were read where this stopped: all of them, or its first ones. Nothing
  -- stops it after 2^64 - 1 bytes either.
  abbrev pub AreRead : R → List ℕ → Option Fault → Type 0
  AreRead file bytes None = gives file bytes ⊎ (begins file bytes × (2 ^ 64 - 1 ≤ length bytes))
  AreRead file bytes (Some fault.Read) = begins file bytes × failed file
  AreRead file bytes (Some f) = begins file bytes

  -- This is said of what came, as the bytes of sessions, and of the fault that stopped them: those
  -- of a recording, or what was read of a file as one session. A read that failed is no fault of
  -- theirs.
  abbrev pub ForSessions : Incoming R → Option Fault → (List (List ℕ) → Option Fault → Type 0) → Type 0
  ForSessions (Sessions sessions) stopped said = said (bytes_of sessions.items) stopped
  ForSessions (Raw file) stopped said = (bytes : List ℕ) × AreRead file bytes stopped × said (bytes ∷ []) (fault_of_feeding stopped)

  -- the rows and the position that what comes leaves of an empty store
  abbrev pub PrintsApplied : Limits → Version → Incoming R → Option Fault → List ℕ → Type 0
  PrintsApplied limits version incoming stopped lines =
      ForSessions incoming stopped (λ sessions f. PrintsLed lines_of (new_subscriber limits version) sessions f lines)

  -- so it is by what comes, if anything does
  abbrev pub PrintsNew : Limits → Option (Version × Incoming R) → Option Fault → List ℕ → Type 0
  PrintsNew limits None stopped lines = (stopped ≡ None) × (lines ≡ dump_of (dump map.empty) 0)
  PrintsNew limits (Some (version, incoming)) stopped lines = PrintsApplied limits version incoming stopped lines

abbrev pub verdict_line : Verdict → List ℕ
verdict_line (verdict.Same p) = codes "same " ++ (lsn_text p ++ 10 ∷ [])
verdict_line (verdict.Positions p q) = codes "positions " ++ (lsn_text p ++ (codes " " ++ (lsn_text q ++ 10 ∷ [])))
verdict_line (verdict.Rows p) = codes "rows differ at " ++ (lsn_text p ++ 10 ∷ [])

abbrev pub ending_of : Verdict → Ending
ending_of (verdict.Same p) = Done
ending_of (verdict.Positions p q) = Differs
ending_of (verdict.Rows p) = Differs

-- an LSN as a number and as text
abbrev pub number_line : ℕ → List ℕ
number_line n = decimal n ++ (codes " " ++ (lsn_text n ++ 10 ∷ []))

-- ---- how tasks end

-- these lines were made, and this stopped them
abbrev pub IsPrinted : Result Printed Fault → Option Fault → List ℕ → Type 0
IsPrinted printed stopped lines = (made : Printed) × (printed ≡ Ok made) × (made.stopped ≡ stopped) × (lines ≡ string_bytes made.lines)

-- no lines could be made
abbrev pub IsLost : Result Printed Fault → Fault → Type 0
IsLost printed f = printed ≡ Err f

module _ {W : Type 0} (takes : W → List ℕ → W → Type 0) (failed : W → Type 0) where
  -- Lines are written, whatever stopped what they are of, and nothing where there are none.
  abbrev pub Writes : (Fault → Type 0) → (Option Fault → List ℕ → Type 0) → W → W → Result Ending RunFault → Type 0
  Writes lost prints old new (Ok Done) = (lines : List ℕ) × prints None lines × takes old lines new
  Writes lost prints old new (Ok Differs) = ⊥
  Writes lost prints old new (Err (run.Stream f)) =
      (lost f × (new ≡ old)) ⊎ ((lines : List ℕ) × prints (Some f) lines × takes old lines new)
  Writes lost prints old new (Err run.CannotWrite) = failed old
  Writes lost prints old new (Err _) = ⊥

  -- a line is written, and this is how a run ends then
  abbrev pub WritesLine : Result (String Global) AllocError → Ending → W → W → Result Ending RunFault → Type 0
  WritesLine line ending old new (Ok e) = (e ≡ ending) × ((text : String Global) × (line ≡ Ok text) × takes old (string_bytes text) new)
  WritesLine line ending old new (Err (run.Stream f)) = (f ≡ fault.Memory) × (new ≡ old)
  WritesLine line ending old new (Err run.CannotWrite) = failed old
  WritesLine line ending old new (Err _) = ⊥

  -- an LSN is read from a text
  abbrev pub WritesNumber : List ℕ → W → W → Result Ending RunFault → Type 0
  WritesNumber text old new (Ok Done) = (n : ℕ) × ReadsAs text n × takes old (number_line n) new
  WritesNumber text old new (Ok Differs) = ⊥
  WritesNumber text old new (Err (run.Stream f)) = (f ≡ fault.Memory) × (new ≡ old)
  WritesNumber text old new (Err run.CannotWrite) = failed old
  WritesNumber text old new (Err run.NotAnLsn) = ((n : ℕ) → ReadsAs text n → ⊥) × (new ≡ old)
  WritesNumber text old new (Err _) = ⊥

-- what both sides' sessions leave has this verdict
abbrev pub AreComparedAs : Version → List Session → List Session → Verdict → Type 0
AreComparedAs version left right v =
    (state : Subscribed) × (other : Subscribed) × Leaves default_limits version (bytes_of left) None state
    × Leaves default_limits version (bytes_of right) None other × IsVerdict state other v

-- the sessions of a side were stopped by this, or what they leave can't be read
abbrev pub SideStops : Version → List Session → Fault → Type 0
SideStops version sessions f = IsReadFault f ⊎ ((state : Subscribed) × Leaves default_limits version (bytes_of sessions) (Some f) state)

-- The left one's sessions are followed and its rows read, and then the right one's.
abbrev pub Uncompared : Version → List Session → List Session → Side → Fault → Type 0
Uncompared version left right Left f = SideStops version left f
Uncompared version left right Right f =
    ((state : Subscribed) × Leaves default_limits version (bytes_of left) None state) × SideStops version right f

abbrev pub IsUncompared : Version → List Session → List Session → ConvergeFault → Type 0
IsUncompared version left right f = Uncompared version left right f.side f.fault

module _ {W : Type 0} (takes : W → List ℕ → W → Type 0) (failed : W → Type 0) where
  -- a verdict is written
  abbrev pub WritesVerdict : Verdict → W → W → Result Ending RunFault → Type 0
  WritesVerdict v old new (Ok ending) = (ending ≡ ending_of v) × takes old (verdict_line v) new
  WritesVerdict v old new (Err (run.Stream f)) = (f ≡ fault.Memory) × (new ≡ old)
  WritesVerdict v old new (Err run.CannotWrite) = failed old
  WritesVerdict v old new (Err _) = ⊥

  -- The sessions of both sides are compared: the left one's are followed first, and its fault comes
  -- first.
  abbrev pub ComparesSessions : Version → List Session → List Session → W → W → Result Ending RunFault → Type 0
  ComparesSessions version left right old new ended =
      ((v : Verdict) × AreComparedAs version left right v × WritesVerdict v old new ended)
      ⊎ ((side : Side) × (f : Fault) × (ended ≡ Err (run.OfSide side f)) × Uncompared version left right side f × (new ≡ old))

module _ {R W : Type 0} (gives begins : R → List ℕ → Type 0) (read_failed : R → Type 0) (takes : W → List ℕ → W → Type 0)
    (write_failed : W → Type 0) where
  -- A recording is read, and then lines are written that its sessions give. Where it can't be read,
  -- nothing is.
  abbrev pub Prints : (Fault → Type 0) → (List Session → Option Fault → List ℕ → Type 0) → Option R → W → W → Result Ending RunFault
      → Type 0
  Prints lost prints file old new ended =
      ((f : RunFault) × (ended ≡ Err f) × IsUnread gives read_failed Left file f × (new ≡ old))
      ⊎ ((sessions : List Session) × Records gives file sessions × Writes takes write_failed lost (prints sessions) old new ended)

  -- What comes of a file is applied to an empty store, and the lines of what it leaves are printed.
  -- Where nothing comes of it, nothing is.
  abbrev pub Applies : Limits → Version → Bool → Option R → W → W → Result Ending RunFault → Type 0
  Applies limits version raw file old new ended =
      ((f : RunFault) × (ended ≡ Err f) × ComesNot gives read_failed raw file f × (new ≡ old))
      ⊎ ((incoming : Incoming R) × ComesOf gives read_failed raw file incoming
      × PrintsHeld takes write_failed (PrintsApplied gives begins read_failed limits version incoming) old new ended)

  -- Why two recordings aren't read: both are opened first, and then the left one is read before the
  -- right one.
  abbrev pub AreUnread : Option R → Option R → RunFault → Type 0
  AreUnread None right f = f ≡ run.CannotRead Left
  AreUnread (Some left) None f = f ≡ run.CannotRead Right
  AreUnread (Some left) (Some right) f =
      IsUnread gives read_failed Left (Some left) f
      ⊎ ((sessions : List Session) × Records gives (Some left) sessions × IsUnread gives read_failed Right (Some right) f)

  abbrev pub Compares : Version → Option R → Option R → W → W → Result Ending RunFault → Type 0
  Compares version left right old new ended =
      ((f : RunFault) × (ended ≡ Err f) × AreUnread left right f × (new ≡ old))
      ⊎ ((sessions : List Session) × (others : List Session) × Records gives left sessions × Records gives right others
      × ComparesSessions takes write_failed version sessions others old new ended)

  -- The sessions of a recording are watched. Where it can't be read, nothing is written.
  abbrev pub Watches : Version → Option R → W → W → Result Ending RunFault → Type 0
  Watches version file old new ended =
      ((f : RunFault) × (ended ≡ Err f) × IsUnread gives read_failed Left file f × (new ≡ old))
      ⊎ ((sessions : List Session) × Records gives file sessions
      × WritesWatched takes write_failed version (bytes_of sessions) old new ended)

  -- How each task ends that names no store. Of `show` no line is lost. Where the store can't be
  -- read or memory runs out, `resume` loses its lines, and `apply` those that aren't printed yet.
  abbrev pub Ends : Task → Option R → Option R → W → W → Result Ending RunFault → Type 0
  Ends (task.Show version file) left right old new ended = Prints (λ f. ⊥) (PrintsShown version) left old new ended
  Ends (task.Apply version limits raw progress store cache feed file) left right old new ended =
      Applies limits version raw left old new ended
  Ends (task.Dump store cache) left right old new ended = ⊥
  Ends (task.Follow version limits store cache feed spool watch repeats load trust) left right old new ended = ⊥
  Ends (task.Same version file other) left right old new ended = Compares version left right old new ended
  Ends (task.Resume file) left right old new ended = Prints IsReadFault PrintsResumed left old new ended
  Ends (task.Lsn text) left right old new ended = WritesNumber takes write_failed (string_bytes text) old new ended
  Ends (task.Watch version file) left right old new ended = Watches version left old new ended
