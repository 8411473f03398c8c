-- How following a server from standard input ends.
use Rattle.std.specs.Prelude.{◌≡◌, ◌⊎◌, ℕ, List, Bool, true, false, Option, None, Some, is_some}
use Rattle.pgcommand.specs.declared.task.Task.{Task}
use Rattle.pgcommand.specs.declared.task.Task.TheVariants.{Follow}
use Rattle.pgcommand.specs.declared.watching.Watching.{Watching}
use Rattle.pgcommand.specs.Parts.{loads}
use Rattle.pgpast.specs.declared.fault.NotesFault.{NotesFault}
use Rattle.pgpast.specs.Telling.{status_of_notes}
use Rattle.pgspool.specs.declared.fault.SpoolFault.{SpoolFault}
use Rattle.pgsub_core.specs.declared.fault.Fault.TheVariants.{Spool}
use Rattle.pgsub_cli.specs.FaultTexts.{memory_line}
use Rattle.pgsub_cli.specs.FollowStatus.{status_of_fault}
use Rattle.pgsystem.specs.Spooling.{IsOfMaking}

-- a file is named for the changes of open transactions
abbrev pub names_spool : Task → Bool
names_spool (Follow version limits store cache feed spool watch repeats load trust) = is_some spool
names_spool _ = false

-- one is named in which commits are noted
abbrev pub names_notes : Task → Bool
names_notes (Follow version limits store cache feed spool watch repeats load trust) = is_some repeats
names_notes _ = false

-- standard error gets the line, or that there is no memory for it
abbrev pub TellsLine : {E : Type 0} → (E → List ℕ → E → Type 0) → (E → Type 0) → List ℕ → E → E → Type 0
TellsLine takes failed line old new = takes old line new ⊎ (takes old memory_line new ⊎ failed old)

-- the status of a follower, where 17 may stand for 15: the reader stopped at what the server broke
abbrev pub EndsAs : (ℕ → Type 0) → ℕ → Type 0
EndsAs ends status = (ran : ℕ) × ends ran × ((status ≡ ran) ⊎ ((ran ≡ 15) × (status ≡ 17)))

-- why the commits of a watched server aren't compared: the file in which they are noted
abbrev pub IsUncompared : ℕ → Type 0
IsUncompared status = (f : NotesFault) × (status ≡ status_of_notes f)

-- Why a watched server isn't followed: memory ran out; or commits are to be noted, and a load comes
-- first, or the file can't be used.
abbrev pub IsUnwatched : Task → ℕ → Type 0
IsUnwatched task status =
    (status ≡ 14) ⊎ ((names_notes task ≡ true) × (((loads task ≡ true) × (status ≡ 2)) ⊎ IsUncompared status))

-- Of a server that isn't watched the status is the follower's.
abbrev pub Serves : (ℕ → Type 0) → Task → Option Watching → ℕ → Type 0
Serves ends task None status = ends status
Serves ends task (Some how) status = EndsAs ends status ⊎ IsUnwatched task status

-- the file that is named for the changes of open transactions can't be made
abbrev pub IsUnspooled : Task → ℕ → Type 0
IsUnspooled task status = (names_spool task ≡ true) × (f : SpoolFault) × IsOfMaking f × (status ≡ status_of_fault (Spool f))
