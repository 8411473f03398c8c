-- The lines of a recording: those of each session, and `--` for each disconnection.
use Rattle.std.specs.Prelude.{◌≡◌, ◌⊎◌, ◌++◌, ℕ, List, [], ◌∷◌, Option, None, Some, Result, String}
use Rattle.std.specs.Prelude.{codes, string_bytes}
use Rattle.std.specs.Result.{result_err}
use Rattle.std.specs.declared.alloc.Global.{Global}
use Rattle.pgorder.specs.declared.Version.{Version}
use Rattle.pgshow.specs.declared.fault.Fault as show
use Rattle.pgshow.specs.declared.fault.Fault.TheVariants as shown
use Rattle.pgshow.specs.Shown.{IsShownAs}
use Rattle.pgsub_core.specs.declared.fault.Fault.{Fault}
use Rattle.pgsub_core.specs.declared.fault.Fault.TheVariants as fault
use Rattle.pgsub_cli.specs.Limits.{longest_payload}

abbrev pub disconnection_line : List ℕ
disconnection_line = codes "--" ++ 10 ∷ []

-- a fault of showing is one of following
abbrev pub fault_of_show : show.Fault → Fault
fault_of_show (shown.Wire f) = fault.Wire f
fault_of_show (shown.Decode f) = fault.Decode f
fault_of_show (shown.Order f) = fault.Order f
fault_of_show shown.Memory = fault.Memory

-- the lines of a session that was stopped, and nothing after them
abbrev pub StopsIn : Version → List ℕ → List ℕ → List ℕ → Option Fault → Type 0
StopsIn version bytes head rest stopped =
    (f : show.Fault) × IsShownAs version longest_payload bytes head (Some f) × (rest ≡ []) × (stopped ≡ Some (fault_of_show f))

-- a session is shown by these lines, up to the fault that stopped it, if one did
abbrev pub IsShown : Version → List ℕ → List ℕ → Option Fault → Type 0
IsShown version bytes lines stopped =
    (IsShownAs version longest_payload bytes lines None × (stopped ≡ None)) ⊎ StopsIn version bytes lines [] stopped

-- What follows the first session: each later one has a line for the disconnection before it, unless
-- there is no memory for that.
abbrev pub AreShownLater : Version → List (List ℕ) → List ℕ → Option Fault → Type 0
AreShownLater version [] lines stopped = (lines ≡ []) × (stopped ≡ None)
AreShownLater version (bytes ∷ sessions) lines stopped =
    ((lines ≡ []) × (stopped ≡ Some fault.Memory))
    ⊎ ((head : List ℕ) × (rest : List ℕ) × (lines ≡ disconnection_line ++ (head ++ rest))
    × ((IsShownAs version longest_payload bytes head None × AreShownLater version sessions rest stopped)
    ⊎ StopsIn version bytes head rest stopped))

-- Sessions are shown by these lines, up to the first fault. Where memory runs out, they are the
-- lines of some sessions and frames.
abbrev pub AreShown : Version → List (List ℕ) → List ℕ → Option Fault → Type 0
AreShown version [] lines stopped = (lines ≡ []) × (stopped ≡ None)
AreShown version (bytes ∷ sessions) lines stopped =
    (head : List ℕ) × (rest : List ℕ) × (lines ≡ head ++ rest)
    × ((IsShownAs version longest_payload bytes head None × AreShownLater version sessions rest stopped)
    ⊎ StopsIn version bytes head rest stopped)

-- Lines of which this holds were put behind the old ones, up to the fault.
abbrev pub AddsLines : (List ℕ → Option Fault → Type 0) → String Global → String Global → Result (Unit {0}) Fault → Type 0
AddsLines Shows old new result = (lines : List ℕ) × (string_bytes new ≡ string_bytes old ++ lines) × Shows lines (result_err result)
