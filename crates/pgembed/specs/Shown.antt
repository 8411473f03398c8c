-- The lines of a session, by its bytes.
use Rattle.std.specs.Prelude.{◌≡◌, ℕ, List, ◌++◌, Result}
use Rattle.pgorder.specs.declared.Version.{Version}
use Rattle.pgshow.specs.declared.fault.Fault.{Fault}
use Rattle.pgshow.specs.Shown.{IsShownAs, fault_in}

-- the lines of the frames were appended, up to the fault that is returned
abbrev pub Shows : Version → List ℕ → List ℕ → List ℕ → Result (Unit {0}) Fault → Type 0
Shows version session old new result = (text : List ℕ) × (new ≡ old ++ text) × IsShownAs version 16777216 session text (fault_in result)
