-- When a recording is rejected.
use Rattle.std.specs.Prelude.{◌≡◌, List, Result, Err, IsOk, ℕ}
use Rattle.pgwire.specs.declared.session.Session.{Session}
use Rattle.pgcapture.specs.declared.fault.CaptureFault.{CaptureFault}
use Rattle.pgcapture.specs.declared.fault.CaptureFault.TheVariants.{NotHexadecimal, Memory}

-- a rejected line is the first that can't be read; only a text whose lines can all be read runs out
-- of memory
abbrev pub IsRefused : CaptureFault → Result (List Session) ℕ → Type 0
IsRefused (NotHexadecimal number) sessions = sessions ≡ Err number
IsRefused Memory sessions = IsOk sessions
