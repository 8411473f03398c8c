-- The sessions of a recording, and what comes of a file.
use Rattle.std.specs.Prelude.{◌≡◌, ◌≤◌, ◌<◌, ℕ, Bool, true, false, List, length, Ok, Err, Option}
use Rattle.std.specs.Prelude.{None, Some, IfSome, IsSome}
use Rattle.pgsub_core.specs.declared.fault.Fault.TheVariants as fault
use Rattle.pgwire.specs.declared.session.Session.{Session}
use Rattle.pgsub_core.specs.declared.converging.Side.{Side}
use Rattle.pgsub_core.specs.declared.converging.Side.TheVariants.{Left}
use Rattle.pgcapture.specs.Capture.{sessions_of}
use Rattle.pgsub_cli.specs.declared.fault.RunFault.{RunFault}
use Rattle.pgsub_cli.specs.declared.fault.RunFault.TheVariants as run
use Rattle.pgsub_cli.specs.declared.storing.Incoming.{Incoming}
use Rattle.pgsub_cli.specs.declared.storing.Incoming.TheVariants.{Sessions, Raw}
use Rattle.pgsub_cli.specs.Limits.{longest_recording}

module _ {R : Type 0} (gives : R → List ℕ → Type 0) where
  -- the bytes of a file that could be opened
  abbrev pub Reads : Option R → List ℕ → Type 0
  Reads file text = (source : R) × (file ≡ Some source) × gives source text

  -- of a text within the limit
  abbrev pub ReadsRecording : Option R → List ℕ → Type 0
  ReadsRecording file text = Reads file text × (length text ≤ longest_recording)

  -- the sessions that it has
  abbrev pub Records : Option R → List Session → Type 0
  Records file sessions = (text : List ℕ) × ReadsRecording file text × (sessions_of text ≡ Ok sessions)

  -- Why the sessions on a side aren't read: memory ran out, a line isn't hexadecimal, the text is
  -- longer than the limit, or the file can't be opened or read.
  abbrev pub IsUnread : (R → Type 0) → Side → Option R → RunFault → Type 0
  IsUnread failed side file (run.Stream f) = (f ≡ fault.Memory) × IsSome file
  IsUnread failed side file (run.OfSide s f) = ⊥
  IsUnread failed side file (run.NotHexadecimal line) = (text : List ℕ) × ReadsRecording file text × (sessions_of text ≡ Err line)
  IsUnread failed side file run.TooLong = (text : List ℕ) × Reads file text × (longest_recording < length text)
  IsUnread failed side file (run.CannotRead s) = (s ≡ side) × IfSome file failed
  IsUnread failed side file run.CannotWrite = ⊥
  IsUnread failed side file run.NotAnLsn = ⊥

  module _ (failed : R → Type 0) where
    -- this comes of a file: with `raw` its bytes, and else the sessions of the recording in it
    abbrev pub ComesOf : Bool → Option R → Incoming R → Type 0
    ComesOf raw file (Sessions sessions) = (raw ≡ false) × Records file sessions.items
    ComesOf raw file (Raw source) = (raw ≡ true) × (file ≡ Some source)

    -- why nothing comes of it: a file whose bytes are fed has only to be opened
    abbrev pub ComesNot : Bool → Option R → RunFault → Type 0
    ComesNot true file f = (file ≡ None) × (f ≡ run.CannotRead Left)
    ComesNot false file f = IsUnread failed Left file f
