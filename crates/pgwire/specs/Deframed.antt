-- What a deframer holds, and what its calls do to it.
use Rattle.std.specs.Prelude.{◌≡◌, ◌<◌, ◌≤◌, ◌-◌, ◌⊎◌, min, ℕ, List, [], ◌++◌, Bool, true, false}
use Rattle.std.specs.Prelude.{length, take, Option, Some, None, Result, Ok, Err}
use Rattle.pgwire.specs.declared.fault.WireFault.{WireFault}
use Rattle.pgwire.specs.declared.fault.WireFault.TheVariants.{Memory}
use Rattle.pgwire.specs.Frames.{Frame, CopyData, CopyDone, frame, length_of, IsAllowed, IsPartial}
use Rattle.pgwire.specs.Frames.{IsFramingFault}

-- The limit of payloads, the bytes after the frames that were released, whether CopyDone was one of
-- these, the fault that is returned from now on, and the bytes of a payload for which there is
-- room.
pub record Deframed : Type 0 where
  pub max : ℕ
  pub held : List ℕ
  pub done : Bool
  pub fault : Option WireFault
  pub room : ℕ

abbrev pub fresh : ℕ → Deframed
fresh max = record { max = max; held = []; done = false; fault = None; room = 0 }

-- this frame is complete, and nothing follows it
pub record Stands (d : Deframed) (f : Frame) : Type 0 where
  pub allowed : IsAllowed d.max f
  pub whole : d.held ≡ frame f
  pub first : d.done ≡ false
  pub fault : d.fault ≡ None

-- less than a whole frame is held, and nothing after CopyDone
pub record Waits (d : Deframed) : Type 0 where
  pub partial : IsPartial d.max d.held
  pub last : d.done ≡ true → d.held ≡ []

abbrev pub StandsOrWaits : Deframed → Type 0
StandsOrWaits d = ((f : Frame) × Stands d f) ⊎ Waits d

-- A piece was fed. Bytes are taken until a frame is complete or the piece is used up; the room may
-- grow then. A fault comes where what is held and the piece can't begin with a frame, and stays.
-- Out of memory changes nothing, and is never returned in place of a fault or for a header alone.
abbrev pub IsFed : Deframed → List ℕ → Result ℕ WireFault → Deframed → Type 0
IsFed old piece (Ok n) new =
    (old.fault ≡ None) × (n ≤ length piece) × (new ≡ record old { held = old.held ++ take n piece; room = new.room })
    × (((f : Frame) × Stands new f) ⊎ ((n ≡ length piece) × Waits new))
IsFed old piece (Err Memory) new =
    (old.fault ≡ None) × (new ≡ old) × Waits old × (5 < length (old.held ++ piece))
    × ((fault : WireFault) → IsFramingFault old.max old.done (old.held ++ piece) fault → ⊥)
IsFed old piece (Err fault) new =
    (new ≡ record old { fault = Some fault }) × Waits old
    × ((old.fault ≡ Some fault) ⊎ ((old.fault ≡ None) × IsFramingFault old.max old.done (old.held ++ piece) fault))

-- how many bytes of the first frame's payload are among these, which begin with its header
abbrev pub payload_come : List ℕ → ℕ
payload_come bytes = min (length bytes - 5) (length_of bytes - 4)

abbrev pub is_copy_done : Frame → Bool
is_copy_done (CopyData bytes) = false
is_copy_done CopyDone = true

-- the complete frame is forgotten
abbrev pub after_release : Deframed → Frame → Deframed
after_release old f = record old { held = []; done = is_copy_done f }

pub record IsReleased (old new : Deframed) : Type 0 where
  pub stood : (f : Frame) → Stands old f → new ≡ after_release old f
  pub waited : Waits old → new ≡ old
