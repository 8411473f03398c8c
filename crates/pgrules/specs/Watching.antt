-- PostgreSQL documentation, Streaming Replication Protocol and Logical Streaming Replication
-- Protocol: a session under a watch, frame by frame.
use Rattle.std.specs.Prelude.{◌≡◌, ◌≢◌, ◌⊎◌, ◌+◌, ℕ, ℤ, List, [], ◌∷◌, ◌++◌, Bool, true, Ok, Err}
use Rattle.std.specs.Prelude.{length}
use Rattle.std.specs.List.{AllByRecursion}
use Rattle.pgwire.specs.declared.fault.WireFault.TheVariants as wire_fault
use Rattle.pgwire.specs.Frames as wire
use Rattle.pgwire.specs.Payloads.{XLogData, payload, HasPayloadFault}
use Rattle.pglogical.specs.Laws as laws
use Rattle.pglogical.specs.Spelling.{IsMessageFor}
use Rattle.pgorder.specs.declared.Version.{Version}
use Rattle.pgorder.specs.States.{is_in_block}
use Rattle.pgwatch.specs.declared.fault.Breach.TheVariants as breach
use Rattle.pgwatch.specs.declared.watch.Watch.{Watch}
use Rattle.pgwatch.specs.Hearing.{hear, at_start}
use Rattle.pgsub_core.specs.Server.Stream.{Sent, Data, Keepalive}
use Rattle.pgsub_core.specs.Server.Sessions.{server_message, frames_of, last_frame, whole_frames}
use Rattle.pgsub_core.specs.Server.Sessions.{IsWireSent}
use Rattle.pgwatched.specs.Watched.{Framed, heard_of, sent_of, hear_all, AreDecoded}
use Rattle.pgrules.specs.declared.findings.End.{End}
use Rattle.pgrules.specs.declared.findings.End.TheVariants as end
use Rattle.pgrules.specs.declared.findings.Findings.{Findings}
use Rattle.pgrules.specs.declared.seen.Seen.{Seen}
use Rattle.pgrules.specs.Seen.{nothing_seen, seen_after, with_sent}

-- ---- one frame

abbrev pub frame_of : Sent → wire.Frame
frame_of s = wire.CopyData (payload (server_message s))

-- a message carries an xid exactly inside a block
abbrev pub IsDecoded : Bool → Sent → Type 0
IsDecoded in_block (Data start end clock m) = IsMessageFor in_block m
IsDecoded in_block (Keepalive end clock reply) = Unit {0}

-- its numbers and texts are those of the wire, and it says this in the place where it comes
abbrev pub Says : Watch → wire.Frame → Sent → Type 0
Says w frame s = (frame ≡ frame_of s) × (wire.IsAllowed 2147483643 frame → IsWireSent s) × IsDecoded (is_in_block w.order.state.context) s

-- it is heard, or it is CopyDone
abbrev pub HearsFrame : Watch → Seen → ℕ → wire.Frame → Watch → Seen → Type 0
HearsFrame w seen at frame w' seen' =
    ((s : Sent) × Says w frame s × (hear w (heard_of at s) ≡ Ok w') × (seen' ≡ with_sent seen s))
    ⊎ ((frame ≡ wire.CopyDone) × (w' ≡ w) × (seen' ≡ seen))

-- XLogData of whose data this holds
abbrev pub OfData : wire.Frame → (List ℕ → Type 0) → Type 0
OfData frame Holds =
    (start : ℕ) × (last : ℕ) × (clock : ℤ) × (body : List ℕ) × (frame ≡ wire.CopyData (payload (XLogData start last clock body)))
    × Holds body

-- why the watch ends at a frame
abbrev pub EndsAtFrame : Watch → ℕ → wire.Frame → End → Type 0
EndsAtFrame w at frame end.Whole = ⊥
EndsAtFrame w at frame (end.Ended b) =
    (s : Sent) × Says w frame s × (b ≢ breach.Memory at → hear w (heard_of at s) ≡ Err b)
EndsAtFrame w at frame (end.Unframed place fault) = ⊥
EndsAtFrame w at frame (end.Unsaid place fault) =
    (place ≡ at) × (bytes : List ℕ) × (frame ≡ wire.CopyData bytes) × HasPayloadFault bytes fault
EndsAtFrame w at frame (end.Undecoded place fault) =
    (place ≡ at) × OfData frame (λ body. laws.IsFaultOf (is_in_block w.order.state.context) body fault)

-- ---- all frames

-- each has its offset, the first one this
abbrev pub ArePlaced : ℕ → List Framed → Type 0
ArePlaced at [] = Unit {0}
ArePlaced at (f ∷ fs) = (f.at ≡ at) × ArePlaced (at + length (wire.frame (frame_of f.sent))) fs

-- The bytes are the frames of what was heard well, with CopyDone or without, and then this rest.
pub record IsHeard (v : Version) (max limit : ℕ) (bytes : List ℕ) (fs : List Framed) (done : Bool) (rest : List ℕ) (w : Watch)
    : Type 0 where
  pub whole : bytes ≡ whole_frames (sent_of fs) done ++ rest
  pub each : wire.AreFrames max (frames_of (sent_of fs) ++ last_frame done)
  pub fits : AllByRecursion IsWireSent (sent_of fs)
  pub decoded : AreDecoded fs
  pub placed : ArePlaced 0 fs
  pub heard : hear_all (at_start v 0 limit) fs ≡ Ok w

-- the next frame, at the offset of the rest, ends the watch
pub record EndsNext (max : ℕ) (sent : List Sent) (done : Bool) (rest : List ℕ) (w : Watch) (e : End) : Type 0 where
  pub frame : wire.Frame
  pub later : List ℕ
  pub next : rest ≡ wire.frame frame ++ later
  pub allowed : wire.IsAllowed max frame
  pub ends : EndsAtFrame w (length (whole_frames sent done)) frame e

-- Why the watch ends: less than a frame is left; what is left begins with none, or memory ran out;
-- or the next frame ends it.
abbrev pub Ends : ℕ → List Sent → Bool → List ℕ → Watch → End → Type 0
Ends max sent done rest w end.Whole = wire.IsPartial max rest × (done ≡ true → rest ≡ [])
Ends max sent done rest w (end.Ended b) = EndsNext max sent done rest w (end.Ended b)
Ends max sent done rest w (end.Unframed at fault) =
    (at ≡ length (whole_frames sent done)) × (fault ≢ wire_fault.Memory → wire.IsFramingFault max done rest fault)
Ends max sent done rest w (end.Unsaid at fault) = EndsNext max sent done rest w (end.Unsaid at fault)
Ends max sent done rest w (end.Undecoded at fault) = EndsNext max sent done rest w (end.Undecoded at fault)

-- What is found of a session.
pub record IsFound (v : Version) (max limit : ℕ) (bytes : List ℕ) (found : Findings) : Type 0 where
  pub fs : List Framed
  pub done : Bool
  pub rest : List ℕ
  pub watch : Watch
  pub is : IsHeard v max limit bytes fs done rest watch
  pub seen : found.seen ≡ seen_after nothing_seen (sent_of fs)
  pub ends : Ends max (sent_of fs) done rest watch found.end
