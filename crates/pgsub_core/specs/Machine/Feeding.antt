-- PostgreSQL documentation, Message Formats (CopyData, CopyDone) and Streaming Replication
-- Protocol: what feeding a piece of a session's bytes leaves, however they are cut.
use Rattle.std.specs.Prelude.{◌≡◌, ◌≢◌, ◌<◌, ◌⊎◌, ◌++◌, ℕ, ℤ, List, [], ◌∷◌, Bool, true, false}
use Rattle.std.specs.Prelude.{Option, Some, None, Ok, if◌then◌else◌}
use Rattle.pglogical.specs.Reading.{message_at}
use Rattle.pglogical.specs.declared.message.Message.{Message}
use Rattle.pgorder.specs.States.{is_in_block}
use Rattle.pgorder.specs.declared.Version.{Version}
use Rattle.pgapply.specs.declared.fault.StoreFault.TheVariants as store
use Rattle.pgwire.specs.Frames as wire
use Rattle.pgwire.specs.Payloads.{payload_at}
use Rattle.pgwire.specs.declared.fault.WireFault.{WireFault}
use Rattle.pgsub_core.specs.declared.fault.Fault.{Fault}
use Rattle.pgsub_core.specs.declared.fault.Fault.TheVariants as fault
use Rattle.pgsub_core.specs.Server.History.{Transaction}
use Rattle.pgsub_core.specs.Server.Stream.{Sent, Data}
use Rattle.pgsub_core.specs.Machine.Replica.{Running, Stopped}
use Rattle.pgsub_core.specs.Server.Sessions.{IsIncoming, EndsForeign}
use Rattle.pgsub_core.specs.Subscriber.Subscribed.{Subscribed, disconnect}
use Rattle.pgsub_core.specs.Machine.Taking.{take_all, take_frame, take_frames, ReachesStore}
use Rattle.pgsub_core.specs.Subscriber.Safely.{IsHandled}
use Rattle.pgsub_core.specs.Subscriber.Handled.{IsLeft, commit_end}
use Rattle.pgsub_core.specs.Subscriber.Causes.{Cause, OutOfMemory, StatementRefused, HeaderTooLarge}
use Rattle.pgsub_core.specs.Subscriber.Causes.{ForeignBytes, NextMessage, NeverAnswered, cause}
use Rattle.pgsub_core.specs.Subscriber.Causes.{SpoolFailed}
use Rattle.pgsub_core.specs.Subscriber.HandledLaws.{StopsBy}

-- CopyDone stays the last frame of its session
abbrev pub done_frames : Subscribed → List wire.Frame
done_frames s = if s.copy_done then wire.CopyDone ∷ [] else []

-- the bytes of the session that aren't in frames of messages behind it, with the piece
abbrev pub waiting : Subscribed → List ℕ → List ℕ
waiting s piece = wire.frames (done_frames s) ++ (s.partial ++ piece)

-- All frames that stand whole are taken, and less than a frame is left.
pub record IsFedWhole (now : ℤ) (old : Subscribed) (piece : List ℕ) (new : Subscribed) : Type 0 where
  pub fs : List wire.Frame
  pub rest : List ℕ
  pub state : Subscribed
  pub deframed : wire.IsDeframedAs old.max_frame (waiting old piece) (done_frames old ++ fs) rest
  pub takes : take_frames now old fs ≡ Running state
  pub left : new ≡ record state { partial = rest }

-- the bytes begin with a frame; behind CopyDone none is read
pub record BeginsWith (max : ℕ) (done : Bool) (bytes : List ℕ) (f : wire.Frame) : Type 0 where
  pub more : List ℕ
  pub going_on : done ≡ false
  pub whole : bytes ≡ wire.frame f ++ more
  pub allowed : wire.IsAllowed max f

-- the frame is a commit whose end passes the position
pub record IsCommitFrame (s : Subscribed) (f : wire.Frame) : Type 0 where
  pub payload : List ℕ
  pub start : ℕ
  pub current : ℕ
  pub clock : ℤ
  pub body : List ℕ
  pub message : Message
  pub end : ℕ
  pub frame : f ≡ wire.CopyData payload
  pub xlog_data : payload_at payload ≡ Ok (wire.XLogData start current clock body)
  pub decodes : message_at (is_in_block s.order.context) body ≡ Ok message
  pub commits : commit_end (Data start current clock message) ≡ Some end
  pub passes : s.position < end

-- Why the bytes behind the frames that were taken stop it: what they begin with is no front of a
-- frame, or the next frame has the fault.
abbrev pub StopsIn : ℤ → ℕ → Bool → List ℕ → Subscribed → Fault → Cause → Type 0
StopsIn now max done rest s f OutOfMemory = Unit {0}
StopsIn now max done rest s f SpoolFailed = Unit {0}
StopsIn now max done rest s f StatementRefused =
    (next : wire.Frame) × BeginsWith max done rest next × IsCommitFrame s next × ReachesStore (take_frame now s next)
StopsIn now max done rest s f HeaderTooLarge = (k : WireFault) × (f ≡ fault.Wire k) × wire.IsFramingFault max done rest k
StopsIn now max done rest s f ForeignBytes = (k : WireFault) × (f ≡ fault.Wire k) × wire.IsFramingFault max done rest k
StopsIn now max done rest s f NextMessage =
    ((k : WireFault) × (f ≡ fault.Wire k) × wire.IsFramingFault max done rest k)
    ⊎ ((next : wire.Frame) × (stopped : Subscribed) × BeginsWith max done rest next × (take_frame now s next ≡ Stopped stopped f))
StopsIn now max done rest s f NeverAnswered = ⊥

-- The frames before the first fault are taken, and what they leave stands until the next
-- disconnection.
pub record IsFedUntil (now : ℤ) (old : Subscribed) (piece : List ℕ) (new : Subscribed) (f : Fault) : Type 0 where
  pub fs : List wire.Frame
  pub rest : List ℕ
  pub state : Subscribed
  pub whole : waiting old piece ≡ wire.frames (done_frames old ++ fs) ++ rest
  pub each : wire.AreFrames old.max_frame (done_frames old ++ fs)
  pub takes : take_frames now old fs ≡ Running state
  pub left : IsLeft state new
  pub closed : new.closed ≡ true
  pub why : StopsIn now old.max_frame (wire.has_copy_done (done_frames old ++ fs)) rest state f (cause f)

-- What feeding a piece does, by what is answered. After a fault each further piece is refused as
-- Closed, which changes nothing.
abbrev pub IsFed : ℤ → Subscribed → List ℕ → Subscribed → Option Fault → Type 0
IsFed now old piece new None = (old.closed ≡ false) × IsFedWhole now old piece new
IsFed now old piece new (Some fault.Closed) = (old.closed ≡ true) × (new ≡ old)
IsFed now old piece new (Some f) = (old.closed ≡ false) × IsFedUntil now old piece new f

-- Whoever is fed what comes of a session from a disconnection on has taken the messages that are
-- complete in it, and nothing foreign has come.
abbrev pub FedSessionIsTaken : Type 0
FedSessionIsTaken =
    (now : ℤ) (v : Version) (history : List Transaction) (s : ℕ) (bytes : List ℕ) (complete : List Sent) (old new : Subscribed)
    → IsIncoming v history s bytes complete → IsFedWhole now (disconnect old) bytes new
    → (state : Subscribed) × (take_all now (disconnect old) complete ≡ Running state)
    × (new ≡ record state { partial = new.partial; copy_done = new.copy_done })
    × (EndsForeign complete bytes → ⊥)

-- Feeding what comes of a session stopped: a front of the complete messages was taken, and the next
-- one has the fault, or the header or something foreign behind it, or memory or the store asked for
-- it.
pub record IsStoppedIn (now : ℤ) (bytes : List ℕ) (complete : List Sent) (old new : Subscribed) (f : Fault) : Type 0 where
  pub front : List Sent
  pub handled : IsHandled (front ∷ []) (complete ∷ [])
  pub state : Subscribed
  pub takes : take_all now (disconnect old) front ≡ Running state
  pub left : IsLeft state new
  pub why : StopsBy now (bytes ∷ []) (complete ∷ []) (front ∷ []) state f (cause f)

abbrev pub FedSessionStops : Type 0
FedSessionStops =
    (now : ℤ) (v : Version) (history : List Transaction) (s : ℕ) (bytes : List ℕ) (complete : List Sent)
    → IsIncoming v history s bytes complete
    → (old new : Subscribed) (f : Fault) → IsFedUntil now (disconnect old) bytes new f → IsStoppedIn now bytes complete old new f

-- Feeding a piece and then another is feeding both as one.
abbrev pub PiecesAreOne : Type 0
PiecesAreOne = (now : ℤ) (old mid new : Subscribed) (piece next : List ℕ) → IsFedWhole now old piece mid → IsFedWhole now mid next new
    → IsFedWhole now old (piece ++ next) new

-- So it is where the second stops,
abbrev pub LaterPieceStops : Type 0
LaterPieceStops =
    (now : ℤ) (old mid new : Subscribed) (piece next : List ℕ) (f : Fault) → IsFedWhole now old piece mid → IsFedUntil now mid next new f
    → IsFedUntil now old (piece ++ next) new f

-- and behind a fault it doesn't matter what would come.
abbrev pub FaultStands : Type 0
FaultStands = (now : ℤ) (old new : Subscribed) (piece next : List ℕ) (f : Fault) → IsFedUntil now old piece new f
    → IsFedUntil now old (piece ++ next) new f

-- neither memory, nor a refusal of the store's own, nor what spools fail with has a say
abbrev pub IsSettledFault : Fault → Type 0
IsSettledFault f = (f ≢ fault.Memory) × (f ≢ fault.Store store.Refused) × (cause f ≢ SpoolFailed)

abbrev pub IsSettled : Option Fault → Type 0
IsSettled None = Unit {0}
IsSettled (Some f) = IsSettledFault f

-- two ends of which nothing tells apart what outlives the next disconnection, and where no fault is
-- answered nothing at all
abbrev pub EndsSame : Option Fault → Subscribed → Subscribed → Type 0
EndsSame None a b = b ≡ a
EndsSame (Some f) a b = IsLeft a b × (b.closed ≡ a.closed)

-- Feeding a piece has one outcome.
abbrev pub PieceHasOneOutcome : Type 0
PieceHasOneOutcome =
    (now : ℤ) (old a b : Subscribed) (piece : List ℕ) (x y : Option Fault) → IsSettled x → IsSettled y → IsFed now old piece a x
    → IsFed now old piece b y
    → (x ≡ y) × EndsSame x a b
