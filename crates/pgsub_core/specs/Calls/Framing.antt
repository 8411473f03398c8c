-- What the frames of a piece do to a store of which it is said what tables it holds.
use Rattle.std.specs.Prelude.{◌≡◌, ◌≤◌, ◌⊎◌, ◌++◌, ◌||◌, ℕ, ℤ, List, [], ◌∷◌, Bool, true, false}
use Rattle.std.specs.Prelude.{length, take, Some, None, Ok, ◌<◌, if◌then◌else◌}
use Rattle.pgwire.specs.Frames as wire
use Rattle.pgwire.specs.Calls.{Call, Leads}
use Rattle.pgwire.specs.Deframed.{Deframed, Stands, Waits}
use Rattle.pgapply.specs.Value.{Tables}
use Rattle.pgsub_core.specs.declared.fault.Fault.{Fault}
use Rattle.pgsub_core.specs.Machine.Replica.{Running, Stopped}
use Rattle.pgsub_core.specs.Subscriber.Subscribed.{Subscribed}
use Rattle.pglogical.specs.Reading.{message_at}
use Rattle.pglogical.specs.declared.message.Message.{Message}
use Rattle.pgorder.specs.States.{is_in_block}
use Rattle.pgsub_core.specs.Server.Stream.{Data}
use Rattle.pgsub_core.specs.Machine.Taking.{take_frame, take_frames, take_message, ReachesStore}
use Rattle.pgsub_core.specs.Machine.Feeding.{IsCommitFrame, IsFedWhole, IsFedUntil}
use Rattle.pgsub_core.specs.Subscriber.Handled.{commit_end}
use Rattle.pgsub_core.specs.Subscriber.Causes.{Cause, OutOfMemory, StatementRefused, HeaderTooLarge}
use Rattle.pgsub_core.specs.Subscriber.Causes.{ForeignBytes, NextMessage, NeverAnswered, cause}
use Rattle.pgsub_core.specs.Subscriber.Causes.{SpoolFailed}
use Rattle.pgsub_core.specs.Subscriber.Applied.{Applied, Framing, subscribed, IsKept}

-- why a frame isn't taken
abbrev pub StopsAtFrame : ℤ → Subscribed → wire.Frame → Fault → Cause → Type 0
StopsAtFrame now s next f OutOfMemory = Unit {0}
StopsAtFrame now s next f SpoolFailed = Unit {0}
StopsAtFrame now s next f StatementRefused = IsCommitFrame s next × ReachesStore (take_frame now s next)
StopsAtFrame now s next f HeaderTooLarge = ⊥
StopsAtFrame now s next f ForeignBytes = ⊥
StopsAtFrame now s next f NextMessage = (stopped : Subscribed) × (take_frame now s next ≡ Stopped stopped f)
StopsAtFrame now s next f NeverAnswered = ⊥

-- the same by the frame
abbrev pub StopsAt : wire.Frame → ℤ → Subscribed → Fault → Cause → Type 0
StopsAt next now s f k = StopsAtFrame now s next f k

-- why the spelling of a message isn't taken
abbrev pub StopsAtBody : ℤ → ℕ → ℕ → ℤ → List ℕ → Subscribed → Fault → Cause → Type 0
StopsAtBody now start end clock body s f OutOfMemory = Unit {0}
StopsAtBody now start end clock body s f SpoolFailed = Unit {0}
StopsAtBody now start end clock body s f StatementRefused =
    (m : Message) × (message_at (is_in_block s.order.context) body ≡ Ok m) × (last : ℕ) × (commit_end (Data start end clock m) ≡ Some last)
    × (s.position < last)
    × ReachesStore (take_message now s start end clock (message_at (is_in_block s.order.context) body))
StopsAtBody now start end clock body s f HeaderTooLarge = ⊥
StopsAtBody now start end clock body s f ForeignBytes = ⊥
StopsAtBody now start end clock body s f NextMessage =
    (stopped : Subscribed) × (take_message now s start end clock (message_at (is_in_block s.order.context) body) ≡ Stopped stopped f)
StopsAtBody now start end clock body s f NeverAnswered = ⊥

-- behind these frames
abbrev pub framing_behind : List wire.Frame → Framing → Framing
framing_behind fs framing = record framing { copy_done = wire.has_copy_done fs || framing.copy_done }

-- of a deframer, while nothing has closed it or something has
abbrev pub framing_of : Deframed → Bool → Framing
framing_of d closed = record { max_frame = d.max; closed = closed; partial = d.held; copy_done = d.done }

abbrev pub done_of : Deframed → List wire.Frame
done_of d = if d.done then wire.CopyDone ∷ [] else []

-- So many bytes of a piece are of the session: all, or fewer where it has ended with them. Some
-- are, where there are any.
pub record IsCut (piece : List ℕ) (n : ℕ) (ended : Bool) : Type 0 where
  pub within : n ≤ length piece
  pub some : 0 < length piece → 0 < n
  pub ends : (n ≡ length piece) ⊎ (ended ≡ true)

-- the frame that stood whole was released
pub record Releases (d d' : Deframed) : Type 0 where
  pub frame : wire.Frame
  pub stood : Stands d frame
  pub released : d' ≡ record d { held = []; done = wire.has_copy_done (frame ∷ []) }

-- nothing that outlives a disconnection changes, for this cause
pub record IsStopped {C : Type 0} (holds : C → Tables → Type 0) (place : C → ℕ) (why_at : Subscribed → Fault → Cause → Type 0)
    (old new : Applied C) (f : Fault) : Type 0 where
  pub kept : IsKept place old new
  pub stays : (tables : Tables) → holds old.store tables → holds new.store tables
  pub why : (framing : Framing) (tables : Tables) → holds old.store tables → why_at (subscribed place framing old tables) f (cause f)

module _ {C : Type 0} (holds : C → Tables → Type 0) (place : C → ℕ) (now : ℤ) where
  abbrev pub FramesGo : List wire.Frame → Applied C → Applied C → Type 0
  FramesGo fs old new =
      (framing : Framing) (tables : Tables) → holds old.store tables
      → (tables' : Tables) × holds new.store tables'
      × (take_frames now (subscribed place framing old tables) fs ≡ Running (subscribed place (framing_behind fs framing) new tables'))

  -- so many bytes of the piece were taken, and the frames in them
  pub record IsFedTo (serves : C → Type 0) (d₀ : Deframed) (a₀ : Applied C) (piece : List ℕ) (d : Deframed) (a : Applied C)
      (taken : ℕ) : Type 0 where
    pub calls : List Call
    pub fs : List wire.Frame
    pub leads : Leads d₀.max calls (wire.frames (done_of d₀) ++ (d₀.held ++ take taken piece)) (done_of d₀ ++ fs) d
    pub within : taken ≤ length piece
    pub fault : d.fault ≡ None
    pub max : d.max ≡ d₀.max
    pub copy_done : d.done ≡ (wire.has_copy_done fs || d₀.done)
    pub state : ((f : wire.Frame) × Stands d f) ⊎ ((taken ≡ length piece) × Waits d)
    pub goes : serves a.store → FramesGo fs a₀ a

  -- all of the piece was taken
  abbrev pub FeedGoes : Deframed → Applied C → List ℕ → Deframed → Applied C → Type 0
  FeedGoes d₀ a₀ piece d a =
      (closed : Bool) (tables : Tables) → holds a₀.store tables
      → (tables' : Tables) × holds a.store tables'
      × IsFedWhole now (subscribed place (framing_of d₀ closed) a₀ tables) piece (subscribed place (framing_of d closed) a tables')

  -- So many bytes of the piece were taken, and the frames in them; the deframer may wait, or a
  -- frame may stand.
  pub record IsTakenTo (serves : C → Type 0) (d₀ : Deframed) (a₀ : Applied C) (piece : List ℕ) (d : Deframed) (a : Applied C)
      (taken : ℕ) : Type 0 where
    pub calls : List Call
    pub fs : List wire.Frame
    pub leads : Leads d₀.max calls (wire.frames (done_of d₀) ++ (d₀.held ++ take taken piece)) (done_of d₀ ++ fs) d
    pub max : d.max ≡ d₀.max
    pub goes : serves a.store → FramesGo fs a₀ a

  -- the piece was taken up to the first fault, which closes what is fed
  abbrev pub FeedStops : Deframed → Applied C → List ℕ → Applied C → Fault → Type 0
  FeedStops d₀ a₀ piece a f =
      (closed : Framing) (tables : Tables) → closed.closed ≡ true → closed.max_frame ≡ d₀.max → holds a₀.store tables
      → (tables' : Tables) × holds a.store tables'
      × IsFedUntil now (subscribed place (framing_of d₀ false) a₀ tables) piece (subscribed place closed a tables') f
