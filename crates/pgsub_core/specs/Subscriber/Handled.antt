-- Part of the statement. PostgreSQL documentation, Streaming Replication Protocol and Logical
-- Replication, Architecture: what following the sessions of a history leaves, and why it ends,
-- whatever is answered.
use Rattle.std.specs.Prelude.{◌≡◌, ◌≤◌, ◌<◌, ◌++◌, ℕ, ℤ, List, [], ◌∷◌, Bool, true, false, Option}
use Rattle.std.specs.Prelude.{Some, None, Result, Ok, Err}
use Rattle.pgspool.specs.declared.fault.SpoolFault.TheVariants as spool
use Rattle.pgwire.specs.Frames as wire
use Rattle.pgwire.specs.declared.fault.WireFault.{WireFault}
use Rattle.pgwire.specs.declared.fault.WireFault.TheVariants as wire_fault
use Rattle.pgsub_core.specs.declared.fault.Fault.{Fault}
use Rattle.pgsub_core.specs.declared.fault.Fault.TheVariants as fault
use Rattle.pgsub_core.specs.Server.History.{Transaction}
use Rattle.pgsub_core.specs.Server.Stream.{Sent, Data, Keepalive, Kind, CommitsPair, CommitsStream}
use Rattle.pgsub_core.specs.Server.Stream.{kind}
use Rattle.pgsub_core.specs.Subscriber.Causes.{Cause, OutOfMemory, StatementRefused, HeaderTooLarge}
use Rattle.pgsub_core.specs.Subscriber.Causes.{ForeignBytes, NextMessage, NeverAnswered, cause}
use Rattle.pgsub_core.specs.Subscriber.Causes.{SpoolFailed}
use Rattle.pgsub_core.specs.Machine.Replica.{Running}
use Rattle.pgsub_core.specs.Server.Sessions.{EndsForeign, frames_of}
use Rattle.pgsub_core.specs.Subscriber.Safe.{RefusesNext}
use Rattle.pgsub_core.specs.Subscriber.Subscribed.{Subscribed, progress_of}
use Rattle.pgsub_core.specs.Subscriber.Safely.{KeepsSettings, IsFollowedSafely}
use Rattle.pgsub_core.specs.Machine.Taking.{take, take_sessions, message_passes_limit, ReachesStore}

-- behind what was handled this message comes next, in the same session
abbrev pub IsNextBehind : List (List Sent) → Sent → List (List Sent) → Type 0
IsNextBehind [] m all_complete = ⊥
IsNextBehind (front ∷ handled) m [] = ⊥
IsNextBehind (front ∷ []) m (complete ∷ all_complete) = (later : List Sent) × (complete ≡ front ++ m ∷ later)
IsNextBehind (front ∷ next ∷ handled) m (complete ∷ all_complete) = (front ≡ complete) × IsNextBehind (next ∷ handled) m all_complete

-- behind what was handled the header of a frame stands whose payload is longer than max
abbrev pub IsTooLargeBehind : ℕ → List (List Sent) → List (List ℕ) → Type 0
IsTooLargeBehind max [] sessions = ⊥
IsTooLargeBehind max (front ∷ handled) [] = ⊥
IsTooLargeBehind max (front ∷ []) (bytes ∷ sessions) =
    (rest : List ℕ) × (bytes ≡ wire.frames (frames_of front) ++ rest) × wire.IsFramingFault max false rest wire_fault.TooLarge
IsTooLargeBehind max (front ∷ next ∷ handled) (bytes ∷ sessions) = IsTooLargeBehind max (next ∷ handled) sessions

-- the fault of something foreign: an unknown frame, or bytes after CopyDone
abbrev pub foreign_fault : Bool → List ℕ → WireFault
foreign_fault true bytes = wire_fault.AfterDone
foreign_fault false bytes = wire_fault.UnknownFrame (wire.tag_of bytes)

-- All messages of a session were handled, and behind them comes something foreign, with this fault.
abbrev pub IsForeignBehind : List (List Sent) → List (List Sent) → List (List ℕ) → Fault → Type 0
IsForeignBehind [] all_complete sessions f = ⊥
IsForeignBehind (front ∷ handled) [] sessions f = ⊥
IsForeignBehind (front ∷ handled) (complete ∷ all_complete) [] f = ⊥
IsForeignBehind (front ∷ []) (complete ∷ all_complete) (bytes ∷ sessions) f =
    (front ≡ complete) × (ends : EndsForeign complete bytes) × (f ≡ fault.Wire (foreign_fault ends.done ends.foreign))
IsForeignBehind (front ∷ next ∷ handled) (complete ∷ all_complete) (bytes ∷ sessions) f =
    (front ≡ complete) × IsForeignBehind (next ∷ handled) all_complete sessions f

-- no session ends with something foreign
abbrev pub NoneForeign : List (List Sent) → List (List ℕ) → Type 0
NoneForeign [] sessions = Unit {0}
NoneForeign (complete ∷ all_complete) [] = Unit {0}
NoneForeign (complete ∷ all_complete) (bytes ∷ sessions) = (EndsForeign complete bytes → ⊥) × NoneForeign all_complete sessions

abbrev pub end_by_kind : Kind → Option ℕ
end_by_kind (CommitsPair lsn end time) = Some end
end_by_kind (CommitsStream xid lsn end time) = Some end
end_by_kind _ = None

-- the end of the commit that the message is
abbrev pub commit_end : Sent → Option ℕ
commit_end (Data start end clock m) = end_by_kind (kind m)
commit_end (Keepalive end clock asks) = None

-- Which faults the next message of a session of the history can have: it holds an item with which
-- all that is held would cost more than the limit, or it is the next commit that changes rows, and
-- the history gives this fault there.
abbrev pub IsAllowedFault : List Transaction → Subscribed → Sent → Fault → Type 0
IsAllowedFault history s m (fault.Store k) = (end : ℕ) × (commit_end m ≡ Some end) × RefusesNext history s.position end k
IsAllowedFault history s m (fault.Spool spool.SpoolFull) = message_passes_limit s m ≡ true
IsAllowedFault history s m (fault.Spool spool.Memory) = ⊥
IsAllowedFault history s m (fault.Spool spool.NotWritten) = ⊥
IsAllowedFault history s m (fault.Spool spool.NoRoom) = ⊥
IsAllowedFault history s m (fault.Spool spool.NotRead) = ⊥
IsAllowedFault history s m (fault.Spool spool.TooManyOpen) = ⊥
IsAllowedFault history s m (fault.Wire k) = ⊥
IsAllowedFault history s m (fault.Decode k) = ⊥
IsAllowedFault history s m (fault.Order k) = ⊥
IsAllowedFault history s m (fault.Relation k) = ⊥
IsAllowedFault history s m fault.Read = ⊥
IsAllowedFault history s m fault.Closed = ⊥
IsAllowedFault history s m fault.Memory = ⊥

-- The store can refuse a statement of a commit whose end passes the position, where nothing else is
-- wrong with that commit.
abbrev pub IsRefusedBehind : ℤ → List (List Sent) → List (List Sent) → Subscribed → Type 0
IsRefusedBehind now handled all_complete s =
    (m : Sent) × IsNextBehind handled m all_complete × (end : ℕ) × (commit_end m ≡ Some end) × (s.position < end)
    × ReachesStore (take now s m)

-- Why following stopped in the state that what was handled leaves: the next message has this fault,
-- or what stands behind them tells it.
abbrev pub StopsFor : ℤ → List Transaction → List (List ℕ) → List (List Sent) → List (List Sent) → Subscribed → Fault → Cause → Type 0
StopsFor now history sessions all_complete handled s f OutOfMemory = Unit {0}
StopsFor now history sessions all_complete handled s f SpoolFailed = Unit {0}
StopsFor now history sessions all_complete handled s f StatementRefused = IsRefusedBehind now handled all_complete s
StopsFor now history sessions all_complete handled s f HeaderTooLarge = IsTooLargeBehind s.max_frame handled sessions
StopsFor now history sessions all_complete handled s f ForeignBytes = IsForeignBehind handled all_complete sessions f
StopsFor now history sessions all_complete handled s f NextMessage =
    (m : Sent) × IsNextBehind handled m all_complete × IsAllowedFault history s m f
StopsFor now history sessions all_complete handled s f NeverAnswered = ⊥

-- the fault that a call answers, if one
abbrev pub fault_in : {A : Type 0} → Result A Fault → Option Fault
fault_in (Ok done) = None
fault_in (Err f) = Some f

-- Where no fault is answered, all is handled, and nothing foreign has come.
abbrev pub StopsAt : ℤ → List Transaction → List (List ℕ) → List (List Sent) → List (List Sent) → Subscribed → Option Fault → Type 0
StopsAt now history sessions all_complete handled s None = (handled ≡ all_complete) × NoneForeign all_complete sessions
StopsAt now history sessions all_complete handled s (Some f) = StopsFor now history sessions all_complete handled s f (cause f)

-- What stands of a state after a fault: all but what the next disconnection forgets, received and
-- the bytes that wait.
pub record IsLeft (state new : Subscribed) : Type 0 where
  pub tables : new.tables ≡ state.tables
  pub progress : progress_of new ≡ progress_of state
  pub settings : KeepsSettings state new
  pub replies : new.replies ≡ state.replies

-- What the subscriber is behind what was handled: exactly this state where no fault is answered,
-- all but what waits of a frame and CopyDone; closed behind a fault.
abbrev pub IsLeftBy : Option Fault → Subscribed → Subscribed → Type 0
IsLeftBy None state new = new ≡ record state { partial = new.partial; copy_done = new.copy_done }
IsLeftBy (Some f) state new = new.closed ≡ true

-- What following these sessions of a history leaves, beyond what is safe: exactly the state in
-- which the handled messages leave it, and a reason why no more of them was handled.
pub record IsFollowed (now : ℤ) (history : List Transaction) (sessions : List (List ℕ)) (all_complete : List (List Sent))
    (old new : Subscribed) (answered : Option Fault) : Type 0 where
  pub safely : IsFollowedSafely history all_complete old new
  pub state : Subscribed
  -- it is the state in which these messages leave it, one after the other
  pub takes : take_sessions now old safely.handled ≡ Running state
  pub left : IsLeft state new
  pub left_by : IsLeftBy answered state new
  pub why : StopsAt now history sessions all_complete safely.handled state answered
