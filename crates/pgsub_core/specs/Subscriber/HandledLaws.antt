-- PostgreSQL documentation, Streaming Replication Protocol and Logical Replication, Architecture:
-- what follows from which messages are handled, of a history or not.
use Rattle.std.specs.Prelude.{◌≡◌, ◌≤◌, ℕ, ℤ, List, [], true, false, Option, Some, None}
use Rattle.pgorder.specs.declared.fault.OrderFault.{OrderFault}
use Rattle.pgrel.specs.declared.fault.RelFault.{RelFault}
use Rattle.pgsub_core.specs.declared.fault.Fault.{Fault}
use Rattle.pgsub_core.specs.declared.fault.Fault.TheVariants as fault
use Rattle.pgsub_core.specs.Server.History.{Transaction}
use Rattle.pgsub_core.specs.Server.Stream.{Sent, Data, Keepalive, commits_and_keepalives}
use Rattle.pgsub_core.specs.Machine.Replica.{Running, Stopped, apply_all}
use Rattle.pgsub_core.specs.Machine.ApplyState.{step}
use Rattle.pgsub_core.specs.Server.Reached.{reached, disconnected}
use Rattle.pgsub_core.specs.Server.Sessions.{reached_all}
use Rattle.pgsub_core.specs.Subscriber.Subscribed.{Subscribed, progress_of, replica_of}
use Rattle.pgsub_core.specs.Subscriber.Subscribed.{apply_state_of, IsSafeFor, newly, disconnect}
use Rattle.pgsub_core.specs.Subscriber.Subscribed.{with_status}
use Rattle.pgsub_core.specs.Machine.Taking.{take, take_all, take_sessions, message_passes_limit}
use Rattle.pgsub_core.specs.Subscriber.Safely.{IsSent, IsHandled, KeepsSettings}
use Rattle.pgsub_core.specs.Subscriber.Handled.{IsNextBehind, IsTooLargeBehind, IsForeignBehind}
use Rattle.pgsub_core.specs.Subscriber.Handled.{NoneForeign, IsRefusedBehind, IsAllowedFault}
use Rattle.pgsub_core.specs.Subscriber.Handled.{IsLeft, IsLeftBy, IsFollowed}
use Rattle.pgsub_core.specs.Subscriber.Causes.{Cause, OutOfMemory, StatementRefused, HeaderTooLarge}
use Rattle.pgsub_core.specs.Subscriber.Causes.{ForeignBytes, NextMessage, NeverAnswered, cause}
use Rattle.pgsub_core.specs.Subscriber.Causes.{SpoolFailed}

-- Why following stopped in the state that what was handled leaves, of the messages alone: the next
-- one has this fault, or the header behind them tells that a payload is longer than what is
-- allowed.
abbrev pub StopsBy : ℤ → List (List ℕ) → List (List Sent) → List (List Sent) → Subscribed → Fault → Cause → Type 0
StopsBy now sessions all_complete handled s f OutOfMemory = Unit {0}
StopsBy now sessions all_complete handled s f SpoolFailed = Unit {0}
StopsBy now sessions all_complete handled s f StatementRefused = IsRefusedBehind now handled all_complete s
StopsBy now sessions all_complete handled s f HeaderTooLarge = IsTooLargeBehind s.max_frame handled sessions
StopsBy now sessions all_complete handled s f ForeignBytes = IsForeignBehind handled all_complete sessions f
StopsBy now sessions all_complete handled s f NextMessage =
    (m : Sent) × IsNextBehind handled m all_complete × (stopped : Subscribed) × (take now s m ≡ Stopped stopped f)
StopsBy now sessions all_complete handled s f NeverAnswered = ⊥

-- Whatever part of the sessions of a history is handled, the rows are the history's as of the
-- position, and position, confirmed and received are exactly those that this part reaches.
pub record IsReachedSafely (history : List Transaction) (handled : List (List Sent)) (old new : Subscribed) : Type 0 where
  pub safe : IsSafeFor history new
  pub progress : progress_of new ≡ reached_all (progress_of old) handled
  pub settings : KeepsSettings old new

abbrev pub HandledSessionsAreSafe : Type 0
HandledSessionsAreSafe =
    (now : ℤ) (history : List Transaction) (sessions : List (List ℕ)) (all_complete handled : List (List Sent)) (old new : Subscribed)
    → IsSent history old sessions all_complete → IsHandled handled all_complete → take_sessions now old handled ≡ Running new
    → IsReachedSafely history handled old new

-- The message that comes next has no fault, or one of the few that are allowed.
abbrev pub FirstFaultIsAllowed : Type 0
FirstFaultIsAllowed =
    (now : ℤ) (history : List Transaction) (sessions : List (List ℕ)) (all_complete handled : List (List Sent))
    (old state stopped : Subscribed) (m : Sent) (f : Fault)
    → IsSent history old sessions all_complete → IsNextBehind handled m all_complete → take_sessions now old handled ≡ Running state
    → take now state m ≡ Stopped stopped f → IsAllowedFault history state m f

-- No message of a session of the history is out of order, and none names a relation that isn't
-- described.
abbrev pub NeverDisordered : Type 0
NeverDisordered =
    (now : ℤ) (history : List Transaction) (sessions : List (List ℕ)) (all_complete handled : List (List Sent))
    (old state stopped : Subscribed) (m : Sent)
    → IsSent history old sessions all_complete → IsNextBehind handled m all_complete → take_sessions now old handled ≡ Running state
    → ((k : OrderFault) → take now state m ≡ Stopped stopped (fault.Order k) → ⊥)
    × ((k : RelFault) → take now state m ≡ Stopped stopped (fault.Relation k) → ⊥)

abbrev pub HasStopped : ℤ → List (List ℕ) → List (List Sent) → List (List Sent) → Subscribed → Option Fault → Type 0
HasStopped now sessions all_complete handled s None = (handled ≡ all_complete) × NoneForeign all_complete sessions
HasStopped now sessions all_complete handled s (Some f) = StopsBy now sessions all_complete handled s f (cause f)

-- Whoever takes the complete messages one after the other up to the first fault, or stops earlier
-- where memory or the store asks for it, has followed the sessions of each history that has them.
abbrev pub TakingIsFollowing : Type 0
TakingIsFollowing =
    (now : ℤ) (history : List Transaction) (sessions : List (List ℕ)) (all_complete handled : List (List Sent)) (old state new : Subscribed)
    (answered : Option Fault)
    → IsSent history old sessions all_complete → IsHandled handled all_complete → take_sessions now old handled ≡ Running state
    → IsLeft state new
    → IsLeftBy answered state new → HasStopped now sessions all_complete handled state answered
    → IsFollowed now history sessions all_complete old new answered

-- Of any messages that are handled in a session, of a history or not: position, confirmed and
-- received are those that they reach, and the tables are what their commits, described by the
-- surviving Relation messages, make of the tables before.
abbrev pub TakenMessagesReach : Type 0
TakenMessagesReach =
    (now : ℤ) (old new : Subscribed) (sent : List Sent) → old.position ≤ old.confirmed → take_all now (disconnect old) sent ≡ Running new
    → (progress_of new ≡ reached (disconnected (progress_of old)) [] sent)
    × (apply_all (replica_of (disconnect old)) (commits_and_keepalives [] sent) ≡ Running (replica_of new))

-- A message that is handled is one step of order, what is held and the replica.
abbrev pub TakenMessageSteps : Type 0
TakenMessageSteps =
    (now : ℤ) (old new : Subscribed) (m : Sent) → take now old m ≡ Running new
    → (step old.version (apply_state_of old) m ≡ Running (apply_state_of new)) × (message_passes_limit old m ≡ false)
    × KeepsSettings old new

abbrev pub replied : ℤ → Sent → Subscribed → List ℕ → List ℕ
replied now (Data start end clock m) new replies = replies
replied now (Keepalive end clock false) new replies = replies
replied now (Keepalive end clock true) new replies = (with_status now false (record new { replies = replies })).replies

-- A keepalive that asks for a reply appends one status of what is then received and confirmed, and
-- nothing else appends.
abbrev pub RepliesAreStatuses : Type 0
RepliesAreStatuses = (now : ℤ) (old new : Subscribed) (m : Sent) → take now old m ≡ Running new
    → new.replies ≡ replied now m new old.replies

-- After a disconnection a subscriber is a new one over its store, in all but what is confirmed; and
-- that is received.
abbrev pub DisconnectedIsNew : Type 0
DisconnectedIsNew = (s : Subscribed)
    → disconnect s ≡ record (newly s.tables s.position s.version s.max_frame s.limit) { confirmed = s.confirmed; received = s.confirmed }
