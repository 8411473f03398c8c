-- Part of the statement. PostgreSQL documentation, Streaming Replication Protocol: what the bytes
-- of sessions do, one session after the other, each from a disconnection on; of a history or not.
use Rattle.std.specs.Prelude.{◌≡◌, ◌⊎◌, ◌++◌, ℕ, ℤ, List, [], ◌∷◌, Bool, Option, Some, None}
use Rattle.pgapply.specs.Value.{Tables}
use Rattle.pgsub_core.specs.declared.fault.Fault.{Fault}
use Rattle.pgsub_core.specs.Server.History.{Transaction}
use Rattle.pgsub_core.specs.Server.Stream.{Sent}
use Rattle.pgsub_core.specs.Subscriber.Subscribed.{Subscribed, IsSafeFor, disconnect, with_status}
use Rattle.pgsub_core.specs.Subscriber.Confirming.{AreSafeReplies}
use Rattle.pgsub_core.specs.Machine.Feeding.{IsFedWhole, IsFedUntil, IsSettled, EndsSame}
use Rattle.pgsub_core.specs.Subscriber.Safely.{IsSent, IsFollowedSafely}
use Rattle.pgsub_core.specs.Subscriber.Handled.{IsFollowed}
use Rattle.pgsub_core.specs.Subscriber.SubscriberValue.{SubscriberValue, seen}

abbrev pub AreFedWhole : ℤ → Subscribed → List (List ℕ) → Subscribed → Type 0
AreFedWhole now old [] new = new ≡ old
AreFedWhole now old (bytes ∷ sessions) new =
    (mid : Subscribed) × IsFedWhole now (disconnect old) bytes mid × AreFedWhole now mid sessions new

-- up to the first fault, behind which no session is begun
abbrev pub AreFedUntil : ℤ → Subscribed → List (List ℕ) → Subscribed → Fault → Type 0
AreFedUntil now old [] new f = ⊥
AreFedUntil now old (bytes ∷ sessions) new f =
    IsFedUntil now (disconnect old) bytes new f
    ⊎ ((mid : Subscribed) × IsFedWhole now (disconnect old) bytes mid × AreFedUntil now mid sessions new f)

-- by what is answered
abbrev pub AreFed : ℤ → Subscribed → List (List ℕ) → Subscribed → Option Fault → Type 0
AreFed now old sessions new None = AreFedWhole now old sessions new
AreFed now old sessions new (Some f) = AreFedUntil now old sessions new f

-- Whoever is fed the sessions of a history has followed them.
abbrev pub FedSessionsAreFollowed : Type 0
FedSessionsAreFollowed =
    (now : ℤ) (history : List Transaction) (sessions : List (List ℕ)) (all_complete : List (List Sent)) (old new : Subscribed)
    (answered : Option Fault)
    → IsSent history old sessions all_complete → AreFed now old sessions new answered
    → IsFollowed now history sessions all_complete old new answered

-- Feeding sessions has one outcome, of a history or not.
abbrev pub SessionsHaveOneOutcome : Type 0
SessionsHaveOneOutcome =
    (now : ℤ) (old a b : Subscribed) (sessions : List (List ℕ)) (x y : Option Fault) → IsSettled x → IsSettled y
    → AreFed now old sessions a x → AreFed now old sessions b y
    → (x ≡ y) × EndsSame x a b

-- Wherever the bytes of the sessions of a history are cut off, what came is sessions of that
-- history.
abbrev pub FrontsAreSent : Type 0
FrontsAreSent =
    (history : List Transaction) (old : Subscribed) (sessions : List (List ℕ)) (bytes more : List ℕ) (later : List (List ℕ))
    (all_complete : List (List Sent))
    → IsSent history old (sessions ++ (bytes ++ more) ∷ later) all_complete
    → (fronts : List (List Sent)) × IsSent history old (sessions ++ bytes ∷ []) fronts

-- In every state to which the sessions of a history lead, wherever they are cut off and whatever
-- was answered: every transaction that changes rows and ends by what is confirmed is stored, and no
-- status that waits or is asked for confirms more.
abbrev pub ConfirmedIsStored : Type 0
ConfirmedIsStored =
    (now : ℤ) (history : List Transaction) (old new : Subscribed) (sessions : List (List ℕ)) (bytes more : List ℕ) (later : List (List ℕ))
    (all_complete : List (List Sent)) (answered : Option Fault)
    → IsSent history old (sessions ++ (bytes ++ more) ∷ later) all_complete → AreSafeReplies history old
    → AreFed now old (sessions ++ bytes ∷ []) new answered
    → IsSafeFor history new × AreSafeReplies history new × ((clock : ℤ) (ask : Bool) → AreSafeReplies history (with_status clock ask new))

module _ {C : Type 0} (holds : C → Tables → Type 0) (place : C → ℕ) (now : ℤ) where
  -- whatever tables the store held, it holds others, with which this was done
  abbrev pub Becomes : (Subscribed → Subscribed → Type 0) → SubscriberValue C → SubscriberValue C → Type 0
  Becomes does old new = (tables : Tables) → holds old.applied.store tables
      → (tables' : Tables) × holds new.applied.store tables' × does (seen place old tables) (seen place new tables')

  -- one session's bytes were fed, from a disconnection on
  abbrev pub FeedsSession : SubscriberValue C → List ℕ → SubscriberValue C → Type 0
  FeedsSession old bytes new = Becomes (λ s s'. IsFedWhole now (disconnect s) bytes s') old new

  abbrev pub FeedsSessionUntil : SubscriberValue C → List ℕ → SubscriberValue C → Fault → Type 0
  FeedsSessionUntil old bytes new f = Becomes (λ s s'. IsFedUntil now (disconnect s) bytes s' f) old new

  -- sessions' bytes were fed
  abbrev pub FeedsSessions : SubscriberValue C → List (List ℕ) → SubscriberValue C → Option Fault → Type 0
  FeedsSessions old sessions new answered = Becomes (λ s s'. AreFed now s sessions s' answered) old new

  -- Of whatever history the sessions are, and whatever tables the store held, they were followed.
  abbrev pub FollowsSessions : SubscriberValue C → List (List ℕ) → SubscriberValue C → Option Fault → Type 0
  FollowsSessions old sessions new answered =
      (history : List Transaction) (all_complete : List (List Sent)) (tables : Tables) → holds old.applied.store tables
      → IsSent history (seen place old tables) sessions all_complete
      → (tables' : Tables) × holds new.applied.store tables'
      × IsFollowed now history sessions all_complete (seen place old tables) (seen place new tables') answered

-- Of whatever history the sessions are, and whatever tables the store held before, it holds others,
-- with which this is safe.
abbrev pub FollowsSafely : {C : Type 0} → (C → Tables → Type 0) → (C → ℕ) → SubscriberValue C → List (List ℕ) → SubscriberValue C → Type 0
FollowsSafely holds place old sessions new =
    (history : List Transaction) (all_complete : List (List Sent)) (tables : Tables)
    → holds old.applied.store tables → IsSent history (seen place old tables) sessions all_complete
    → (tables' : Tables) × holds new.applied.store tables'
    × IsFollowedSafely history all_complete (seen place old tables) (seen place new tables')

-- What waited to be sent of a state that is safe for a history confirmed no more than is stored,
-- and so it is again.
abbrev pub ConfirmsSafely : {C : Type 0} → (C → ℕ) → SubscriberValue C → SubscriberValue C → Type 0
ConfirmsSafely place old new =
    (history : List Transaction) (tables : Tables) → IsSafeFor history (seen place old tables)
    → AreSafeReplies history (seen place old tables)
    → AreSafeReplies history (seen place new tables)
