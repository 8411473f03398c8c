-- Part of the statement. PostgreSQL documentation, Logical Replication, Subscription: what a store
-- holds once a run over it has ended, however it ended, and what a crash may leave of it then.
-- `reopens old new` says that the new store was opened on what a crash may leave of the old one.
use Rattle.std.specs.Prelude.{◌≡◌, ◌++◌, ℕ, List, [], ◌∷◌, Option, Some, None}
use Rattle.pgcommand.specs.declared.limits.Limits.{Limits}
use Rattle.pgorder.specs.declared.Version.{Version}
use Rattle.pgapply.specs.Taken.{Stays}
use Rattle.pgapply.specs.Value.{Tables}
use Rattle.pgsub_core.specs.declared.fault.Fault.{Fault}
use Rattle.pgsub_core.specs.declared.fault.Fault.TheVariants as fault
use Rattle.pgsub_core.specs.Subscriber.Crashing.{LeavesOldOr, FedOver, StandsAsFed, IsLeftSafely}
use Rattle.pgsub_core.specs.Subscriber.Crashing.{LeavesHistory}
use Rattle.pgsub_core.specs.Subscriber.Following.{FeedsSessions}
use Rattle.pgsub_core.specs.Subscriber.Safely.{IsSent}
use Rattle.pgsub_core.specs.Server.History.{Transaction}
use Rattle.pgsub_core.specs.Server.Stream.{Sent}
use Rattle.pgsub_core.specs.Subscriber.Subscribed.{Subscribed, bytes_of}
use Rattle.pgsub_core.specs.Subscriber.SubscriberValue.{SubscriberValue, seen}
use Rattle.pgsub_cli.specs.declared.storing.Incoming.{Incoming}
use Rattle.pgsub_cli.specs.declared.storing.Incoming.TheVariants.{Sessions, Raw}
use Rattle.pgsub_cli.specs.Followed.{LeadsTo, subscriber_over}
use Rattle.pgsub_cli.specs.Limits.{clock}
use Rattle.pgsub_cli.specs.Runs.{AreRead, ForSessions, fault_of_feeding}

-- a subscriber over this store, as a run begins with it
abbrev pub BeginsOver : {C : Type 0} → (C → ℕ) → Limits → Version → C → SubscriberValue C → Type 0
BeginsOver place limits version store s =
    (s.applied.store ≡ store) × ((tables : Tables) → seen place s tables ≡ subscriber_over limits tables (place store) version)

-- Whatever is read of a file is the first of these bytes, and all of it is all of them.
pub record IsReadFrom {R : Type 0} (gives begins : R → List ℕ → Type 0) (file : R) (bytes : List ℕ) : Type 0 where
  pub all : (read : List ℕ) → gives file read → read ≡ bytes
  pub first : (read : List ℕ) → begins file read → (more : List ℕ) × (bytes ≡ read ++ more)

-- ---- a subscriber that a run feeds

-- It is as one that was fed so, up to some fault, in all that outlives a disconnection. Its store
-- may have shut.
abbrev pub StandsFed : {C : Type 0} → (C → ℕ) → (SubscriberValue C → Option Fault → Type 0) → SubscriberValue C → Type 0
StandsFed {C} place fed new = (stopped : Option Fault) × StandsAsFed place (λ (s : SubscriberValue C). fed s stopped) new

module _ {R C : Type 0} (gives begins : R → List ℕ → Type 0) (failed : R → Type 0) (holds : C → Tables → Type 0) (place : C → ℕ) where
  -- The bytes that were read were fed as one session, up to the first fault of theirs. A read that
  -- failed is none.
  abbrev pub FeedsFile : R → SubscriberValue C → SubscriberValue C → Option Fault → Type 0
  FeedsFile file old new stopped =
      (bytes : List ℕ) × AreRead gives begins failed file bytes stopped
      × FeedsSessions holds place clock old (bytes ∷ []) new (fault_of_feeding stopped)

  -- what came was fed, up to this fault
  abbrev pub FeedsIncoming : Incoming R → SubscriberValue C → SubscriberValue C → Option Fault → Type 0
  FeedsIncoming incoming old new stopped =
      ForSessions gives begins failed incoming stopped (λ sessions f. FeedsSessions holds place clock old sessions new f)

  module _ (reopens : C → C → Type 0) where
    -- Of whatever history the file's bytes are a session, and whatever tables the store held: all
    -- that a crash may leave holds the history's rows up to where it stands, with all that is
    -- confirmed.
    abbrev pub LeavesFileHistory : R → SubscriberValue C → SubscriberValue C → Type 0
    LeavesFileHistory file old new =
        (history : List Transaction) (bytes : List ℕ) (all_complete : List (List Sent)) (tables : Tables)
        → IsReadFrom gives begins file bytes
        → holds old.applied.store tables → IsSent history (seen place old tables) (bytes ∷ []) all_complete
        → (other : C) → reopens new.applied.store other → IsLeftSafely holds place history new other

    abbrev pub LeavesIncomingHistory : Incoming R → SubscriberValue C → SubscriberValue C → Type 0
    LeavesIncomingHistory (Sessions sessions) old new = LeavesHistory holds place reopens old (bytes_of sessions.items) new
    LeavesIncomingHistory (Raw file) old new = LeavesFileHistory file old new

    -- what a crash may leave of the store could be left before, or has some front of what came
    abbrev pub LeavesFronts : (C → Type 0) → Incoming R → SubscriberValue C → C → C → Type 0
    LeavesFronts serves incoming old store store' =
        LeavesOldOr place reopens serves (FedOver (λ s. FeedsIncoming incoming old s (Some fault.Memory))) store store'

-- ---- the store of a run

module _ {C : Type 0} (holds : C → Tables → Type 0) (place : C → ℕ) where
  -- The bytes of these sessions lead on from what the store held and its position, up to this
  -- fault, and it holds where they lead.
  abbrev pub HoldsFed : Limits → Version → C → List (List ℕ) → C → Option Fault → Type 0
  HoldsFed limits version old sessions new stopped =
      (tables : Tables) → holds old tables
      → (state : Subscribed) × LeadsTo (subscriber_over limits tables (place old) version) sessions stopped state × holds new state.tables
      × (place new ≡ state.position)

module _ {R C : Type 0} (gives begins : R → List ℕ → Type 0) (failed : R → Type 0) (holds : C → Tables → Type 0) (place : C → ℕ) where
  -- The store holds what came leads to, up to this fault, and with nothing to apply what it held.
  abbrev pub HoldsOver : Limits → Option (Version × Incoming R) → C → C → Option Fault → Type 0
  HoldsOver limits None old new stopped = (stopped ≡ None) × Stays holds old new × (place new ≡ place old)
  HoldsOver limits (Some (version, incoming)) old new stopped =
      ForSessions gives begins failed incoming stopped (λ sessions f. HoldsFed holds place limits version old sessions new f)

  -- However a run ended: so it is of some front of what came.
  abbrev pub HoldsAfter : Limits → Option (Version × Incoming R) → C → C → Type 0
  HoldsAfter limits input old new = (stopped : Option Fault) × HoldsOver limits input old new stopped

  module _ (reopens : C → C → Type 0) where
    -- Of any bytes: what a crash may leave of the store could be left before the run; or it is as
    -- one whose subscriber, begun over the store, took some front of what came, and stands no lower
    -- than the store.
    abbrev pub MayBeLeft : (C → Type 0) → Limits → Option (Version × Incoming R) → C → C → Type 0
    MayBeLeft serves limits None old new = (other : C) → reopens new other → reopens old other
    MayBeLeft serves limits (Some (version, incoming)) old new =
        (begun : SubscriberValue C) × BeginsOver place limits version old begun
        × LeavesFronts gives begins failed holds place reopens serves incoming begun old new

    -- Of sessions of a history: a subscriber begun over the store was fed what came up to some
    -- fault, and its store is the new one. Of whatever history that is, whatever a crash may leave
    -- holds exactly its rows up to a position no lower than the new store's, and every transaction
    -- that changes rows and ends by what the subscriber confirms is among them.
    abbrev pub LosesNothing : Limits → Option (Version × Incoming R) → C → C → Type 0
    LosesNothing limits None old new = (other : C) → reopens new other → reopens old other
    LosesNothing limits (Some (version, incoming)) old new =
        (begun : SubscriberValue C) × (ended : SubscriberValue C) × BeginsOver place limits version old begun × (ended.applied.store ≡ new)
        × StandsFed place (FeedsIncoming gives begins failed holds place incoming begun) ended
        × LeavesIncomingHistory gives begins failed holds place reopens incoming begun ended
