-- Part of the statement. PostgreSQL documentation, Logical Replication, Subscription: what a crash
-- behind a call may leave of the store of a subscriber. A store that has shut counts too. What is
-- left is told by what another subscriber is fed, one over the store that is left.
use Rattle.std.specs.Prelude.{◌≡◌, ◌≤◌, ◌⊎◌, ℕ, List, Ok, max}
use Rattle.pgorder.specs.declared.Version.{Version}
use Rattle.pgapply.specs.Value.{Tables}
use Rattle.pgsub_core.specs.Server.History.{Transaction, IsHistory, tables_as_of}
use Rattle.pgsub_core.specs.Server.Stream.{Sent}
use Rattle.pgsub_core.specs.Subscriber.Safe.{NothingBetween}
use Rattle.pgsub_core.specs.Server.Sessions.{AreIncoming, starting_by}
use Rattle.pgsub_core.specs.Subscriber.Subscribed.{progress_of, newly}
use Rattle.pgsub_core.specs.Subscriber.Confirming.{AreSafeReplies}
use Rattle.pgsub_core.specs.Subscriber.Applied.{Applied, IsKept}
use Rattle.pgsub_core.specs.Subscriber.Safely.{IsSent}
use Rattle.pgsub_core.specs.Subscriber.SubscriberValue.{SubscriberValue, seen}

module _ {C : Type 0} (place : C → ℕ) (reopens : C → C → Type 0) (serves : C → Type 0) where
  -- Whatever a crash may leave of the new store it might have left of the old one, and the position
  -- is the old one's; or the old one served, and what is left is this and stands no lower than the
  -- new one.
  abbrev pub LeavesOldOr : (C → Type 0) → C → C → Type 0
  LeavesOldOr is old new = (other : C) → reopens new other
      → (reopens old other × (place new ≡ place old)) ⊎ (serves old × (place new ≤ place other) × is other)

-- whoever has this store took these messages
abbrev pub Over : {C : Type 0} → (Applied C → Type 0) → C → Type 0
Over {C} took other = (a : Applied C) × (a.store ≡ other) × took a

-- a subscriber over this store was fed this
abbrev pub FedOver : {C : Type 0} → (SubscriberValue C → Type 0) → C → Type 0
FedOver {C} fed other = (s : SubscriberValue C) × (s.applied.store ≡ other) × fed s

-- Want of memory can stop a subscriber behind any frame. One that it stopped somewhere is in what
-- outlives a disconnection as this one, whose store may have shut.
abbrev pub StandsAs : {C : Type 0} → (C → ℕ) → (Applied C → Type 0) → Applied C → Type 0
StandsAs {C} place took new = (a : Applied C) × IsKept place a new × took a

abbrev pub StandsAsFed : {C : Type 0} → (C → ℕ) → (SubscriberValue C → Type 0) → SubscriberValue C → Type 0
StandsAsFed {C} place fed new = (s : SubscriberValue C) × IsKept place s.applied new.applied × fed s

module _ {C : Type 0} (holds : C → Tables → Type 0) (place : C → ℕ) where
  -- What is left of a subscriber that followed sessions of a history: the history's rows up to
  -- where it stands. That is at least the subscriber's position, and every transaction that changes
  -- rows and ends by what is confirmed is among them.
  pub record IsLeftSafely (history : List Transaction) (new : SubscriberValue C) (other : C) : Type 0 where
    pub tables : Tables
    pub held : holds other tables
    pub same : tables_as_of history (place other) ≡ Ok tables
    pub position : place new.applied.store ≤ place other
    pub stored : NothingBetween history (place other) new.applied.confirmed

  module _ (reopens : C → C → Type 0) where
    -- Of whatever history the sessions are, and whatever tables the store held: all that a crash
    -- may leave is such a store.
    abbrev pub LeavesHistory : SubscriberValue C → List (List ℕ) → SubscriberValue C → Type 0
    LeavesHistory old sessions new =
        (history : List Transaction) (all_complete : List (List Sent)) (tables : Tables) → holds old.applied.store tables
        → IsSent history (seen place old tables) sessions all_complete
        → (other : C) → reopens new.applied.store other → IsLeftSafely history new other

-- A subscriber over such a store starts as sessions of the history ask it: also where they start as
-- far as what was confirmed before. Nothing waits to be sent.
abbrev pub LeftIsStart : Type 0
LeftIsStart =
    (history : List Transaction) (tables : Tables) (position confirmed : ℕ) (v : Version) (max_frame limit : ℕ) (sessions : List (List ℕ))
    (all_complete : List (List Sent))
    → IsHistory history → tables_as_of history position ≡ Ok tables → NothingBetween history position confirmed
    → AreIncoming v history (starting_by (max position confirmed) (progress_of (newly tables position v max_frame limit))) sessions
    all_complete
    → IsSent history (newly tables position v max_frame limit) sessions all_complete
    × AreSafeReplies history (newly tables position v max_frame limit)
