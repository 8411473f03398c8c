-- What takes the messages of a session, as its contracts see it: a store, of which it is said what
-- tables it holds, and all else.
use Rattle.std.specs.Prelude.{◌≡◌, ◌<◌, ℕ, ℤ, List, Bool, Some, refl}
use Rattle.std.specs.Coded.{Coded, code_by, coded×, coded_ℕ, coded_list}
use Rattle.pgorder.specs.contracts.Version as version
use Rattle.pgorder.specs.declared.Version.{Version}
use Rattle.pgorder.specs.States.{order_state_code}
use Rattle.pgorder.specs.Steps.{OrderState}
use Rattle.pgspool.specs.Labels.{HeldMap}
use Rattle.pgapply.specs.Value.{Tables}
use Rattle.pgsub_core.specs.declared.fault.Fault.{Fault}
use Rattle.pgsub_core.specs.Server.Stream.{Sent}
use Rattle.pgsub_core.specs.Machine.Replica.{RelationCache, Outcome, Running, Stopped}
use Rattle.pgsub_core.specs.Subscriber.Subscribed.{Subscribed}
use Rattle.pgsub_core.specs.Machine.Taking.{take, ReachesStore}
use Rattle.pgsub_core.specs.Subscriber.Handled.{commit_end}
use Rattle.pgsub_core.specs.Subscriber.Causes.{Cause, OutOfMemory, StatementRefused, HeaderTooLarge}
use Rattle.pgsub_core.specs.Subscriber.Causes.{ForeignBytes, NextMessage, NeverAnswered, cause}
use Rattle.pgsub_core.specs.Subscriber.Causes.{SpoolFailed}
use Rattle.pgsub_core.specs.Machine.Codes.{held_code, relations_code}

pub record Applied (C : Type 0) : Type 0 where
  pub store : C
  pub confirmed : ℕ
  pub received : ℕ
  pub version : Version
  pub limit : ℕ
  pub order : OrderState
  pub held : HeldMap
  pub relations : RelationCache
  pub replies : List ℕ

abbrev pub applied_code : {C : Type 0} → Coded C → Coded (Applied C)
applied_code {C} store =
    code_by (C × (ℕ × (ℕ × (Version × (ℕ × (OrderState × (HeldMap × (RelationCache × List ℕ))))))))
    (coded× store (coded× coded_ℕ
    (coded× coded_ℕ (coded× version.the_row.coded
    (coded× coded_ℕ (coded× order_state_code (coded× held_code (coded× relations_code (coded_list coded_ℕ)))))))))
    (λ a. (a.store, (a.confirmed, (a.received, (a.version, (a.limit, (a.order, (a.held, (a.relations, a.replies)))))))))
    (λ p. record {
      store = p.0;
      confirmed = p.1.0;
      received = p.1.1.0;
      version = p.1.1.1.0;
      limit = p.1.1.1.1.0;
      order = p.1.1.1.1.1.0;
      held = p.1.1.1.1.1.1.0;
      relations = p.1.1.1.1.1.1.1.0;
      replies = p.1.1.1.1.1.1.1.1;
    })
    (λ _. refl)

-- what is known of the frames of the session beside
pub record Framing : Type 0 where
  pub max_frame : ℕ
  pub closed : Bool
  pub partial : List ℕ
  pub copy_done : Bool

-- the same as a subscriber whose store holds these tables
abbrev pub subscribed : {C : Type 0} → (C → ℕ) → Framing → Applied C → Tables → Subscribed
subscribed place framing a tables = record {
  tables = tables;
  position = place a.store;
  confirmed = a.confirmed;
  received = a.received;
  version = a.version;
  max_frame = framing.max_frame;
  limit = a.limit;
  closed = framing.closed;
  order = a.order;
  held = a.held;
  relations = a.relations;
  partial = framing.partial;
  copy_done = framing.copy_done;
  replies = a.replies;
}

-- Why a message of the server isn't handled.
abbrev pub StopsAtMessage : ℤ → Subscribed → Sent → Fault → Cause → Type 0
StopsAtMessage now s m f OutOfMemory = Unit {0}
StopsAtMessage now s m f SpoolFailed = Unit {0}
StopsAtMessage now s m f StatementRefused = (end : ℕ) × (commit_end m ≡ Some end) × (s.position < end) × ReachesStore (take now s m)
StopsAtMessage now s m f HeaderTooLarge = ⊥
StopsAtMessage now s m f ForeignBytes = ⊥
StopsAtMessage now s m f NextMessage = (stopped : Subscribed) × (take now s m ≡ Stopped stopped f)
StopsAtMessage now s m f NeverAnswered = ⊥

-- what a fault leaves as it was
pub record IsKept {C : Type 0} (place : C → ℕ) (old new : Applied C) : Type 0 where
  pub position : place new.store ≡ place old.store
  pub confirmed : new.confirmed ≡ old.confirmed
  pub received : new.received ≡ old.received
  pub version : new.version ≡ old.version
  pub limit : new.limit ≡ old.limit
  pub replies : new.replies ≡ old.replies

-- all but the store is as it was
abbrev pub StaysBesideStore : {C : Type 0} → Applied C → Applied C → Type 0
StaysBesideStore old new = new ≡ record old { store = new.store }

module _ {C : Type 0} (holds : C → Tables → Type 0) (place : C → ℕ) where
  -- Whatever tables the store held, it holds others, with which the next state is this one.
  abbrev pub Goes : (Subscribed → Outcome Subscribed Fault) → Applied C → Applied C → Type 0
  Goes next old new =
      (framing : Framing) (tables : Tables) → holds old.store tables
      → (tables' : Tables) × holds new.store tables'
      × (next (subscribed place framing old tables) ≡ Running (subscribed place framing new tables'))

  -- A message isn't handled: nothing that outlives a disconnection changes.
  pub record Stops (now : ℤ) (m : Sent) (old new : Applied C) (f : Fault) : Type 0 where
    pub kept : IsKept place old new
    pub stays : (tables : Tables) → holds old.store tables → holds new.store tables
    pub why : (framing : Framing) (tables : Tables) → holds old.store tables
        → StopsAtMessage now (subscribed place framing old tables) m f (cause f)
