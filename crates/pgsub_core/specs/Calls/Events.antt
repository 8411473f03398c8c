-- What an event of the order of messages does.
use Rattle.std.specs.Prelude.{◌≡◌, ◌<◌, ◌≤◌, ◌+◌, ◌⊎◌, ℕ, Option, Some, None}
use Rattle.pglogical.specs.declared.message.Message.{Message}
use Rattle.pgorder.specs.declared.Event.{Event}
use Rattle.pgorder.specs.declared.Event.TheVariants as event
use Rattle.pgspool.specs.Labels.{HeldMap, cost, all_costs}
use Rattle.pgapply.specs.Value.{Tables}
use Rattle.pgspool.specs.declared.fault.SpoolFault.TheVariants as spool
use Rattle.pgsub_core.specs.declared.fault.Fault.{Fault}
use Rattle.pgsub_core.specs.declared.fault.Fault.TheVariants as fault
use Rattle.pgsub_core.specs.Server.Stream.{Kind, Holds, kind as kind_of}
use Rattle.pgsub_core.specs.Machine.Replica.{Halt, Running, Stopped, GoesOrStops, IsOfStore}
use Rattle.pgsub_core.specs.Machine.ApplyState.{ApplyState, on_event}
use Rattle.pgsub_core.specs.Machine.Taking.{fault_of}
use Rattle.pgsub_core.specs.Subscriber.Causes.{Cause, OutOfMemory, StatementRefused, HeaderTooLarge}
use Rattle.pgsub_core.specs.Subscriber.Causes.{ForeignBytes, NextMessage, NeverAnswered, cause}
use Rattle.pgsub_core.specs.Subscriber.Causes.{SpoolFailed}
use Rattle.pgsub_core.specs.Calls.Committing.{replica_with}
use Rattle.pgsub_core.specs.Subscriber.Applied.{Applied}

-- with the item that a message holds, all that is held costs no more than the limit
abbrev pub HasRoom : ℕ → HeldMap → Kind → Type 0
HasRoom limit held (Holds subxid item) = all_costs held + cost item ≤ limit
HasRoom limit held _ = Unit {0}

-- it costs more
abbrev pub IsFull : ℕ → HeldMap → Kind → Type 0
IsFull limit held (Holds subxid item) = limit < all_costs held + cost item
IsFull limit held _ = ⊥

-- what an event doesn't touch
pub record StaysBeside {C : Type 0} (old new : Applied C) : Type 0 where
  pub received : new.received ≡ old.received
  pub version : new.version ≡ old.version
  pub limit : new.limit ≡ old.limit
  pub order : new.order ≡ old.order
  pub replies : new.replies ≡ old.replies

abbrev pub state_with : {C : Type 0} → (C → ℕ) → Applied C → Tables → ApplyState
state_with place a tables = record { order = a.order; held = a.held; replica = replica_with tables (place a.store) a.confirmed a.relations }

-- an event that holds an item finds room for it
abbrev pub FindsRoom : Event → ℕ → HeldMap → Kind → Type 0
FindsRoom (event.Hold xid subxid) limit held k = HasRoom limit held k
FindsRoom _ limit held k = Unit {0}

abbrev pub FindsNoRoom : Event → ℕ → HeldMap → Kind → Type 0
FindsNoRoom (event.Hold xid subxid) limit held k = IsFull limit held k
FindsNoRoom _ limit held k = ⊥

-- the end of the commit that an event is
abbrev pub event_end : Event → Option ℕ
event_end (event.CommitPair xid lsn end) = Some end
event_end (event.CommitStream xid lsn end) = Some end
event_end _ = None

-- why an event isn't gone through with
abbrev pub StopsAtEvent : ApplyState → Message → Event → ℕ → Fault → Cause → Type 0
StopsAtEvent old m e limit f OutOfMemory = Unit {0}
StopsAtEvent old m e limit f SpoolFailed = Unit {0}
StopsAtEvent old m e limit f StatementRefused =
    (end : ℕ) × (event_end e ≡ Some end) × (old.replica.position < end) × GoesOrStops IsOfStore (on_event old m old.order e)
StopsAtEvent old m e limit f HeaderTooLarge = ⊥
StopsAtEvent old m e limit f ForeignBytes = ⊥
StopsAtEvent old m e limit f NextMessage =
    ((stopped : ApplyState) × (why : Halt) × (on_event old m old.order e ≡ Stopped stopped why) × (f ≡ fault_of why))
    ⊎ ((f ≡ fault.Spool spool.SpoolFull) × FindsNoRoom e limit old.held (kind_of m))
StopsAtEvent old m e limit f NeverAnswered = ⊥

module _ {C : Type 0} (holds : C → Tables → Type 0) (place : C → ℕ) (m : Message) (e : Event) where
  -- the event is gone through with
  abbrev pub EventGoes : Applied C → Applied C → Type 0
  EventGoes old new =
      (tables : Tables) → holds old.store tables
      → (tables' : Tables) × holds new.store tables'
      × (on_event (state_with place old tables) m old.order e ≡ Running (state_with place new tables'))

  -- it isn't, and the store holds what it held
  pub record EventStops (old new : Applied C) (f : Fault) : Type 0 where
    pub stays : (tables : Tables) → holds old.store tables → holds new.store tables
    pub why : (tables : Tables) → holds old.store tables → StopsAtEvent (state_with place old tables) m e old.limit f (cause f)
