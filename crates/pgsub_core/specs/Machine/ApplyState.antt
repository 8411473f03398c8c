-- PostgreSQL documentation, Logical Streaming Replication Protocol: what a subscriber does with one
-- message after the other, by the order of messages, what it holds of open transactions, and its
-- replica.
use Rattle.std.specs.Prelude.{ℕ, List, [], ◌∷◌, ◌++◌, Result, Ok, Err}
use Rattle.std.specs.FinMap as map
use Rattle.pglogical.specs.declared.message.Message.{Message}
use Rattle.pgorder.specs.declared.Version.{Version}
use Rattle.pgorder.specs.declared.Event.{Event}
use Rattle.pgorder.specs.declared.Event.TheVariants as event
use Rattle.pgorder.specs.declared.fault.OrderFault.{OrderFault}
use Rattle.pgorder.specs.Steps.{OrderState, initial_order, order_step}
pub use Rattle.pgorder.specs.States.{is_outside}
use Rattle.pgspool.specs.Labels.{HeldMap, cut, items_of, held_of}
use Rattle.pgsub_core.specs.Server.Stream.{Sent, Data, Keepalive, Kind, Holds, kind}
use Rattle.pgsub_core.specs.Machine.Replica.{Replica, Halt, OutOfOrder, Outcome, Running, Stopped}
use Rattle.pgsub_core.specs.Machine.Replica.{then_run, on_commit, on_keepalive}

pub record ApplyState : Type 0 where
  pub order : OrderState
  pub held : HeldMap
  pub replica : Replica

abbrev pub ApplyResult : Type 0
ApplyResult = Outcome ApplyState Halt

abbrev pub pushed : HeldMap → ℕ → ℕ → Kind → HeldMap
pushed held xid subxid (Holds x item) = map.insert held xid (held_of held xid ++ (subxid, item) ∷ [])
pushed held xid subxid _ = held

-- what a commit leaves; nothing is held of it any more
abbrev pub committed : ApplyState → OrderState → ℕ → Outcome Replica Halt → ApplyResult
committed old order xid (Running replica) = Running (record { order = order; held = map.remove old.held xid; replica = replica })
committed old order xid (Stopped replica why) = Stopped (record old { replica = replica }) why

abbrev pub on_event : ApplyState → Message → OrderState → Event → ApplyResult
on_event old m order event.Ignore = Running (record old { order = order })
on_event old m order (event.Begin xid) = Running (record old { order = order; held = map.insert old.held xid [] })
on_event old m order (event.Hold xid subxid) = Running (record old { order = order; held = pushed old.held xid subxid (kind m) })
on_event old m order (event.Open xid) = Running (record old { order = order; held = map.insert old.held xid [] })
on_event old m order (event.Reopen xid) = Running (record old { order = order })
on_event old m order event.Close = Running (record old { order = order })
on_event old m order (event.Cut xid subxid) =
    Running (record old { order = order; held = map.insert old.held xid (cut subxid (held_of old.held xid)) })
on_event old m order (event.Drop xid) = Running (record old { order = order; held = map.remove old.held xid })
on_event old m order (event.CommitPair xid lsn end) = committed old order xid (on_commit old.replica end (items_of (held_of old.held xid)))
on_event old m order (event.CommitStream xid lsn end) =
    committed old order xid (on_commit old.replica end (items_of (held_of old.held xid)))

abbrev pub on_message : ApplyState → Message → Result (OrderState × Event) OrderFault → ApplyResult
on_message old m (Ok step) = on_event old m step.0 step.1
on_message old m (Err fault) = Stopped old (OutOfOrder fault)

-- one message of the server
abbrev pub step : Version → ApplyState → Sent → ApplyResult
step v old (Data start end clock m) = on_message old m (order_step v old.order m)
step v old (Keepalive end clock reply) = Running (record old { replica = on_keepalive old.replica end (is_outside old.order.context) })

abbrev pub run : Version → ApplyState → List Sent → ApplyResult
run v old [] = Running old
run v old (m ∷ sent) = then_run (step v old m) (λ next. run v next sent)

-- how a run ends, by its replica alone
abbrev pub replica_outcome : ApplyResult → Outcome Replica Halt
replica_outcome (Running state) = Running state.replica
replica_outcome (Stopped state why) = Stopped state.replica why

-- a session's start: nothing is open, nothing is held, and no relation is known
abbrev pub at_session : Replica → ApplyState
at_session replica = record { order = initial_order; held = map.empty; replica = record replica { relations = map.empty } }

-- one session after the other, each behind a disconnection
abbrev pub follow_all : Version → Replica → List (List Sent) → Outcome Replica Halt
follow_all v replica [] = Running replica
follow_all v replica (complete ∷ all_complete) =
    then_run (replica_outcome (run v (at_session replica) complete)) (λ new. follow_all v new all_complete)
