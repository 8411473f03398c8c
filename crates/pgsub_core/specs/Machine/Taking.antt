-- PostgreSQL documentation, Streaming Replication Protocol and Logical Streaming Replication
-- Protocol: what a subscriber does with one message or frame of the server after the other, with
-- the first fault that stops it. Want of memory and a statement that the store refuses can stop it
-- too, and stand beside this (StopsBy in HandledLaws).
use Rattle.std.specs.Prelude.{◌+◌, ℕ, ℤ, List, [], ◌∷◌, Bool, true, false, Result, Ok, Err, max}
use Rattle.std.specs.Prelude.{nat_lt, if◌then◌else◌}
use Rattle.pglogical.specs.Reading.{message_at}
use Rattle.pglogical.specs.declared.fault.DecodeFault.{DecodeFault}
use Rattle.pglogical.specs.declared.message.Message.{Message}
use Rattle.pgorder.specs.States.{is_in_block}
use Rattle.pgrel.specs.declared.fault.RelFault.TheVariants as rel
use Rattle.pgspool.specs.Labels.{cost, all_costs}
use Rattle.pgspool.specs.declared.fault.SpoolFault.TheVariants as spool
use Rattle.pgwire.specs.Frames as wire
use Rattle.pgwire.specs.Payloads.{payload_at}
use Rattle.pgwire.specs.declared.fault.WireFault.{WireFault}
use Rattle.pgsub_core.specs.declared.fault.Fault.{Fault}
use Rattle.pgsub_core.specs.declared.fault.Fault.TheVariants as fault
use Rattle.pgsub_core.specs.Server.Stream.{Sent, Data, Keepalive, Kind, Holds, kind}
use Rattle.pgsub_core.specs.Machine.Replica.{Halt, UnknownRelation, StoreRefuses, OutOfOrder}
use Rattle.pgsub_core.specs.Machine.Replica.{Outcome, Running, Stopped, then_run, GoesOrStops}
use Rattle.pgsub_core.specs.Machine.ApplyState.{ApplyState, ApplyResult, step}
use Rattle.pgsub_core.specs.Subscriber.Subscribed.{Subscribed, apply_state_of, with_status}
use Rattle.pgsub_core.specs.Subscriber.Subscribed.{disconnect}

abbrev pub fault_of : Halt → Fault
fault_of (UnknownRelation oid) = fault.Relation (rel.UnknownRelation oid)
fault_of (StoreRefuses end k) = fault.Store k
fault_of (OutOfOrder k) = fault.Order k

abbrev pub with_state : ApplyState → Subscribed → Subscribed
with_state state s = record s {
  tables = state.replica.tables;
  position = state.replica.position;
  confirmed = state.replica.confirmed;
  order = state.order;
  held = state.held;
  relations = state.replica.relations;
}

-- received is the greatest of what is confirmed and of all start and end fields of the session
abbrev pub receive : ℕ → Subscribed → Subscribed
receive field s = record s { received = max s.confirmed (max s.received field) }

abbrev pub reply : ℤ → Bool → Subscribed → Subscribed
reply now true s = with_status now false s
reply now false s = s

-- The message is handled. A keepalive that asks for a reply gets a status, after received and
-- confirmed were brought up to date.
abbrev pub handled : ℤ → Sent → ApplyState → Subscribed → Subscribed
handled now (Data start end clock m) state s = receive (max start end) (with_state state s)
handled now (Keepalive end clock asks) state s = reply now asks (receive end (with_state state s))

-- with the item that the message holds, all that is held would cost more than the limit
abbrev pub passes_limit : Subscribed → Kind → Bool
passes_limit s (Holds subxid item) = nat_lt s.limit (all_costs s.held + cost item)
passes_limit s _ = false

abbrev pub message_passes_limit : Subscribed → Sent → Bool
message_passes_limit s (Data start end clock m) = passes_limit s (kind m)
message_passes_limit s (Keepalive end clock asks) = false

abbrev pub taken_with : ℤ → Subscribed → Sent → ApplyResult → Outcome Subscribed Fault
taken_with now s m (Running state) = if message_passes_limit s m then Stopped s (fault.Spool spool.SpoolFull)
    else Running (handled now m state s)
taken_with now s m (Stopped state why) = Stopped s (fault_of why)

-- one message of the server
abbrev pub take : ℤ → Subscribed → Sent → Outcome Subscribed Fault
take now s m = taken_with now s m (step s.version (apply_state_of s) m)

abbrev pub take_all : ℤ → Subscribed → List Sent → Outcome Subscribed Fault
take_all now s [] = Running s
take_all now s (m ∷ sent) = then_run (take now s m) (λ next. take_all now next sent)

-- the messages of one session after the other, each behind a disconnection
abbrev pub take_sessions : ℤ → Subscribed → List (List Sent) → Outcome Subscribed Fault
take_sessions now s [] = Running s
take_sessions now s (sent ∷ sessions) = then_run (take_all now (disconnect s) sent) (λ next. take_sessions now next sessions)

abbrev pub take_message : ℤ → Subscribed → ℕ → ℕ → ℤ → Result Message DecodeFault → Outcome Subscribed Fault
take_message now s start end clock (Ok m) = take now s (Data start end clock m)
take_message now s start end clock (Err k) = Stopped s (fault.Decode k)

-- the message of a payload: the data of XLogData is one logical message, which has an xid exactly
-- inside a block
abbrev pub take_payload : ℤ → Subscribed → Result wire.ServerMessage WireFault → Outcome Subscribed Fault
take_payload now s (Ok (wire.XLogData start end clock body)) =
    take_message now s start end clock (message_at (is_in_block s.order.context) body)
take_payload now s (Ok (wire.Keepalive end clock asks)) = take now s (Keepalive end clock asks)
take_payload now s (Err k) = Stopped s (fault.Wire k)

-- one frame: CopyData with its payload, or CopyDone
abbrev pub take_frame : ℤ → Subscribed → wire.Frame → Outcome Subscribed Fault
take_frame now s (wire.CopyData bytes) = take_payload now s (payload_at bytes)
take_frame now s wire.CopyDone = Running (record s { copy_done = true })

abbrev pub take_frames : ℤ → Subscribed → List wire.Frame → Outcome Subscribed Fault
take_frames now s [] = Running s
take_frames now s (f ∷ fs) = then_run (take_frame now s f) (λ next. take_frames now next fs)

abbrev pub IsStoreFault : Fault → Type 0
IsStoreFault (fault.Store k) = Unit {0}
IsStoreFault (fault.Wire k) = ⊥
IsStoreFault (fault.Decode k) = ⊥
IsStoreFault (fault.Order k) = ⊥
IsStoreFault (fault.Relation k) = ⊥
IsStoreFault (fault.Spool k) = ⊥
IsStoreFault fault.Read = ⊥
IsStoreFault fault.Closed = ⊥
IsStoreFault fault.Memory = ⊥

-- It gets as far as the store: all is well with it, or it has a fault of the store.
abbrev pub ReachesStore : Outcome Subscribed Fault → Type 0
ReachesStore outcome = GoesOrStops IsStoreFault outcome
