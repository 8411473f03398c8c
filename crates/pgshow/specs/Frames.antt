-- PostgreSQL documentation, Streaming Replication Protocol and Logical Streaming Replication
-- Protocol: frames that stand in order, and why the next one doesn't.
use Rattle.std.specs.Prelude.{◌≡◌, ◌⊎◌, ℕ, ℤ, List, [], ◌∷◌, ◌++◌, Bool, map, Ok}
use Rattle.std.specs.List.{flat_map, AllByRecursion}
use Rattle.pgwire.specs.Frames as wire
use Rattle.pgwire.specs.Payloads.{XLogData, Keepalive as KeepaliveMessage, payload, IsServerMessage}
use Rattle.pgwire.specs.Payloads.{HasPayloadFault}
use Rattle.pglogical.specs.declared.fault.DecodeFault.{DecodeFault}
use Rattle.pglogical.specs.declared.message.Message.{Message}
use Rattle.pglogical.specs.Spelling.{message_spelling, IsWireMessage}
use Rattle.pglogical.specs.Laws as laws
use Rattle.pgorder.specs.declared.fault.OrderFault.{OrderFault}
use Rattle.pgorder.specs.declared.Version.{Version}
use Rattle.pgorder.specs.Shape.{IsShaped}
use Rattle.pgorder.specs.Steps.{OrderState, initial_order, order_run}
use Rattle.pgorder.specs.States.{is_in_block}
use Rattle.pgorder.specs.Faults.{IsFaultOf}
use Rattle.pgshow.specs.declared.fault.Fault.{Fault}
use Rattle.pgshow.specs.declared.fault.Fault.TheVariants.{Wire, Decode, Order, Memory}

-- what a frame says: XLogData with a logical message, a keepalive, or CopyDone
pub data Said : Type 0 where
  Data : (start end : ℕ) (clock : ℤ) (m : Message) → Said
  Keepalive : (end : ℕ) (clock : ℤ) (reply : Bool) → Said
  Done : Said

abbrev pub frame_of : Said → wire.Frame
frame_of (Data start end clock m) = wire.CopyData (payload (XLogData start end clock (message_spelling m)))
frame_of (Keepalive end clock reply) = wire.CopyData (payload (KeepaliveMessage end clock reply))
frame_of Done = wire.CopyDone

abbrev pub message_in : Said → List Message
message_in (Data start end clock m) = m ∷ []
message_in (Keepalive end clock reply) = []
message_in Done = []

abbrev pub messages_in : List Said → List Message
messages_in said = flat_map message_in said

-- its numbers and texts are those of the wire
abbrev pub IsWireSaid : Said → Type 0
IsWireSaid (Data start end clock m) = IsServerMessage (XLogData start end clock (message_spelling m)) × IsWireMessage m
IsWireSaid (Keepalive end clock reply) = IsServerMessage (KeepaliveMessage end clock reply)
IsWireSaid Done = Unit {0}

-- The bytes are these frames and then others, and the messages in the frames have the shape of a
-- stream.
pub record BeginsWith (v : Version) (max : ℕ) (bytes : List ℕ) (said : List Said) (rest : List ℕ) : Type 0 where
  pub whole : bytes ≡ wire.frames (map frame_of said) ++ rest
  pub each : wire.AreFrames max (map frame_of said)
  pub fits : AllByRecursion IsWireSaid said
  pub shape : IsShaped v (messages_in said)

-- the payload is XLogData, of whose body this holds
abbrev pub OfBody : List ℕ → (List ℕ → Type 0) → Type 0
OfBody bytes Holds = (start : ℕ) × (end : ℕ) × (clock : ℤ) × (body : List ℕ) × IsServerMessage (XLogData start end clock body)
    × (bytes ≡ payload (XLogData start end clock body)) × Holds body

-- A body after these messages can't be read: an xid stands in it exactly inside a block.
abbrev pub IsUnreadable : Version → List Message → List ℕ → DecodeFault → Type 0
IsUnreadable v messages body fault =
    (state : OrderState) × (order_run v initial_order messages ≡ Ok state) × laws.IsFaultOf (is_in_block state.context) body fault

-- A body after these messages is a message that can't stand there.
abbrev pub IsMisplaced : Version → List Message → List ℕ → OrderFault → Type 0
IsMisplaced v messages body fault =
    (m : Message) × (body ≡ message_spelling m) × IsWireMessage m × (¬ IsShaped v (messages ++ m ∷ [])) × IsFaultOf v messages m fault

-- why a body after these messages isn't shown
abbrev pub IsRefusedBody : Version → List Message → List ℕ → Fault → Type 0
IsRefusedBody v messages body Memory = Unit {0}
IsRefusedBody v messages body (Wire fault) = ⊥
IsRefusedBody v messages body (Decode fault) = IsUnreadable v messages body fault
IsRefusedBody v messages body (Order fault) = IsMisplaced v messages body fault

-- the same of a payload
abbrev pub IsRefusedPayload : Version → List Message → List ℕ → Fault → Type 0
IsRefusedPayload v messages bytes Memory = Unit {0}
IsRefusedPayload v messages bytes (Wire fault) = HasPayloadFault bytes fault
IsRefusedPayload v messages bytes (Decode fault) = OfBody bytes (λ body. IsUnreadable v messages body fault)
IsRefusedPayload v messages bytes (Order fault) = OfBody bytes (λ body. IsMisplaced v messages body fault)

-- the same of a frame: CopyDone has no fault
abbrev pub IsRefusedFrame : Version → List Message → wire.Frame → Fault → Type 0
IsRefusedFrame v messages (wire.CopyData bytes) fault = IsRefusedPayload v messages bytes fault
IsRefusedFrame v messages wire.CopyDone Memory = Unit {0}
IsRefusedFrame v messages wire.CopyDone (Wire fault) = ⊥
IsRefusedFrame v messages wire.CopyDone (Decode fault) = ⊥
IsRefusedFrame v messages wire.CopyDone (Order fault) = ⊥

-- a whole frame comes next, which has this fault
pub record HasRefusedFrame (v : Version) (max : ℕ) (said : List Said) (rest : List ℕ) (fault : Fault) : Type 0 where
  pub frame : wire.Frame
  pub later : List ℕ
  pub whole : rest ≡ wire.frame frame ++ later
  pub each : wire.AreFrames max (map frame_of said ++ frame ∷ [])
  pub refused : IsRefusedFrame v (messages_in said) frame fault

-- Why the bytes after these frames aren't shown: they can't be the front of a frame, or the next
-- frame has the fault, or memory ran out.
abbrev pub IsNextFault : Version → ℕ → List Said → List ℕ → Fault → Type 0
IsNextFault v max said rest Memory = Unit {0}
IsNextFault v max said rest (Wire fault) =
    wire.IsFramingFault max (wire.has_copy_done (map frame_of said)) rest fault ⊎ HasRefusedFrame v max said rest (Wire fault)
IsNextFault v max said rest (Decode fault) = HasRefusedFrame v max said rest (Decode fault)
IsNextFault v max said rest (Order fault) = HasRefusedFrame v max said rest (Order fault)
