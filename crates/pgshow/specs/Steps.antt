-- How a session is shown, frame by frame.
use Rattle.std.specs.Prelude.{◌≡◌, ◌≢◌, ◌⊎◌, ℕ, ℤ, List, [], ◌∷◌, ◌++◌, map, None, Ok, Err}
use Rattle.std.specs.List.{AllByRecursion}
use Rattle.pgwire.specs.declared.fault.WireFault.{WireFault}
use Rattle.pgwire.specs.declared.fault.WireFault.TheVariants as wire_fault
use Rattle.pgwire.specs.Frames as wire
use Rattle.pgwire.specs.Deframed.{Deframed, IsFed, Stands, Waits, after_release}
use Rattle.pgwire.specs.Calls.{Call, Leads}
use Rattle.pglogical.specs.declared.message.Message.{Message}
use Rattle.pglogical.specs.Spelling.{message_spelling, IsWireMessage}
use Rattle.pgorder.specs.declared.fault.OrderFault.{OrderFault}
use Rattle.pgorder.specs.declared.fault.OrderFault.TheVariants as order_fault
use Rattle.pgorder.specs.declared.Version.{Version}
use Rattle.pgorder.specs.Shape.{IsShaped}
use Rattle.pgorder.specs.Steps.{initial_order, order_run}
use Rattle.pgorder.specs.States.{StreamOrder}
use Rattle.pgshow.specs.declared.fault.Fault.{Fault}
use Rattle.pgshow.specs.declared.fault.Fault.TheVariants.{Wire, Decode, Order, Memory}
use Rattle.pgshow.specs.Frames.{Said, Data, frame_of, message_in, messages_in, BeginsWith}
use Rattle.pgshow.specs.Frames.{IsNextFault, IsRefusedBody, IsRefusedFrame, IsRefusedPayload}
use Rattle.pgshow.specs.Frames.{IsWireSaid}
use Rattle.pgshow.specs.Shown.{line_of, lines_of}

-- these messages were taken from the start on, and leave this order
pub record IsAfter (v : Version) (messages : List Message) (order : StreamOrder) : Type 0 where
  pub shape : IsShaped v messages
  pub version : order.version ≡ v
  pub run : order_run v initial_order messages ≡ Ok order.state

-- a body says this message, which is taken
abbrev pub TakesBody : List ℕ → Message → StreamOrder → StreamOrder → Type 0
TakesBody body m old new =
    (body ≡ message_spelling m) × IsWireMessage m
    × ((v : Version) (messages : List Message) → IsAfter v messages old → IsAfter v (messages ++ m ∷ []) new)

abbrev pub RefusesBody : List ℕ → StreamOrder → Fault → Type 0
RefusesBody body old fault = (v : Version) (messages : List Message) → IsAfter v messages old → IsRefusedBody v messages body fault

-- XLogData with these fields and this body is taken, and this is its line
abbrev pub TakesData : ℕ → ℕ → ℤ → List ℕ → List ℕ → StreamOrder → StreamOrder → Type 0
TakesData start end clock body line old new = (m : Message) × TakesBody body m old new × (line ≡ line_of (Data start end clock m))

-- a frame says this, which is taken, and this is its line
abbrev pub TakesFrame : wire.Frame → List ℕ → StreamOrder → StreamOrder → Type 0
TakesFrame frame line old new =
    (said : Said) × (frame ≡ frame_of said) × IsWireSaid said × (line ≡ line_of said)
    × ((v : Version) (messages : List Message) → IsAfter v messages old → IsAfter v (messages ++ message_in said) new)

abbrev pub RefusesPayload : List ℕ → StreamOrder → Fault → Type 0
RefusesPayload bytes old fault = (v : Version) (messages : List Message) → IsAfter v messages old → IsRefusedPayload v messages bytes fault

abbrev pub RefusesFrame : wire.Frame → StreamOrder → Fault → Type 0
RefusesFrame frame old fault = (v : Version) (messages : List Message) → IsAfter v messages old → IsRefusedFrame v messages frame fault

-- the frame that stands whole was shown and released, or none stands
abbrev pub ShowsWhole : Deframed → StreamOrder → List ℕ → Deframed → StreamOrder → List ℕ → Type 0
ShowsWhole d order text d' order' text' =
    ((frame : wire.Frame) × (line : List ℕ) × Stands d frame × (d' ≡ after_release d frame) × TakesFrame frame line order order'
    × (text' ≡ text ++ line))
    ⊎ (Waits d × (d' ≡ d) × (order' ≡ order) × (text' ≡ text))

-- the frame that stands whole has this fault, and no line
abbrev pub RefusesWhole : Deframed → StreamOrder → List ℕ → List ℕ → Fault → Type 0
RefusesWhole d order text text' fault = (text' ≡ text) × (frame : wire.Frame) × Stands d frame × RefusesFrame frame order fault

-- these bytes were taken, these frames were shown, and more bytes are waited for
pub record IsUnderWay (v : Version) (max : ℕ) (taken : List ℕ) (said : List Said) (d : Deframed) (order : StreamOrder) : Type 0 where
  pub calls : List Call
  pub leads : Leads max calls taken (map frame_of said) d
  pub waits : Waits d
  pub sound : d.fault ≡ None
  pub fits : AllByRecursion IsWireSaid said
  pub after : IsAfter v (messages_in said) order

-- after these bytes were taken, so far was shown and here is the fault
pub record StopsAt (v : Version) (max : ℕ) (bytes : List ℕ) (said : List Said) (fault : Fault) : Type 0 where
  pub rest : List ℕ
  pub begins : BeginsWith v max bytes said rest
  pub fault_is : IsNextFault v max said rest fault

-- a piece was shown
abbrev pub ShowsPiece : List ℕ → Deframed → StreamOrder → List ℕ → Deframed → StreamOrder → List ℕ → Type 0
ShowsPiece piece d order text d' order' text' =
    (v : Version) (max : ℕ) (taken : List ℕ) (said : List Said) → IsUnderWay v max taken said d order
    → (more : List Said) × IsUnderWay v max (taken ++ piece) (said ++ more) d' order' × (text' ≡ text ++ lines_of more)

abbrev pub StopsInPiece : List ℕ → Deframed → StreamOrder → List ℕ → List ℕ → Fault → Type 0
StopsInPiece piece d order text text' fault =
    (v : Version) (max : ℕ) (taken : List ℕ) (said : List Said) → IsUnderWay v max taken said d order
    → (more : List Said) × StopsAt v max (taken ++ piece) (said ++ more) fault × (text' ≡ text ++ lines_of more)

-- out of memory is told apart from the other faults
abbrev pub IsWireFault : WireFault → Fault → Type 0
IsWireFault fault (Wire told) = (told ≡ fault) × (fault ≢ wire_fault.Memory)
IsWireFault fault Memory = fault ≡ wire_fault.Memory
IsWireFault fault (Decode other) = ⊥
IsWireFault fault (Order other) = ⊥

abbrev pub IsOrderFault : OrderFault → Fault → Type 0
IsOrderFault fault (Order told) = (told ≡ fault) × (fault ≢ order_fault.Memory)
IsOrderFault fault Memory = fault ≡ order_fault.Memory
IsOrderFault fault (Wire other) = ⊥
IsOrderFault fault (Decode other) = ⊥

-- bytes that can't be taken: they can't be the front of a frame, or memory ran out
abbrev pub RefusesFeed : List ℕ → Deframed → Deframed → Fault → Type 0
RefusesFeed rest old new Memory = (new ≡ old) × (old.fault ≡ None)
RefusesFeed rest old new (Wire fault) = IsFed old rest (Err fault) new × (fault ≢ wire_fault.Memory)
RefusesFeed rest old new (Decode fault) = ⊥
RefusesFeed rest old new (Order fault) = ⊥
