-- PostgreSQL documentation, Streaming Replication Protocol: the line of a server message, by the
-- payload of its frame.
use Rattle.std.specs.Prelude.{◌≡◌, ℕ, ℤ, List, Bool}
use Rattle.pgwire.specs.Payloads.{ServerMessage, XLogData, Keepalive, payload, IsServerMessage}
use Rattle.pgwire.specs.Payloads.{HasPayloadFault}
use Rattle.pglogical.specs.declared.message.Message.{Message}
use Rattle.pglogical.specs.Spelling.{Says}
use Rattle.pglogical.specs.Laws.{IsFaultOf}
use Rattle.pgjson.specs.Lines.{line, data_data, keepalive_data}
use Rattle.pgshow.specs.declared.fault.Fault.{Fault}
use Rattle.pgshow.specs.declared.fault.Fault.TheVariants.{Wire, Decode, Memory}

-- of XLogData with this body, which says a logical message, with an xid exactly inside a block
abbrev pub IsLineOfBody : Bool → ℕ → ℕ → ℤ → List ℕ → List ℕ → Type 0
IsLineOfBody in_block start end clock body text = (m : Message) × Says in_block m body × (text ≡ line (data_data start end clock m))

abbrev pub IsLineOfMessage : Bool → ServerMessage → List ℕ → Type 0
IsLineOfMessage in_block (XLogData start end clock body) text = IsLineOfBody in_block start end clock body text
IsLineOfMessage in_block (Keepalive end clock reply) text = text ≡ line (keepalive_data end clock reply)

-- the payload says a server message, and this is its line
abbrev pub IsLineOf : Bool → List ℕ → List ℕ → Type 0
IsLineOf in_block bytes text = (m : ServerMessage) × IsServerMessage m × (bytes ≡ payload m) × IsLineOfMessage in_block m text

-- why a body has no line
abbrev pub IsRefusedBody : Bool → List ℕ → Fault → Type 0
IsRefusedBody in_block body Memory = Unit {0}
IsRefusedBody in_block body (Decode fault) = IsFaultOf in_block body fault
IsRefusedBody in_block body fault = ⊥

-- why a payload has none
abbrev pub IsRefused : Bool → List ℕ → Fault → Type 0
IsRefused in_block bytes Memory = Unit {0}
IsRefused in_block bytes (Wire fault) = HasPayloadFault bytes fault
IsRefused in_block bytes (Decode fault) =
    (start : ℕ) × (end : ℕ) × (clock : ℤ) × (body : List ℕ) × (bytes ≡ payload (XLogData start end clock body))
    × IsFaultOf in_block body fault
IsRefused in_block bytes fault = ⊥
