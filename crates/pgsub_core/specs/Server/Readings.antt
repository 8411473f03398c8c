-- PostgreSQL documentation, Message Formats (CopyData, CopyDone) and Streaming Replication
-- Protocol: what the bytes of a session say.
use Rattle.std.specs.Prelude.{◌≡◌, ◌≤◌, ◌⊎◌, ℕ, ℤ, List, [], ◌∷◌, ◌++◌, Bool, false, Ok}
use Rattle.pglogical.specs.Reading.{message_at}
use Rattle.pglogical.specs.Spelling.{message_spelling, IsWireMessage, IsMessageFor}
use Rattle.pglogical.specs.declared.message.Message.{Message}
use Rattle.pgorder.specs.declared.Version.{Version}
use Rattle.pgorder.specs.Laws.{in_block_after}
use Rattle.pgwire.specs.Frames as wire
use Rattle.pgwire.specs.Payloads.{payload_at}
use Rattle.pgsub_core.specs.Server.History.{Transaction}
use Rattle.pgsub_core.specs.Server.Stream.{Sent, Data, Keepalive, commits_and_keepalives}
use Rattle.pgsub_core.specs.Machine.Replica.{Running, apply_all}
use Rattle.pgsub_core.specs.Server.Reached.{reached, disconnected}
use Rattle.pgsub_core.specs.Subscriber.Subscribed.{Subscribed, disconnect, progress_of, replica_of}
use Rattle.pgsub_core.specs.Machine.Taking.{take_frames}
use Rattle.pgsub_core.specs.Server.Sessions.{frames_of, IsSession}

-- Each message of the wire is read again from its spelling, with its xid exactly inside a block.
abbrev pub MessagesAreReadAgain : Type 0
MessagesAreReadAgain = (in_block : Bool) (m : Message) → IsWireMessage m → IsMessageFor in_block m
    → message_at in_block (message_spelling m) ≡ Ok m

-- the frames of the messages, behind which CopyDone may stand
pub record AreFramesOf (sent : List Sent) (fs : List wire.Frame) : Type 0 where
  pub done : List wire.Frame
  pub last : (done ≡ []) ⊎ (done ≡ wire.CopyDone ∷ [])
  pub same : fs ≡ frames_of sent ++ done

-- Whoever reads the frames of a session's bytes, with whatever limit, reads those of the messages
-- that are complete in them.
abbrev pub SessionBytesAreItsFrames : Type 0
SessionBytesAreItsFrames =
    (v : Version) (history : List Transaction) (s max : ℕ) (bytes : List ℕ) (complete : List Sent) (fs : List wire.Frame) (rest : List ℕ)
    → IsSession v history s bytes complete → wire.IsDeframedAs max bytes fs rest → AreFramesOf complete fs

-- The payload of a frame says this message of the server, inside a block or outside.
abbrev pub SaysMessage : Bool → List ℕ → Sent → Type 0
SaysMessage in_block bytes (Data start end clock m) =
    (body : List ℕ) × (payload_at bytes ≡ Ok (wire.XLogData start end clock body)) × (message_at in_block body ≡ Ok m)
SaysMessage in_block bytes (Keepalive end clock asks) = payload_at bytes ≡ Ok (wire.Keepalive end clock asks)

abbrev pub block_after : Bool → Sent → Bool
block_after in_block (Data start end clock m) = in_block_after in_block m
block_after in_block (Keepalive end clock asks) = in_block

-- the frames say these messages, CopyDone none
abbrev pub SayMessages : Bool → List wire.Frame → List Sent → Type 0
SayMessages in_block [] sent = sent ≡ []
SayMessages in_block (wire.CopyDone ∷ fs) sent = SayMessages in_block fs sent
SayMessages in_block (wire.CopyData bytes ∷ fs) [] = ⊥
SayMessages in_block (wire.CopyData bytes ∷ fs) (m ∷ sent) = SaysMessage in_block bytes m × SayMessages (block_after in_block m) fs sent

-- The frames of any stream that are taken in a session say messages: position, confirmed and
-- received are those that these reach, and the tables are what their commits make of the tables
-- before.
abbrev pub TakenFramesReach : Type 0
TakenFramesReach =
    (now : ℤ) (old new : Subscribed) (fs : List wire.Frame) → old.position ≤ old.confirmed
    → take_frames now (disconnect old) fs ≡ Running new
    → (sent : List Sent) × SayMessages false fs sent × (progress_of new ≡ reached (disconnected (progress_of old)) [] sent)
    × (apply_all (replica_of (disconnect old)) (commits_and_keepalives [] sent) ≡ Running (replica_of new))
