-- What a borrowed frame and a borrowed message say.
use Rattle.std.specs.Prelude.{◌≡◌, ℕ, List, Result, Ok, Err, MatchResult}
use Rattle.pgwire.specs.declared.fault.WireFault.{WireFault}
use Rattle.pgwire.specs.declared.frame.Frame.{Frame}
use Rattle.pgwire.specs.declared.frame.Frame.TheVariants as borrowed_frame
use Rattle.pgwire.specs.declared.message.ServerMsg.{ServerMsg}
use Rattle.pgwire.specs.declared.message.ServerMsg.TheVariants as borrowed
use Rattle.pgwire.specs.Frames as wire
use Rattle.pgwire.specs.Payloads.{ServerMessage, XLogData, Keepalive, payload_at}

abbrev pub frame_value : Frame → wire.Frame
frame_value (borrowed_frame.Data bytes) = wire.CopyData bytes.now
frame_value borrowed_frame.Done = wire.CopyDone

abbrev pub message_value : ServerMsg → ServerMessage
message_value (borrowed.Data start end clock body) = XLogData start end clock body.now
message_value (borrowed.Keepalive end clock reply) = Keepalive end clock reply

-- the result is what the payload is read as
abbrev pub Gives : Result ServerMsg WireFault → List ℕ → Type 0
Gives result bytes = MatchResult result (λ m. payload_at bytes ≡ Ok (message_value m)) (λ fault. payload_at bytes ≡ Err fault)
