-- How a deframer keeps what it holds.
use Rattle.std.specs.Prelude.{◌≡◌, ◌≢◌, ◌<◌, ◌≤◌, ◌+◌, ◌-◌, ◌++◌, ℕ, List, Bool, true, length, take}
use Rattle.std.specs.Prelude.{Option, Some, min}
use Rattle.pgwire.specs.declared.fault.WireFault.{WireFault}
use Rattle.pgwire.specs.declared.fault.WireFault.TheVariants.{Memory}
use Rattle.pgwire.specs.declared.header.Header.{Header}
use Rattle.pgwire.specs.Frames.{HasPayloadLen}

-- the bytes of the header that have come
abbrev pub come : Header → List ℕ
come h = take h.len h.bytes

-- After a whole header is as much of the payload as it says or less. Nothing is held after
-- CopyDone, and no whole frame beside a fault.
pub record IsSound (max : ℕ) (header : Header) (payload : List ℕ) (done : Bool) (fault : Option WireFault) : Type 0 where
  pub payload_len : ℕ
  pub good : HasPayloadLen max (come header) payload_len
  pub within : length payload ≤ payload_len
  pub last : done ≡ true → header.len ≡ 0
  pub waits : (x : WireFault) → fault ≡ Some x → (x ≢ Memory) × (header.len ≡ 5 → length payload < payload_len)

-- the header with what a piece's front adds to it
pub record IsHeaderWith (old : Header) (piece : List ℕ) (new : Header) : Type 0 where
  pub len : new.len ≡ min 5 (old.len + length piece)
  pub bytes : come new ≡ come old ++ take (new.len - old.len) piece
