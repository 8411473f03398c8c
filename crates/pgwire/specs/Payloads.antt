-- PostgreSQL documentation, Streaming Replication Protocol: XLogData and Primary keepalive message,
-- the payloads of CopyData that a server sends. LSNs are unsigned numbers of 64 bits, clocks signed
-- ones.
use Rattle.std.specs.Prelude.{◌≡◌, ◌≢◌, ◌<◌, ◌^◌, ◌⊎◌, ℕ, ℤ, List, [], ◌∷◌, ◌++◌, Bool, true, false}
use Rattle.std.specs.Prelude.{length, drop, slice_index, nat_lt, ◌==◌, if◌then◌else◌, Result, Ok}
use Rattle.std.specs.Prelude.{Err, FitsSigned}
use Rattle.std.specs.Int.{w64, to_be_bytes, cast_unsigned, cast_signed}
use Rattle.byteorder.specs.Endian.{big_number}
use Rattle.pgwire.specs.declared.fault.WireFault.{WireFault}
use Rattle.pgwire.specs.declared.fault.WireFault.TheVariants.{UnknownServerMessage, Short, Trailing}
use Rattle.pgwire.specs.declared.fault.WireFault.TheVariants.{BadReplyByte}

-- the first byte of a payload: `w` of XLogData, `k` of a keepalive
abbrev pub xlog_data_tag : ℕ
xlog_data_tag = 119

abbrev pub keepalive_tag : ℕ
keepalive_tag = 107

-- what a server sends in CopyData: a part of the WAL with its place, the end of the WAL and the
-- server's clock; or the end and the clock alone, with whether it asks for a reply
pub data ServerMessage : Type 0 where
  XLogData : (start end : ℕ) (clock : ℤ) (body : List ℕ) → ServerMessage
  Keepalive : (end : ℕ) (clock : ℤ) (reply : Bool) → ServerMessage

abbrev pub flag_byte : Bool → ℕ
flag_byte true = 1
flag_byte false = 0

-- the encoding: `w`, start, end, clock, data; or `k`, end, clock, 1 for a reply as soon as possible
-- and else 0
abbrev pub payload : ServerMessage → List ℕ
payload (XLogData start end clock body) =
    xlog_data_tag ∷ (to_be_bytes w64 start ++ to_be_bytes w64 end ++ to_be_bytes w64 (cast_unsigned w64 clock) ++ body)
payload (Keepalive end clock reply) =
    keepalive_tag ∷ (to_be_bytes w64 end ++ to_be_bytes w64 (cast_unsigned w64 clock) ++ flag_byte reply ∷ [])

-- its numbers are those of the wire
abbrev pub IsServerMessage : ServerMessage → Type 0
IsServerMessage (XLogData start end clock body) = (start < 2 ^ 64) × (end < 2 ^ 64) × FitsSigned w64 clock
IsServerMessage (Keepalive end clock reply) = (end < 2 ^ 64) × FitsSigned w64 clock

-- why a payload says no message, the first cause from the left; a keepalive's length is looked at
-- before its reply byte
abbrev pub HasPayloadFault : List ℕ → WireFault → Type 0
HasPayloadFault bytes (UnknownServerMessage byte) =
    (fields : List ℕ) × (bytes ≡ byte ∷ fields) × (byte ≢ xlog_data_tag) × (byte ≢ keepalive_tag)
HasPayloadFault bytes Short =
    (bytes ≡ []) ⊎ ((fields : List ℕ) × (bytes ≡ xlog_data_tag ∷ fields) × (length fields < 24))
    ⊎ ((fields : List ℕ) × (bytes ≡ keepalive_tag ∷ fields) × (length fields < 17))
HasPayloadFault bytes Trailing = (fields : List ℕ) × (bytes ≡ keepalive_tag ∷ fields) × (17 < length fields)
HasPayloadFault bytes BadReplyByte =
    (fields : List ℕ) × (byte : ℕ) × (bytes ≡ keepalive_tag ∷ (fields ++ byte ∷ [])) × (length fields ≡ 16) × (1 < byte)
HasPayloadFault bytes _ = ⊥

-- The message of a payload, or the first fault; that it is the one that is encoded so is a law.
abbrev pub data_at : List ℕ → Result ServerMessage WireFault
data_at fields =
    if nat_lt (length fields) 24 then Err Short
    else Ok (XLogData (big_number 8 fields) (big_number 8 (drop 8 fields)) (cast_signed w64 (big_number 8 (drop 16 fields)))
    (drop 24 fields))

abbrev pub keepalive_at : List ℕ → Result ServerMessage WireFault
keepalive_at fields =
    if nat_lt (length fields) 17 then Err Short
    else if nat_lt 17 (length fields) then Err Trailing
    else if nat_lt 1 (slice_index fields 16) then Err BadReplyByte
    else Ok (Keepalive (big_number 8 fields) (cast_signed w64 (big_number 8 (drop 8 fields))) (slice_index fields 16 == 1))

unfoldable pub payload_at : List ℕ → Result ServerMessage WireFault
payload_at [] = Err Short
payload_at (tag ∷ fields) = if tag == xlog_data_tag then data_at fields else if tag == keepalive_tag then keepalive_at fields
    else Err (UnknownServerMessage tag)
