-- How the reading of a payload goes on by its first byte.
use Rattle.std.proofs.Common.{◌≡◌, ◌≢◌, ◌<◌, ◌≤◌, ℕ, ℤ, List, [], ◌∷◌, length, drop, slice_index}
use Rattle.std.proofs.Common.{refl, arith, Ok, Err, eqb, ltb, false}
use Rattle.std.proofs.lemmas.Bool.{le-ltb}
use Rattle.std.specs.Int.{w64, cast_signed}
use Rattle.byteorder.specs.Endian.{big_number}
use Rattle.pgwire.specs.declared.fault.WireFault.TheVariants.{Short, UnknownServerMessage}
use Rattle.pgwire.specs.Payloads.{XLogData, payload_at, data_at, keepalive_at}

pub empty_at : (bytes : List ℕ) → length bytes < 1 → payload_at bytes ≡ Err Short
unfolding payload_at
empty_at [] none = refl
empty_at (tag ∷ fields) none = absurd (omega arith)

pub as_data : (bytes : List ℕ) → 1 ≤ length bytes → slice_index bytes 0 ≡ 119 → payload_at bytes ≡ data_at (drop 1 bytes)
unfolding payload_at
as_data [] some is = absurd (omega arith)
as_data (tag ∷ fields) some is = rw is refl

pub as_keepalive : (bytes : List ℕ) → 1 ≤ length bytes → slice_index bytes 0 ≡ 107 → payload_at bytes ≡ keepalive_at (drop 1 bytes)
unfolding payload_at
as_keepalive [] some is = absurd (omega arith)
as_keepalive (tag ∷ fields) some is = rw is refl

pub as_unknown : (bytes : List ℕ) → 1 ≤ length bytes → slice_index bytes 0 ≢ 119 → slice_index bytes 0 ≢ 107
    → payload_at bytes ≡ Err (UnknownServerMessage (slice_index bytes 0))
unfolding payload_at
as_unknown [] some other than = absurd (omega arith)
as_unknown (tag ∷ fields) some other than =
    let not_data : eqb tag 119 ≡ false = grind arith in
    let not_keepalive : eqb tag 107 ≡ false = grind arith in
    rw (not_data, not_keepalive) refl

pub data_gives : (fields : List ℕ) (start end : ℕ) (clock : ℤ) → 24 ≤ length fields → start ≡ big_number 8 fields
    → end ≡ big_number 8 (drop 8 fields) → clock ≡ cast_signed w64 (big_number 8 (drop 16 fields))
    → data_at fields ≡ Ok (XLogData start end clock (drop 24 fields))
data_gives fields start end clock long starts ends clocks =
    let whole : ltb (length fields) 24 ≡ false = le-ltb _ _ long in
    rw (starts, ends, clocks, whole) refl
