-- The CRC of two pieces, by those of each: the register is linear in what it was and in the bits.
use Rattle.std.proofs.Common.{◌≡◌, ◌<◌, ◌+◌, ◌-◌, ◌*◌, ◌%◌, ◌^◌, ℕ, zero, suc, List, ◌++◌}
use Rattle.std.proofs.Common.{length, replicate, refl, ap, sym, ◌∙◌, arith}
use Rattle.std.proofs.lemmas.Nat.{xor_comm, and_mask}
use Rattle.std.proofs.lemmas.List.{length-replicate, replicate-append-replicate}
use Rattle.std.specs.Int.Bits.{bit_xor, xor_assoc, xor_self, xor_zero_l, xor_zero_r, xor_add_and}
use Rattle.pgcrc.specs.Division.{number}
use Rattle.pgcrc.specs.Crc.{bits, after_bits, message_bits, ones, crc32}
use Rattle.pgcrc.proofs.Dividing.{idle, idle_sum, entered}
use Rattle.pgcrc.proofs.Bytes.{number_append, length_message, message_append}
use Rattle.pgcrc.proofs.Bursts.{bits_below}

abbrev zeros : ℕ → List ℕ
zeros k = replicate k 0

-- ---- the complement

complement : (x : ℕ) → x < 2 ^ 32 → ones - x ≡ bit_xor x ones
complement x h =
    let both : x % 2 ^ 32 ≡ x = omega arith in
    omega (arith, xor_add_and x ones, and_mask x 32)

-- it cancels in a sum of two
both_complements : (x y : ℕ) → bit_xor (bit_xor x ones) (bit_xor y ones) ≡ bit_xor x y
both_complements x y =
    xor_assoc x ones (bit_xor y ones)
    ∙ ap (λ z. bit_xor x (bit_xor ones z)) (xor_comm y ones)
    ∙ ap (bit_xor x) (sym (xor_assoc ones ones y) ∙ ap (λ z. bit_xor z y) (xor_self ones) ∙ xor_zero_l y)

crc_flips : (message : List ℕ) → crc32 message ≡ bit_xor (after_bits ones (message_bits message)) ones
unfolding crc32
crc_flips message =
    complement (after_bits ones (message_bits message)) (bits_below (message_bits message) ones (omega arith))

-- ---- bytes 0

number_zeros : (k : ℕ) → number (message_bits (zeros k)) ≡ 0
unfolding number bits
number_zeros zero = refl
number_zeros (suc k) =
    number_append (bits 8 0) (message_bits (zeros k)) ∙ ap (λ n. n * 256 + 0) (number_zeros k)

by_bytes : (r : ℕ) (bs : List ℕ)
    → after_bits r (message_bits bs) ≡ idle (8 * length bs) (bit_xor r (number (message_bits bs)))
by_bytes r bs =
    entered (message_bits bs) r ∙ ap (λ k. idle k (bit_xor r (number (message_bits bs)))) (length_message bs)

by_zeros : (r k : ℕ) → after_bits r (message_bits (zeros k)) ≡ idle (8 * k) r
by_zeros r k =
    by_bytes r (zeros k)
    ∙ ap (λ n. idle (8 * length (zeros k)) (bit_xor r n)) (number_zeros k)
    ∙ ap (λ n. idle (8 * n) (bit_xor r 0)) (length-replicate k 0)
    ∙ ap (idle (8 * k)) (xor_zero_r r)

pub more_zeros : (r j k : ℕ)
    → after_bits (after_bits r (message_bits (zeros j))) (message_bits (zeros k)) ≡ after_bits r (message_bits (zeros (j + k)))
more_zeros r j k =
    sym (message_append r (zeros j) (zeros k))
    ∙ ap (λ bs. after_bits r (message_bits bs)) (replicate-append-replicate j k 0)

-- ---- two pieces

-- a register may begin as another, if their sum is brought along through as many zeros
apart : (r s : ℕ) (behind : List ℕ)
    → after_bits r (message_bits behind)
    ≡ bit_xor (after_bits (bit_xor r s) (message_bits (zeros (length behind)))) (after_bits s (message_bits behind))
apart r s behind =
    let n = number (message_bits behind) in
    let k = 8 * length behind in
    let cancelled : bit_xor r n ≡ bit_xor (bit_xor r s) (bit_xor s n) =
    ap (bit_xor r) (sym (xor_zero_l n) ∙ ap (λ z. bit_xor z n) (sym (xor_self s)) ∙ xor_assoc s s n)
    ∙ sym (xor_assoc r s (bit_xor s n)) in
    by_bytes r behind
    ∙ ap (idle k) cancelled
    ∙ idle_sum k (bit_xor r s) (bit_xor s n)
    ∙ ap (bit_xor (idle k (bit_xor r s))) (sym (by_bytes s behind))
    ∙ ap (λ z. bit_xor z (after_bits s (message_bits behind))) (sym (by_zeros (bit_xor r s) (length behind)))

-- the first piece's CRC, brought along, and the second one's
pub joined_crc : (front behind : List ℕ)
    → crc32 (front ++ behind) ≡ bit_xor (after_bits (crc32 front) (message_bits (zeros (length behind)))) (crc32 behind)
joined_crc front behind =
    let r = after_bits ones (message_bits front) in
    let s = after_bits ones (message_bits behind) in
    let along : ℕ → ℕ = λ start. after_bits start (message_bits (zeros (length behind))) in
    crc_flips (front ++ behind)
    ∙ ap (λ z. bit_xor z ones) (message_append ones front behind ∙ apart r ones behind)
    ∙ xor_assoc (along (bit_xor r ones)) s ones
    ∙ ap (bit_xor (along (bit_xor r ones))) (sym (crc_flips behind))
    ∙ ap (λ start. bit_xor (along start) (crc32 behind)) (sym (crc_flips front))

-- what the first one's CRC becomes is a sum of two CRCs
along_zeros : (front : List ℕ) (k : ℕ)
    → bit_xor (crc32 (front ++ zeros k)) (crc32 (zeros k)) ≡ after_bits (crc32 front) (message_bits (zeros k))
along_zeros front k =
    let r = after_bits ones (message_bits front) in
    let a = after_bits ones (message_bits (front ++ zeros k)) in
    let b = after_bits ones (message_bits (zeros k)) in
    ap (λ z. bit_xor z (crc32 (zeros k))) (crc_flips (front ++ zeros k))
    ∙ ap (bit_xor (bit_xor a ones)) (crc_flips (zeros k))
    ∙ both_complements a b
    ∙ ap (λ z. bit_xor z b) (message_append ones front (zeros k) ∙ by_zeros r k)
    ∙ ap (bit_xor (idle (8 * k) r)) (by_zeros ones k)
    ∙ sym (idle_sum (8 * k) r ones)
    ∙ sym (by_zeros (bit_xor r ones) k)
    ∙ ap (λ start. after_bits start (message_bits (zeros k))) (sym (crc_flips front))

pub pieces : (front behind : List ℕ)
    → crc32 (front ++ behind)
    ≡ bit_xor (bit_xor (crc32 (front ++ replicate (length behind) 0)) (crc32 (replicate (length behind) 0))) (crc32 behind)
pieces front behind =
    joined_crc front behind
    ∙ ap (λ z. bit_xor z (crc32 behind)) (sym (along_zeros front (length behind)))
