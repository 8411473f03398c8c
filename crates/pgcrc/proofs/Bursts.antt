-- Two messages that differ within 32 bits lead to two registers.
use Rattle.std.proofs.Common.{◌≡◌, ◌≢◌, ◌<◌, ◌≤◌, ◌/◌, ◌%◌, ◌^◌, ℕ, zero, suc, Bool, true, false}
use Rattle.std.proofs.Common.{cond, List, [], ◌∷◌, ◌++◌, length, refl, ap, sym, ◌∙◌, subst, arith}
use Rattle.std.proofs.Math.Nat.{pow-suc, pow-le-pow_right}
use Rattle.std.proofs.lemmas.Nat.{xor_comm, xor_shr, xor_lt, mod_below}
use Rattle.std.proofs.lemmas.Grind.{flat_map-append}
use Rattle.std.specs.Int.Bits.{bit_xor, xor_assoc, xor_self}
use Rattle.pgcrc.specs.Division.{digit, number}
use Rattle.pgcrc.specs.Crc.{divisor, is_odd, differ, bits, after_bit, after_bits, message_bits}
use Rattle.pgcrc.specs.Crc.{ones, crc32, AreBytes}
use Rattle.pgcrc.proofs.Dividing.{idle, digit_below, digit_odd, number_bits, entered}
use Rattle.pgcrc.proofs.Dividing.{after_append}
use Rattle.pgcrc.proofs.Bytes.{length_bits, length_message}

pub cancelled : (r a b : ℕ) → bit_xor r a ≡ bit_xor r b → a ≡ b
cancelled r a b e =
    let back : (x : ℕ) → bit_xor r (bit_xor r x) ≡ x = λ x. sym (xor_assoc r r x) ∙ ap (λ n. bit_xor n x) (xor_self r) in
    sym (back a) ∙ ap (bit_xor r) e ∙ back b

-- ---- a register of 32 bits

chosen_below : (test : Bool) (half : ℕ) → half < 2 ^ 31 → cond test (bit_xor half divisor) half < 2 ^ 32
chosen_below true half h = xor_lt 32 half divisor (omega arith) (omega arith)
chosen_below false half h = omega arith

bit_below : (r : ℕ) (bit : Bool) → r < 2 ^ 32 → after_bit r bit < 2 ^ 32
unfolding after_bit
bit_below r bit h = chosen_below (differ bit (is_odd r)) (r / 2) (omega arith)

pub bits_below : (bs : List Bool) (r : ℕ) → r < 2 ^ 32 → after_bits r bs < 2 ^ 32
unfolding after_bits
bits_below [] r h = h
bits_below (b ∷ bs) r h = bits_below bs (after_bit r b) (bit_below r b h)

-- the divisor's highest bit tells whether it was subtracted
has_top : (half : ℕ) → half < 2 ^ 31 → bit_xor half divisor / 2 ^ 31 ≡ 1
has_top half h =
    let none : half / 2 ^ 31 ≡ 0 = omega arith in xor_shr half divisor 31 ∙ ap (λ n. bit_xor n 1) none

not_both : (a b : ℕ) → a < 2 ^ 31 → b < 2 ^ 31 → bit_xor a divisor ≢ b
not_both a b h k e =
    let top = has_top a h in
    let same : bit_xor a divisor / 2 ^ 31 ≡ b / 2 ^ 31 = ap (λ n. n / 2 ^ 31) e in
    let none : b / 2 ^ 31 ≡ 0 = omega arith in
    absurd (omega arith)

same_choice : (t u : Bool) (a b : ℕ) → a < 2 ^ 31 → b < 2 ^ 31
    → cond t (bit_xor a divisor) a ≡ cond u (bit_xor b divisor) b → (t ≡ u) × (a ≡ b)
same_choice true true a b h k e =
    (refl, cancelled divisor a b (xor_comm divisor a ∙ e ∙ xor_comm b divisor))
same_choice true false a b h k e = absurd (not_both a b h k e)
same_choice false true a b h k e = absurd (not_both b a k h (sym e))
same_choice false false a b h k e = (refl, e)

same_tested : (bit p q : Bool) → differ bit p ≡ differ bit q → p ≡ q
same_tested true true true e = refl
same_tested true true false e = cc
same_tested true false true e = cc
same_tested true false false e = refl
same_tested false p q e = e

same_parity : (r s : ℕ) → is_odd r ≡ is_odd s → r % 2 ≡ s % 2
same_parity r s e =
    sym (digit_odd (r % 2) (mod_below r 2 (omega arith))) ∙ ap digit e ∙ digit_odd (s % 2) (mod_below s 2 (omega arith))

bit_same : (r s : ℕ) (bit : Bool) → r < 2 ^ 32 → s < 2 ^ 32 → after_bit r bit ≡ after_bit s bit → r ≡ s
unfolding after_bit
bit_same r s bit h k e =
    let parts = same_choice (differ bit (is_odd r)) (differ bit (is_odd s)) (r / 2) (s / 2) (omega arith) (omega arith) e in
    let low : r % 2 ≡ s % 2 = same_parity r s (same_tested bit (is_odd r) (is_odd s) parts.0) in
    let high : r / 2 ≡ s / 2 = parts.1 in
    omega arith

bits_same : (bs : List Bool) (r s : ℕ) → r < 2 ^ 32 → s < 2 ^ 32 → after_bits r bs ≡ after_bits s bs → r ≡ s
unfolding after_bits
bits_same [] r s h k e = e
bits_same (b ∷ bs) r s h k e =
    bit_same r s b h k (bits_same bs (after_bit r b) (after_bit s b) (bit_below r b h) (bit_below s b k) e)

idle_same : (n r s : ℕ) → r < 2 ^ 32 → s < 2 ^ 32 → idle n r ≡ idle n s → r ≡ s
unfolding idle
idle_same zero r s h k e = e
idle_same (suc n) r s h k e =
    bit_same r s false h k
    (idle_same n (after_bit r false) (after_bit s false) (bit_below r false h) (bit_below s false k) e)

-- ---- numbers of bits

number_below : (bs : List Bool) → number bs < 2 ^ length bs
unfolding number
number_below [] = omega arith
number_below (b ∷ bs) = omega (arith, number_below bs, digit_below b, pow-suc 2 (length bs))

digit_same : (b c : Bool) → digit b ≡ digit c → b ≡ c
digit_same true true e = refl
digit_same true false e = absurd (omega arith)
digit_same false true e = absurd (omega arith)
digit_same false false e = refl

number_same : (bs cs : List Bool) → length cs ≡ length bs → number bs ≡ number cs → bs ≡ cs
unfolding number
number_same [] [] len e = refl
number_same [] (c ∷ cs) len e = absurd (omega arith)
number_same (b ∷ bs) [] len e = absurd (omega arith)
number_same (b ∷ bs) (c ∷ cs) len e =
    let low : digit b ≡ digit c = omega (arith, digit_below b, digit_below c) in
    let high : number bs ≡ number cs = omega (arith, digit_below b, digit_below c) in
    let first = digit_same b c low in
    let rest = number_same bs cs (omega arith) high in
    cc

-- ---- bursts

burst : (bs cs : List Bool) (r : ℕ) → r < 2 ^ 32 → length bs ≤ 32 → length cs ≡ length bs
    → after_bits r bs ≡ after_bits r cs → bs ≡ cs
burst bs cs r low short len e =
    let room : 2 ^ length bs ≤ 2 ^ 32 = pow-le-pow_right (omega arith) short in
    let there : number cs < 2 ^ length bs = subst (λ k. number cs < 2 ^ k) len (number_below cs) in
    let b_fits : number bs < 2 ^ 32 = omega (arith, number_below bs) in
    let c_fits : number cs < 2 ^ 32 = omega arith in
    let same : idle (length bs) (bit_xor r (number bs)) ≡ idle (length bs) (bit_xor r (number cs)) =
    sym (entered bs r) ∙ e ∙ entered cs r ∙ ap (λ k. idle k (bit_xor r (number cs))) len in
    number_same bs cs len (
    cancelled r (number bs) (number cs) (
    idle_same (length bs) (bit_xor r (number bs)) (bit_xor r (number cs))
    (xor_lt 32 r (number bs) low b_fits) (xor_lt 32 r (number cs) low c_fits) same
    )
    )

same_register : (x y : List ℕ) → crc32 x ≡ crc32 y → after_bits ones (message_bits x) ≡ after_bits ones (message_bits y)
unfolding crc32
same_register x y e =
    let a : after_bits ones (message_bits x) < 2 ^ 32 = bits_below (message_bits x) ones (omega arith) in
    let b : after_bits ones (message_bits y) < 2 ^ 32 = bits_below (message_bits y) ones (omega arith) in
    omega arith

pub burst_is_found : (x y : List ℕ) (front bs cs behind : List Bool) → message_bits x ≡ front ++ (bs ++ behind)
    → message_bits y ≡ front ++ (cs ++ behind) → length bs ≤ 32 → length cs ≡ length bs → crc32 x ≡ crc32 y → bs ≡ cs
burst_is_found x y front bs cs behind is_x is_y short len e =
    let r = after_bits ones front in
    let low : r < 2 ^ 32 = bits_below front ones (omega arith) in
    let parts : (ds : List Bool) → after_bits ones (front ++ (ds ++ behind)) ≡ after_bits (after_bits r ds) behind =
    λ ds. after_append ones front (ds ++ behind) ∙ after_append r ds behind in
    let same : after_bits (after_bits r bs) behind ≡ after_bits (after_bits r cs) behind =
    sym (parts bs) ∙ ap (after_bits ones) (sym is_x) ∙ same_register x y e ∙ ap (after_bits ones) is_y ∙ parts cs in
    burst bs cs r low short len
    (bits_same behind (after_bits r bs) (after_bits r cs) (bits_below bs r low) (bits_below cs r low) same)

-- ---- bytes

append_same : (xs ys us vs : List Bool) → length xs ≡ length ys → xs ++ us ≡ ys ++ vs → (xs ≡ ys) × (us ≡ vs)
append_same [] [] us vs len e = (refl, e)
append_same [] (y ∷ ys) us vs len e = absurd (omega arith)
append_same (x ∷ xs) [] us vs len e = absurd (omega arith)
append_same (x ∷ xs) (y ∷ ys) us vs len e =
    let first : x ≡ y = cc in
    let more : xs ++ us ≡ ys ++ vs = cc in
    let parts = append_same xs ys us vs (omega arith) more in
    let rest = parts.0 in
    (cc, parts.1)

byte_same : (x y : ℕ) → x < 2 ^ 8 → y < 2 ^ 8 → bits 8 x ≡ bits 8 y → x ≡ y
byte_same x y h k e =
    let same : x % 2 ^ 8 ≡ y % 2 ^ 8 = sym (number_bits 8 x) ∙ ap number e ∙ number_bits 8 y in omega arith

bytes_same : (xs ys : List ℕ) → AreBytes xs → AreBytes ys → length ys ≡ length xs → message_bits xs ≡ message_bits ys → xs ≡ ys
bytes_same [] [] h k len e = refl
bytes_same [] (y ∷ ys) h k len e = absurd (omega arith)
bytes_same (x ∷ xs) [] h k len e = absurd (omega arith)
bytes_same (x ∷ xs) (y ∷ ys) h k len e =
    let parts = append_same (bits 8 x) (bits 8 y) (message_bits xs) (message_bits ys) (length_bits 8 x ∙ sym (length_bits 8 y)) e in
    let first = byte_same x y h.0 k.0 parts.0 in
    let rest = bytes_same xs ys h.1 k.1 (omega arith) parts.1 in
    cc

pub change_is_found : (front old new behind : List ℕ) → AreBytes old → AreBytes new → length old ≤ 4 → length new ≡ length old
    → crc32 (front ++ (old ++ behind)) ≡ crc32 (front ++ (new ++ behind)) → old ≡ new
change_is_found front old new behind h k short len e =
    let parts : (xs : List ℕ) → message_bits (front ++ (xs ++ behind)) ≡ message_bits front ++ (message_bits xs ++ message_bits behind) =
    λ xs. flat_map-append (bits 8) front (xs ++ behind)
    ∙ ap (λ more. message_bits front ++ more) (flat_map-append (bits 8) xs behind) in
    let few : length (message_bits old) ≤ 32 = omega (arith, length_message old) in
    let as_many : length (message_bits new) ≡ length (message_bits old) = omega (arith, length_message old, length_message new) in
    bytes_same old new h k len (
    burst_is_found (front ++ (old ++ behind)) (front ++ (new ++ behind)) (message_bits front) (message_bits old) (message_bits new)
    (message_bits behind) (parts old) (parts new) few as_many e
    )
