-- The register has the one remainder of the division.
use Rattle.std.proofs.Common.{◌≡◌, ◌<◌, ◌+◌, ◌-◌, ◌*◌, ◌/◌, ◌%◌, ◌^◌, ℕ, suc, Bool}
use Rattle.std.proofs.Common.{true, false, cond, List, [], ◌∷◌, length, refl, ap, sym, ◌∙◌, arith}
use Rattle.std.proofs.Math.Nat.{pow-suc, mul_assoc}
use Rattle.std.proofs.lemmas.Nat.{xor_comm, xor_mod, xor_block, mod_below, shr_split}
use Rattle.std.specs.Int.Bits.{bit_xor, xor_assoc, xor_zero_r}
use Rattle.pgcrc.specs.Crc.{divisor, is_odd, after_bit, after_bits, message_bits, ones, crc32}
use Rattle.pgcrc.specs.Division.{digit, number, generator, product, IsRemainder}
use Rattle.pgcrc.proofs.Dividing.{entering, joined, digit_below, digit_odd}
use Rattle.pgcrc.proofs.Bursts.{cancelled, bits_below}

doubled_sum : (a b : ℕ) → bit_xor a b * 2 ≡ bit_xor (a * 2) (b * 2)
doubled_sum a b =
    let plain : (n : ℕ) → n * 2 + 0 ≡ n * 2 = λ n. omega arith in
    let block : bit_xor (a * 2 + 0) (b * 2 + 0) ≡ bit_xor a b * 2 + 0 = xor_block 1 a b 0 0 (omega arith) (omega arith) in
    sym (plain (bit_xor a b)) ∙ sym block ∙ ap (λ x. bit_xor x (b * 2 + 0)) (plain a) ∙ ap (bit_xor (a * 2)) (plain b)

twice : (v k : ℕ) → v * 2 ^ k * 2 ≡ v * 2 ^ suc k
twice v k = mul_assoc v (2 ^ k) 2 ∙ ap (λ p. v * p) (sym (pow-suc 2 k))

-- ---- a step back: the register before a bit from the one after it

parts : (odd : Bool) (half : ℕ)
    → bit_xor (digit odd) (half * 2) ≡ bit_xor (cond odd generator 0) (cond odd (bit_xor half divisor) half * 2)
parts false half = refl
parts true half =
    let back : bit_xor generator (divisor * 2) ≡ 1 = refl in
    ap (λ x. bit_xor x (half * 2)) (sym back)
    ∙ xor_assoc generator (divisor * 2) (half * 2)
    ∙ ap (bit_xor generator) (xor_comm (divisor * 2) (half * 2) ∙ sym (doubled_sum half divisor))

before_zero : (x : ℕ) → x ≡ bit_xor (cond (is_odd x) generator 0) (after_bit x false * 2)
unfolding after_bit
before_zero x =
    let low : x % 2 < 2 = mod_below x 2 (omega arith) in
    sym (shr_split x 1)
    ∙ sym (joined (x / 2) 1 (x % 2) low)
    ∙ ap (λ d. bit_xor d (x / 2 * 2)) (sym (digit_odd (x % 2) low))
    ∙ parts (is_odd x) (x / 2)

abbrev leaves : ℕ → Bool → Bool
leaves r bit = is_odd (bit_xor r (digit bit))

-- what a register and the number of bits to come are, by the register after the first of them
before_bit : (bit : Bool) (r v : ℕ)
    → bit_xor r (v * 2 + digit bit) ≡ bit_xor (cond (leaves r bit) generator 0) (bit_xor (after_bit r bit) v * 2)
before_bit bit r v =
    let x = bit_xor r (digit bit) in
    let g = cond (is_odd x) generator 0 in
    ap (bit_xor r) (sym (joined v 1 (digit bit) (digit_below bit)))
    ∙ sym (xor_assoc r (digit bit) (v * 2))
    ∙ ap (λ y. bit_xor y (v * 2)) (before_zero x ∙ ap (λ y. bit_xor g (y * 2)) (sym (entering r bit)))
    ∙ xor_assoc g (after_bit r bit * 2) (v * 2)
    ∙ ap (bit_xor g) (sym (doubled_sum (after_bit r bit) v))

-- the same of a product and a remainder
before_factor : (p t k g : ℕ)
    → bit_xor (bit_xor g (p * 2)) (t * 2 ^ suc k) ≡ bit_xor g (bit_xor p (t * 2 ^ k) * 2)
before_factor p t k g =
    xor_assoc g (p * 2) (t * 2 ^ suc k)
    ∙ ap (λ y. bit_xor g (bit_xor (p * 2) y)) (sym (twice t k))
    ∙ ap (bit_xor g) (sym (doubled_sum p (t * 2 ^ k)))

-- ---- there is a quotient

record Divided (bs : List Bool) (r : ℕ) : Type 0 where
  quotient : List Bool
  as_long : length quotient ≡ length bs
  divided : bit_xor r (number bs) ≡ bit_xor (product quotient generator) (after_bits r bs * 2 ^ length bs)

divide : (bs : List Bool) (r : ℕ) → Divided bs r
unfolding after_bits number product
divide [] r =
    let one : r ≡ r * 1 = omega arith in record { quotient = []; as_long = refl; divided = xor_zero_r r ∙ one }
divide (b ∷ bs) r =
    let more = divide bs (after_bit r b) in
    let g = cond (leaves r b) generator 0 in
    let p = product more.quotient generator in
    record {
      quotient = leaves r b ∷ more.quotient;
      as_long = ap suc more.as_long;
      divided = before_bit b r (number bs)
          ∙ ap (λ y. bit_xor g (y * 2)) more.divided
          ∙ sym (before_factor p (after_bits (after_bit r b) bs) (length bs) g);
    }

-- ---- and only one remainder

odd_sum : (y : ℕ) → bit_xor generator (y * 2) % 2 ≡ 1
odd_sum y =
    let even : y * 2 % 2 ≡ 0 = omega arith in xor_mod generator (y * 2) 1 ∙ ap (bit_xor 1) even

same_halves : (c d : Bool) (y z : ℕ) → bit_xor (cond c generator 0) (y * 2) ≡ bit_xor (cond d generator 0) (z * 2) → y ≡ z
same_halves true true y z e = let same = cancelled generator (y * 2) (z * 2) e in omega arith
same_halves false false y z e = let same : y * 2 ≡ z * 2 = e in omega arith
same_halves true false y z e =
    let odd = odd_sum y in
    let same : bit_xor generator (y * 2) % 2 ≡ z * 2 % 2 = ap (λ n. n % 2) e in
    absurd (omega arith)
same_halves false true y z e =
    let odd = odd_sum z in
    let same : y * 2 % 2 ≡ bit_xor generator (z * 2) % 2 = ap (λ n. n % 2) e in
    absurd (omega arith)

only : (bs q : List Bool) (r t : ℕ) → length q ≡ length bs
    → bit_xor r (number bs) ≡ bit_xor (product q generator) (t * 2 ^ length bs) → t ≡ after_bits r bs
unfolding after_bits number product
only [] [] r t len e =
    let plain : r ≡ t * 1 = sym (xor_zero_r r) ∙ e in omega arith
only [] (c ∷ q) r t len e = absurd (omega arith)
only (b ∷ bs) [] r t len e = absurd (omega arith)
only (b ∷ bs) (c ∷ q) r t len e =
    let g = cond c generator 0 in
    let p = product q generator in
    only bs q (after_bit r b) t (omega arith) (
    same_halves (leaves r b) c (bit_xor (after_bit r b) (number bs)) (bit_xor p (t * 2 ^ length bs))
    (sym (before_bit b r (number bs)) ∙ e ∙ before_factor p t (length bs) g)
    )

-- ---- messages

pub is_remainder : (message : List ℕ) → IsRemainder (message_bits message) (ones - crc32 message)
unfolding crc32
is_remainder message =
    let bs = message_bits message in
    let below : after_bits ones bs < 2 ^ 32 = bits_below bs ones (omega arith) in
    let back : after_bits ones bs ≡ ones - (ones - after_bits ones bs) = omega arith in
    let made = divide bs ones in
    record {
      quotient = made.quotient;
      as_long = made.as_long;
      divided = xor_comm (number bs) ones ∙ made.divided
          ∙ ap (λ t. bit_xor (product made.quotient generator) (t * 2 ^ length bs)) back;
    }

pub only_remainder : (message : List ℕ) (remainder : ℕ) → IsRemainder (message_bits message) remainder
    → crc32 message ≡ ones - remainder
unfolding crc32
only_remainder message remainder is =
    let bs = message_bits message in
    ap (λ t. ones - t) (sym (only bs is.quotient ones remainder is.as_long (xor_comm ones (number bs) ∙ is.divided)))
