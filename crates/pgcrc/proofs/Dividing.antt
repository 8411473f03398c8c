-- The register over bits, as over a number that is added to it before.
use Rattle.std.proofs.Common.{◌≡◌, ◌<◌, ◌+◌, ◌*◌, ◌/◌, ◌%◌, ◌^◌, ◌==◌, ℕ, zero, suc, Bool, true}
use Rattle.std.proofs.Common.{false}
use Rattle.std.proofs.Common.{cond, List, [], ◌∷◌, ◌++◌, length, refl, ap, sym, ◌∙◌, arith}
use Rattle.std.proofs.Math.Nat.{pow-suc, mul_assoc}
use Rattle.std.proofs.lemmas.Nat.{pow_pos, xor_comm, xor_shr, xor_mod, xor_block, mod_below}
use Rattle.std.proofs.lemmas.Nat.{mod-pow-add}
use Rattle.std.specs.Int.Bits.{bit_xor, xor_assoc, xor_self, xor_zero_r}
use Rattle.pgcrc.specs.Division.{digit, number}
use Rattle.pgcrc.specs.Crc.{divisor, is_odd, differ, bits, after_bit, after_bits}

-- over so many bits 0
unfoldable pub idle : ℕ → ℕ → ℕ
idle zero r = r
idle (suc k) r = idle k (after_bit r false)

-- ---- a sum of registers

exchanged : (a b c : ℕ) → bit_xor (bit_xor a b) c ≡ bit_xor (bit_xor a c) b
exchanged a b c = xor_assoc a b c ∙ ap (bit_xor a) (xor_comm b c) ∙ sym (xor_assoc a c b)

chosen : (t u : Bool) (a b : ℕ)
    → cond (differ t u) (bit_xor (bit_xor a b) divisor) (bit_xor a b)
    ≡ bit_xor (cond t (bit_xor a divisor) a) (cond u (bit_xor b divisor) b)
chosen true true a b =
    sym (xor_zero_r (bit_xor a b))
    ∙ ap (bit_xor (bit_xor a b)) (sym (xor_self divisor))
    ∙ sym (xor_assoc (bit_xor a b) divisor divisor)
    ∙ ap (λ x. bit_xor x divisor) (exchanged a b divisor)
    ∙ xor_assoc (bit_xor a divisor) b divisor
chosen true false a b = exchanged a b divisor
chosen false true a b = xor_assoc a b divisor
chosen false false a b = refl

odd_sum : (m n : ℕ) → m < 2 → n < 2 → (bit_xor m n == 1) ≡ differ (m == 1) (n == 1)
odd_sum zero zero h k = refl
odd_sum zero (suc zero) h k = refl
odd_sum (suc zero) zero h k = refl
odd_sum (suc zero) (suc zero) h k = refl
odd_sum (suc (suc m)) n h k = absurd (omega arith)
odd_sum m (suc (suc n)) h k = absurd (omega arith)

pub odd_xor : (a b : ℕ) → is_odd (bit_xor a b) ≡ differ (is_odd a) (is_odd b)
odd_xor a b =
    ap (λ n. n == 1) (xor_mod a b 1)
    ∙ odd_sum (a % 2) (b % 2) (mod_below a 2 (omega arith)) (mod_below b 2 (omega arith))

bit_sum : (a b : ℕ) → after_bit (bit_xor a b) false ≡ bit_xor (after_bit a false) (after_bit b false)
unfolding after_bit
bit_sum a b =
    ap (λ odd. cond odd (bit_xor (bit_xor a b / 2) divisor) (bit_xor a b / 2)) (odd_xor a b)
    ∙ ap (λ half. cond (differ (is_odd a) (is_odd b)) (bit_xor half divisor) half) (xor_shr a b 1)
    ∙ chosen (is_odd a) (is_odd b) (a / 2) (b / 2)

pub idle_sum : (k a b : ℕ) → idle k (bit_xor a b) ≡ bit_xor (idle k a) (idle k b)
unfolding idle
idle_sum zero a b = refl
idle_sum (suc k) a b = ap (idle k) (bit_sum a b) ∙ idle_sum k (after_bit a false) (after_bit b false)

pub idle_more : (j k r : ℕ) → idle (j + k) r ≡ idle k (idle j r)
unfolding idle
idle_more zero k r = let same : 0 + k ≡ k = omega arith in ap (λ n. idle n r) same
idle_more (suc j) k r =
    let same : suc j + k ≡ suc (j + k) = omega arith in
    ap (λ n. idle n r) same ∙ idle_more j k (after_bit r false)

-- ---- what stands above the bits to come moves down

doubled : (v : ℕ) → after_bit (v * 2) false ≡ v
unfolding after_bit
doubled v =
    let even : v * 2 % 2 ≡ 0 = omega arith in
    let half : v * 2 / 2 ≡ v = omega arith in
    ap (λ n. cond (n == 1) (bit_xor (v * 2 / 2) divisor) (v * 2 / 2)) even ∙ half

bit_above : (a v : ℕ) → after_bit (bit_xor a (v * 2)) false ≡ bit_xor (after_bit a false) v
bit_above a v = bit_sum a (v * 2) ∙ ap (bit_xor (after_bit a false)) (doubled v)

pub idle_above : (k a v : ℕ) → idle k (bit_xor a (v * 2 ^ k)) ≡ bit_xor (idle k a) v
unfolding idle
idle_above zero a v = let one : v * 1 ≡ v = omega arith in ap (bit_xor a) one
idle_above (suc k) a v =
    let twice : v * 2 ^ suc k ≡ v * 2 ^ k * 2 = ap (λ p. v * p) (pow-suc 2 k) ∙ sym (mul_assoc v (2 ^ k) 2) in
    ap (λ x. idle k (after_bit (bit_xor a x) false)) twice
    ∙ ap (idle k) (bit_above a (v * 2 ^ k))
    ∙ idle_above k (after_bit a false) v

-- ---- bits that come in are added to the register before

odd_flipped : (r : ℕ) → is_odd (bit_xor r 1) ≡ differ (is_odd r) true
odd_flipped r = odd_xor r 1

flipped : (odd : Bool) → differ true odd ≡ differ odd true
flipped true = refl
flipped false = refl

half_stays : (r : ℕ) → bit_xor r 1 / 2 ≡ r / 2
half_stays r = xor_shr r 1 1 ∙ xor_zero_r (r / 2)

pub entering : (r : ℕ) (bit : Bool) → after_bit r bit ≡ after_bit (bit_xor r (digit bit)) false
unfolding after_bit
entering r false = ap (λ x. cond (is_odd x) (bit_xor (x / 2) divisor) (x / 2)) (sym (xor_zero_r r))
entering r true =
    ap (λ odd. cond odd (bit_xor (r / 2) divisor) (r / 2)) (flipped (is_odd r) ∙ sym (odd_flipped r))
    ∙ ap (λ half. cond (is_odd (bit_xor r 1)) (bit_xor half divisor) half) (sym (half_stays r))

-- a number below 2^k and one above it
pub joined : (v k d : ℕ) → d < 2 ^ k → bit_xor d (v * 2 ^ k) ≡ v * 2 ^ k + d
joined v k d low =
    let none : v * 2 ^ k ≡ v * 2 ^ k + 0 = omega arith in
    let alone : d ≡ 0 * 2 ^ k + d = omega arith in
    xor_comm d (v * 2 ^ k)
    ∙ ap (λ x. bit_xor x d) none
    ∙ ap (bit_xor (v * 2 ^ k + 0)) alone
    ∙ xor_block k v 0 0 d (pow_pos k) low
    ∙ ap (λ x. x * 2 ^ k + d) (xor_zero_r v)

pub digit_below : (bit : Bool) → digit bit < 2
digit_below true = omega arith
digit_below false = omega arith

pub entered : (bs : List Bool) (r : ℕ) → after_bits r bs ≡ idle (length bs) (bit_xor r (number bs))
unfolding after_bits idle number
entered [] r = sym (xor_zero_r r)
entered (b ∷ bs) r =
    let v = number bs in
    let both : bit_xor (bit_xor r (digit b)) (v * 2) ≡ bit_xor r (v * 2 + digit b) =
    xor_assoc r (digit b) (v * 2) ∙ ap (bit_xor r) (joined v 1 (digit b) (digit_below b)) in
    entered bs (after_bit r b)
    ∙ ap (λ x. idle (length bs) (bit_xor x v)) (entering r b)
    ∙ ap (idle (length bs)) (sym (bit_above (bit_xor r (digit b)) v))
    ∙ ap (λ x. idle (length bs) (after_bit x false)) both

pub digit_odd : (n : ℕ) → n < 2 → digit (n == 1) ≡ n
digit_odd zero h = refl
digit_odd (suc zero) h = refl
digit_odd (suc (suc n)) h = absurd (omega arith)

pub number_bits : (k n : ℕ) → number (bits k n) ≡ n % 2 ^ k
unfolding number bits
number_bits zero n = omega arith
number_bits (suc k) n =
    let more : suc k ≡ k + 1 = omega arith in
    ap (λ v. v * 2 + digit (is_odd n)) (number_bits k (n / 2))
    ∙ ap (λ d. n / 2 % 2 ^ k * 2 + d) (digit_odd (n % 2) (mod_below n 2 (omega arith)))
    ∙ sym (mod-pow-add n k 1)
    ∙ ap (λ j. n % 2 ^ j) (sym more)

-- ---- bits in pieces

pub after_append : (r : ℕ) (bs cs : List Bool) → after_bits r (bs ++ cs) ≡ after_bits (after_bits r bs) cs
unfolding after_bits
after_append r [] cs = refl
after_append r (b ∷ bs) cs = after_append (after_bit r b) bs cs
