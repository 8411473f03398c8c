-- The register over a byte and over eight, by the tables, and over messages.
use Rattle.std.proofs.Common.{◌≡◌, ◌<◌, ◌+◌, ◌*◌, ◌/◌, ◌%◌, ◌^◌, ℕ, zero, suc, List, [], ◌∷◌, ◌++◌}
use Rattle.std.proofs.Common.{Bool}
use Rattle.std.proofs.Common.{length, get_or, map, take, drop, refl, ap, sym, ◌∙◌, arith}
use Rattle.std.proofs.Common.{length-append}
use Rattle.std.proofs.Math.Nat.{pow-suc, mul_assoc}
use Rattle.std.proofs.lemmas.List.{get_or-map, take-take, drop-take, take-append-drop}
use Rattle.std.proofs.lemmas.Nat.{xor_shr, xor_mod, mod_below, shr_split, shr-shr}
use Rattle.std.proofs.lemmas.Grind.{flat_map-append}
use Rattle.std.specs.Int.Bits.{bit_xor, xor_assoc, xor_zero_r}
use Rattle.std.specs.Int.{w64, from_le_bytes}
use Rattle.pgcrc.specs.declared.tables.TheConstants.{TABLES}
use Rattle.pgcrc.specs.Division.{number}
use Rattle.pgcrc.specs.Crc.{bits, after_bit, after_bits, message_bits}
use Rattle.pgcrc.proofs.Dividing.{idle, idle_sum, idle_more, idle_above, number_bits}
use Rattle.pgcrc.proofs.Dividing.{entered, joined, after_append}

-- ---- the tables

abbrev pub row : ℕ → List ℕ
row k = get_or TABLES k []

unfoldable words : ℕ → ℕ → List ℕ
words zero from = []
words (suc k) from = idle 8 from ∷ words k (suc from)

word_at : (k from i : ℕ) → i < k → get_or (words k from) i 0 ≡ idle 8 (from + i)
unfolding words
word_at zero from i h = absurd (omega arith)
word_at (suc k) from zero h = let same : from ≡ from + 0 = omega arith in ap (idle 8) same
word_at (suc k) from (suc i) h =
    let same : suc from + i ≡ from + suc i = omega arith in word_at k (suc from) i (omega arith) ∙ ap (idle 8) same

row_0 : row 0 ≡ words 256 0
unfolding words idle after_bit
row_0 = refl

row_1 : row 1 ≡ map (idle 8) (row 0)
unfolding idle after_bit
row_1 = refl

row_2 : row 2 ≡ map (idle 8) (row 1)
unfolding idle after_bit
row_2 = refl

row_3 : row 3 ≡ map (idle 8) (row 2)
unfolding idle after_bit
row_3 = refl

row_4 : row 4 ≡ map (idle 8) (row 3)
unfolding idle after_bit
row_4 = refl

row_5 : row 5 ≡ map (idle 8) (row 4)
unfolding idle after_bit
row_5 = refl

row_6 : row 6 ≡ map (idle 8) (row 5)
unfolding idle after_bit
row_6 = refl

row_7 : row 7 ≡ map (idle 8) (row 6)
unfolding idle after_bit
row_7 = refl

abbrev pub IsRow : List ℕ → ℕ → Type 0
IsRow xs n = (i : ℕ) → i < 256 → get_or xs i 0 ≡ idle n i

next_row : (xs ys : List ℕ) (n : ℕ) → ys ≡ map (idle 8) xs → length xs ≡ 256 → IsRow xs n → IsRow ys (n + 8)
next_row xs ys n is len before i h =
    ap (λ l. get_or l i 0) is
    ∙ get_or-map (idle 8) xs i 0 0 (omega arith)
    ∙ ap (idle 8) (before i h)
    ∙ sym (idle_more n 8 i)

pub word_0 : IsRow (row 0) 8
word_0 i h =
    let same : 0 + i ≡ i = omega arith in
    ap (λ xs. get_or xs i 0) row_0 ∙ word_at 256 0 i h ∙ ap (idle 8) same

pub word_1 : IsRow (row 1) 16
word_1 = next_row (row 0) (row 1) 8 row_1 refl word_0

pub word_2 : IsRow (row 2) 24
word_2 = next_row (row 1) (row 2) 16 row_2 refl word_1

pub word_3 : IsRow (row 3) 32
word_3 = next_row (row 2) (row 3) 24 row_3 refl word_2

pub word_4 : IsRow (row 4) 40
word_4 = next_row (row 3) (row 4) 32 row_4 refl word_3

pub word_5 : IsRow (row 5) 48
word_5 = next_row (row 4) (row 5) 40 row_5 refl word_4

pub word_6 : IsRow (row 6) 56
word_6 = next_row (row 5) (row 6) 48 row_6 refl word_5

pub word_7 : IsRow (row 7) 64
word_7 = next_row (row 6) (row 7) 56 row_7 refl word_6

-- ---- a byte

pub length_bits : (k n : ℕ) → length (bits k n) ≡ k
unfolding bits
length_bits zero n = refl
length_bits (suc k) n = ap suc (length_bits k (n / 2))

whole : (x : ℕ) → bit_xor (x % 256) (x / 256 * 2 ^ 8) ≡ x
whole x = joined (x / 256) 8 (x % 256) (mod_below x 256 (omega arith)) ∙ shr_split x 8

pub byte_entered : (r b : ℕ) → after_bits r (bits 8 b) ≡ bit_xor (idle 8 (bit_xor r b % 256)) (r / 256)
byte_entered r b =
    let x = bit_xor r (b % 256) in
    let again : b % 256 % 256 ≡ b % 256 = omega arith in
    let none : b % 256 / 256 ≡ 0 = omega arith in
    let low : x % 256 ≡ bit_xor r b % 256 = xor_mod r (b % 256) 8 ∙ ap (bit_xor (r % 256)) again ∙ sym (xor_mod r b 8) in
    let high : x / 256 ≡ r / 256 = xor_shr r (b % 256) 8 ∙ ap (bit_xor (r / 256)) none ∙ xor_zero_r (r / 256) in
    entered (bits 8 b) r
    ∙ ap (λ k. idle k (bit_xor r (number (bits 8 b)))) (length_bits 8 b)
    ∙ ap (λ n. idle 8 (bit_xor r n)) (number_bits 8 b)
    ∙ ap (idle 8) (sym (whole x))
    ∙ idle_above 8 (x % 256) (x / 256)
    ∙ ap (λ n. bit_xor (idle 8 n) (x / 256)) low
    ∙ ap (bit_xor (idle 8 (bit_xor r b % 256))) high

-- ---- eight bytes

-- the lowest byte of a register, and those above it
split : (k x : ℕ) → idle (8 + k) x ≡ bit_xor (idle (8 + k) (x % 256)) (idle k (x / 256))
split k x =
    idle_more 8 k x
    ∙ ap (λ y. idle k (idle 8 y)) (sym (whole x))
    ∙ ap (idle k) (idle_above 8 (x % 256) (x / 256))
    ∙ idle_sum k (idle 8 (x % 256)) (x / 256)
    ∙ ap (λ y. bit_xor y (idle k (x / 256))) (sym (idle_more 8 k (x % 256)))

next : (k j before x : ℕ)
    → bit_xor before (idle (8 + k) (x / 2 ^ j))
    ≡ bit_xor (bit_xor before (idle (8 + k) (x / 2 ^ j % 256))) (idle k (x / 2 ^ (j + 8)))
next k j before x =
    let here = idle (8 + k) (x / 2 ^ j % 256) in
    ap (bit_xor before) (split k (x / 2 ^ j))
    ∙ sym (xor_assoc before here (idle k (x / 2 ^ j / 256)))
    ∙ ap (λ y. bit_xor (bit_xor before here) (idle k y)) (shr-shr x j 8)

pub sliced : (x : ℕ)
    → idle 64 x
    ≡ bit_xor (bit_xor (bit_xor (bit_xor (bit_xor (bit_xor (bit_xor (idle 64 (x % 256))
    (idle 56 (x / 2 ^ 8 % 256))) (idle 48 (x / 2 ^ 16 % 256))) (idle 40 (x / 2 ^ 24 % 256))) (idle 32 (x / 2 ^ 32 % 256)))
    (idle 24 (x / 2 ^ 40 % 256))) (idle 16 (x / 2 ^ 48 % 256))) (idle 8 (x / 2 ^ 56))
sliced x =
    let a = idle 64 (x % 256) in
    let b = bit_xor a (idle 56 (x / 2 ^ 8 % 256)) in
    let c = bit_xor b (idle 48 (x / 2 ^ 16 % 256)) in
    let d = bit_xor c (idle 40 (x / 2 ^ 24 % 256)) in
    let e = bit_xor d (idle 32 (x / 2 ^ 32 % 256)) in
    let f = bit_xor e (idle 24 (x / 2 ^ 40 % 256)) in
    split 56 x ∙ next 48 8 a x ∙ next 40 16 b x ∙ next 32 24 c x ∙ next 24 32 d x ∙ next 16 40 e x ∙ next 8 48 f x

same_sum : (a b c d e f g h a' b' c' d' e' f' g' h' : ℕ)
    → a ≡ a' → b ≡ b' → c ≡ c' → d ≡ d' → e ≡ e' → f ≡ f' → g ≡ g' → h ≡ h'
    → bit_xor (bit_xor (bit_xor (bit_xor (bit_xor (bit_xor (bit_xor a b) c) d) e) f) g) h
    ≡ bit_xor (bit_xor (bit_xor (bit_xor (bit_xor (bit_xor (bit_xor a' b') c') d') e') f') g') h'
same_sum a b c d e f g h a' b' c' d' e' f' g' h' p q r s t u v w = cc

pub by_rows : (x : ℕ) → x / 2 ^ 56 < 256
    → bit_xor (bit_xor (bit_xor (bit_xor (bit_xor (bit_xor (bit_xor (get_or (row 7) (x % 256) 0)
    (get_or (row 6) (x / 2 ^ 8 % 256) 0)) (get_or (row 5) (x / 2 ^ 16 % 256) 0)) (get_or (row 4) (x / 2 ^ 24 % 256) 0))
    (get_or (row 3) (x / 2 ^ 32 % 256) 0)) (get_or (row 2) (x / 2 ^ 40 % 256) 0)) (get_or (row 1) (x / 2 ^ 48 % 256) 0))
    (get_or (row 0) (x / 2 ^ 56) 0)
    ≡ idle 64 x
by_rows x high =
    same_sum _ _ _ _ _ _ _ _ _ _ _ _ _ _ _ _ (word_7 (x % 256) (omega arith)) (word_6 (x / 2 ^ 8 % 256) (omega arith))
    (word_5 (x / 2 ^ 16 % 256) (omega arith)) (word_4 (x / 2 ^ 24 % 256) (omega arith)) (word_3 (x / 2 ^ 32 % 256) (omega arith))
    (word_2 (x / 2 ^ 40 % 256) (omega arith)) (word_1 (x / 2 ^ 48 % 256) (omega arith)) (word_0 (x / 2 ^ 56) high)
    ∙ sym (sliced x)

-- the number that bytes are, of which the lowest comes first
unfoldable value : List ℕ → ℕ
value [] = 0
value (b ∷ bs) = value bs * 256 + b

pub number_append : (bs cs : List Bool) → number (bs ++ cs) ≡ number cs * 2 ^ length bs + number bs
unfolding number
number_append [] cs = omega arith
number_append (b ∷ bs) cs =
    let high = number cs in
    let twice : high * 2 ^ suc (length bs) ≡ high * 2 ^ length bs * 2 =
    ap (λ p. high * p) (pow-suc 2 (length bs)) ∙ sym (mul_assoc high (2 ^ length bs) 2) in
    omega (arith, number_append bs cs)

number_message : (bs : List ℕ) → ((i : ℕ) → get_or bs i 0 < 256) → number (message_bits bs) ≡ value bs
unfolding value number
number_message [] small = refl
number_message (b ∷ bs) small =
    let here : b % 2 ^ 8 ≡ b = omega (arith, small 0) in
    number_append (bits 8 b) (message_bits bs)
    ∙ ap (λ k. number (message_bits bs) * 2 ^ k + number (bits 8 b)) (length_bits 8 b)
    ∙ ap (λ n. number (message_bits bs) * 256 + n) (number_bits 8 b ∙ here)
    ∙ ap (λ n. n * 256 + b) (number_message bs (λ i. small (suc i)))

pub length_message : (bs : List ℕ) → length (message_bits bs) ≡ 8 * length bs
length_message [] = refl
length_message (b ∷ bs) =
    omega (arith, length-append (bits 8 b) (message_bits bs), length_bits 8 b, length_message bs)

word_value : (bs : List ℕ) → length bs ≡ 8 → value bs ≡ from_le_bytes w64 bs
unfolding value
word_value (a ∷ b ∷ c ∷ d ∷ e ∷ f ∷ g ∷ h ∷ []) len = omega arith
word_value _ len = absurd (omega arith)

pub eight_entered : (r : ℕ) (bs : List ℕ) → length bs ≡ 8 → ((i : ℕ) → get_or bs i 0 < 256)
    → after_bits r (message_bits bs) ≡ idle 64 (bit_xor r (from_le_bytes w64 bs))
eight_entered r bs len small =
    let long : length (message_bits bs) ≡ 64 = omega (arith, length_message bs) in
    entered (message_bits bs) r
    ∙ ap (λ k. idle k (bit_xor r (number (message_bits bs)))) long
    ∙ ap (λ n. idle 64 (bit_xor r n)) (number_message bs small ∙ word_value bs len)

-- ---- messages in pieces

pub message_append : (r : ℕ) (xs ys : List ℕ)
    → after_bits r (message_bits (xs ++ ys)) ≡ after_bits (after_bits r (message_bits xs)) (message_bits ys)
message_append r xs ys =
    ap (after_bits r) (flat_map-append (bits 8) xs ys) ∙ after_append r (message_bits xs) (message_bits ys)

pub take_eight : (bs : List ℕ) (at : ℕ) → take (at + 8) bs ≡ take at bs ++ take 8 (drop at bs)
take_eight bs at =
    let whole : take at (take (at + 8) bs) ++ drop at (take (at + 8) bs) ≡ take (at + 8) bs = take-append-drop at (take (at + 8) bs) in
    sym (rw (take-take at (at + 8) bs (omega arith), drop-take at 8 bs) at whole)
