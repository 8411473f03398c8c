-- Worked rows: bits and CRCs of short messages. RFC 1952, section 8.
use Rattle.std.proofs.Common.{◌≡◌, ◌+◌, ◌-◌, ◌^◌, ◌∷◌, [], true, false, refl}
use Rattle.std.specs.Prelude.{codes}
use Rattle.pgcrc.specs.Division.{generator}
use Rattle.pgcrc.specs.Crc.{bits, message_bits, after_bit, after_bits, crc32}

-- the divisor's terms, each at the bit of its power
terms : generator
    ≡ 2 ^ (32 - 32) + 2 ^ (32 - 26) + 2 ^ (32 - 23) + 2 ^ (32 - 22) + 2 ^ (32 - 16) + 2 ^ (32 - 12) + 2 ^ (32 - 11)
    + 2 ^ (32 - 10) + 2 ^ (32 - 8) + 2 ^ (32 - 7) + 2 ^ (32 - 5) + 2 ^ (32 - 4) + 2 ^ (32 - 2) + 2 ^ (32 - 1) + 2 ^ (32 - 0)
terms = refl

-- 13 is 1101 in binary, and 128 is 10000000
lowest_first : message_bits (13 ∷ 128 ∷ [])
    ≡ true ∷ false ∷ true ∷ true ∷ false ∷ false ∷ false ∷ false
    ∷ false ∷ false ∷ false ∷ false ∷ false ∷ false ∷ false ∷ true ∷ []
unfolding bits
lowest_first = refl

no_bytes : crc32 [] ≡ 0
unfolding crc32 after_bits
no_bytes = refl

-- the value by which implementations are known
digits : crc32 (codes "123456789") ≡ 0xCBF43926
unfolding crc32 after_bits after_bit bits
digits = refl

byte_of_zeros : crc32 (0 ∷ []) ≡ 0xD202EF8D
unfolding crc32 after_bits after_bit bits
byte_of_zeros = refl

byte_of_ones : crc32 (255 ∷ []) ≡ 0xFF000000
unfolding crc32 after_bits after_bit bits
byte_of_ones = refl

-- the lowest bit alone, and the highest
lowest_bit : crc32 (1 ∷ []) ≡ 0xA505DF1B
unfolding crc32 after_bits after_bit bits
lowest_bit = refl

highest_bit : crc32 (128 ∷ []) ≡ 0x3FBA6CAD
unfolding crc32 after_bits after_bit bits
highest_bit = refl

fox : crc32 (codes "The quick brown fox jumps over the lazy dog") ≡ 0x414FA339
unfolding crc32 after_bits after_bit bits
fox = refl
