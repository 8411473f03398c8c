-- CRC-32, bit by bit. RFC 1952 (gzip), section 2.3.1, which names ISO 3309 and ITU-T V.42, section
-- 8.1.1.6.2, and section 8 for the order of the bits and the complements.
--
-- The bits of a message are the coefficients of a polynomial modulo 2. As they come in, a register
-- of 32 bits divides it by
-- x^32 + x^26 + x^23 + x^22 + x^16 + x^12 + x^11 + x^10 + x^8 + x^7 + x^5 + x^4 + x^2 + x + 1.
-- The register's lowest bit is the coefficient of x^31. It begins with ones, and the CRC is its
-- complement at the end.
use Rattle.std.specs.Prelude.{ℕ, zero, suc, ◌<◌, ◌-◌, ◌/◌, ◌%◌, ◌^◌, ◌==◌, Bool, true, false, List}
use Rattle.std.specs.Prelude.{[], ◌∷◌}
use Rattle.std.specs.Prelude.{bit_xor, if◌then◌else◌}
use Rattle.std.specs.List.{AllByRecursion, flat_map}

-- the divisor without x^32
abbrev pub divisor : ℕ
divisor = 0xEDB88320

abbrev pub is_odd : ℕ → Bool
is_odd n = n % 2 == 1

abbrev pub differ : Bool → Bool → Bool
differ true true = false
differ true false = true
differ false bit = bit

-- so many bits of a number, the lowest first
unfoldable pub bits : ℕ → ℕ → List Bool
bits zero n = []
bits (suc k) n = is_odd n ∷ bits k (n / 2)

-- the bits of a message: of each byte the lowest comes first
abbrev pub message_bits : List ℕ → List Bool
message_bits message = flat_map (bits 8) message

-- The register after one bit more. Where the bit that leaves it isn't the one that comes in, their
-- difference is a term x^32, and the divisor is subtracted.
unfoldable pub after_bit : ℕ → Bool → ℕ
after_bit register bit =
    if differ bit (is_odd register) then bit_xor (register / 2) divisor else register / 2

unfoldable pub after_bits : ℕ → List Bool → ℕ
after_bits register [] = register
after_bits register (bit ∷ more) = after_bits (after_bit register bit) more

abbrev pub ones : ℕ
ones = 2 ^ 32 - 1

unfoldable pub crc32 : List ℕ → ℕ
crc32 message = ones - after_bits ones (message_bits message)

abbrev pub AreBytes : List ℕ → Type 0
AreBytes message = AllByRecursion (λ byte. byte < 2 ^ 8) message
