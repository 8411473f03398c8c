-- The division that the register makes: ITU-T V.42, section 8.1.1.6.2.
--
-- A polynomial modulo 2 is a number in so many bits, of which the lowest is the coefficient of the
-- highest power. So the factor x, a bit 0 at the end, leaves the number as it is.
use Rattle.std.specs.Prelude.{◌≡◌, ℕ, ◌+◌, ◌*◌, ◌^◌, Bool, true, false, List, [], ◌∷◌, length}
use Rattle.std.specs.Prelude.{bit_xor, if◌then◌else◌}
use Rattle.pgcrc.specs.Crc.{divisor, ones}

abbrev pub digit : Bool → ℕ
digit true = 1
digit false = 0

-- the number that bits are, of which the lowest comes first
unfoldable pub number : List Bool → ℕ
number [] = 0
number (bit ∷ more) = number more * 2 + digit bit

-- x^32 and the divisor, in 33 bits
abbrev pub generator : ℕ
generator = 2 * divisor + 1

-- the product of two polynomials, the first of them by its bits
unfoldable pub product : List Bool → ℕ → ℕ
product [] p = 0
product (bit ∷ more) p = bit_xor (if bit then p else 0) (product more p * 2)

-- For a message of k bits x^32 times the message and x^k times (x^31 + .. + 1) are added, in
-- k + 32 bits. The sum is a quotient, in k bits, times the generator, plus the remainder: the last
-- 32 bits.
pub record IsRemainder (message : List Bool) (remainder : ℕ) : Type 0 where
  pub quotient : List Bool
  pub as_long : length quotient ≡ length message
  pub divided : bit_xor (number message) ones ≡ bit_xor (product quotient generator) (remainder * 2 ^ length message)
