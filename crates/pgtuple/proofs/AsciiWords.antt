-- Words of eight bytes that are ASCII.
use Rattle.std.proofs.Common.{◌≡◌, ℕ, zero, suc, ◌+◌, ◌-◌, ◌<◌, ◌≤◌, List, length, get_or, take}
use Rattle.std.proofs.Common.{drop, bit_and, refl, sym, ap, ◌∙◌, arith, inl, inr}
use Rattle.std.specs.Int.{w64, from_le_bytes, bit_at}
use Rattle.std.specs.Str.{IsAscii}
use Rattle.std.proofs.lemmas.Bool.{cases_lt}
use Rattle.std.proofs.lemmas.List.{get_or-take, get_or-drop}
use Rattle.std.proofs.lemmas.Nat.Bits.{bit_at_and, bit_at-zero}
use Rattle.std.proofs.lemmas.Str.Ascii.{IsAscii-from_reads}
use Rattle.pgtuple.specs.Limits.{IsBytes}

-- a front and a back that leave no byte out
pub both_ends : (n m : ℕ) (bytes : List ℕ) → m ≤ n → IsAscii (take n bytes) → IsAscii (drop m bytes) → IsAscii bytes
both_ends n m bytes le front back i =
    elim (cases_lt i n) [
      | inl lt ↦ rw (← get_or-take n bytes i 0 lt) (front i)
      | inr ge ↦ let k : ℕ = i - m in let at : m + k ≡ i = omega arith in rw (← at, ← get_or-drop m bytes k 0) (back k)
    ]

abbrev pub high_bits : ℕ
high_bits = 0x8080_8080_8080_8080

clear : (w i : ℕ) → bit_and w high_bits ≡ 0 → bit_at high_bits i ≡ 1 → bit_at w i ≡ 0
clear w i e one = omega (arith, sym (bit_at_and w high_bits i) ∙ ap (λ n. bit_at n i) e ∙ bit_at-zero i, one)

-- a byte of a word whose high bits are clear
below : (bytes : List ℕ) → IsBytes bytes → bit_and (from_le_bytes w64 bytes) high_bits ≡ 0 → (k : ℕ) → k < 8 → get_or bytes k 0 < 128
below bytes fits clean zero lt =
    omega (arith, fits 0, fits 1, fits 2, fits 3, fits 4, fits 5, fits 6, fits 7, clear (from_le_bytes w64 bytes) 7 clean refl)
below bytes fits clean (suc zero) lt =
    omega (arith, fits 0, fits 1, fits 2, fits 3, fits 4, fits 5, fits 6, fits 7, clear (from_le_bytes w64 bytes) 15 clean refl)
below bytes fits clean (suc (suc zero)) lt =
    omega (arith, fits 0, fits 1, fits 2, fits 3, fits 4, fits 5, fits 6, fits 7, clear (from_le_bytes w64 bytes) 23 clean refl)
below bytes fits clean (suc (suc (suc zero))) lt =
    omega (arith, fits 0, fits 1, fits 2, fits 3, fits 4, fits 5, fits 6, fits 7, clear (from_le_bytes w64 bytes) 31 clean refl)
below bytes fits clean (suc (suc (suc (suc zero)))) lt =
    omega (arith, fits 0, fits 1, fits 2, fits 3, fits 4, fits 5, fits 6, fits 7, clear (from_le_bytes w64 bytes) 39 clean refl)
below bytes fits clean (suc (suc (suc (suc (suc zero))))) lt =
    omega (arith, fits 0, fits 1, fits 2, fits 3, fits 4, fits 5, fits 6, fits 7, clear (from_le_bytes w64 bytes) 47 clean refl)
below bytes fits clean (suc (suc (suc (suc (suc (suc zero)))))) lt =
    omega (arith, fits 0, fits 1, fits 2, fits 3, fits 4, fits 5, fits 6, fits 7, clear (from_le_bytes w64 bytes) 55 clean refl)
below bytes fits clean (suc (suc (suc (suc (suc (suc (suc zero))))))) lt =
    omega (arith, fits 0, fits 1, fits 2, fits 3, fits 4, fits 5, fits 6, fits 7, clear (from_le_bytes w64 bytes) 63 clean refl)
below bytes fits clean (suc (suc (suc (suc (suc (suc (suc (suc k)))))))) lt = absurd (omega arith)

pub word_ascii : (bytes : List ℕ) → length bytes ≡ 8 → IsBytes bytes → bit_and (from_le_bytes w64 bytes) high_bits ≡ 0 → IsAscii bytes
word_ascii bytes len fits clean = IsAscii-from_reads bytes 8 (omega arith) (below bytes fits clean)
