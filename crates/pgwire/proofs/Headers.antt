-- A header as it is spelled.
use Rattle.std.proofs.Common.{◌≡◌, ◌<◌, ◌≤◌, ℕ, zero, suc, List, [], ◌∷◌, ◌++◌, length, get_or}
use Rattle.std.proofs.Common.{take, drop, refl, ap, sym, arith}
use Rattle.std.proofs.lemmas.Nat.{be_bytes_4}
use Rattle.std.specs.Int.{w32, to_be_bytes, from_be_bytes}
use Rattle.pgwire.specs.Frames.{tag_of, length_of}

abbrev pub IsBytes : List ℕ → Type 0
IsBytes bytes = (i : ℕ) → get_or bytes i 0 < 256

pub IsBytes-append : (xs ys : List ℕ) → IsBytes xs → IsBytes ys → IsBytes (xs ++ ys)
IsBytes-append [] ys fx fy i = fy i
IsBytes-append (x ∷ xs) ys fx fy zero = fx 0
IsBytes-append (x ∷ xs) ys fx fy (suc i) = IsBytes-append xs ys (λ j. fx (suc j)) fy i

pub IsBytes-take : (n : ℕ) (xs : List ℕ) → IsBytes xs → IsBytes (take n xs)
IsBytes-take zero xs fits i = omega arith
IsBytes-take (suc n) [] fits i = omega arith
IsBytes-take (suc n) (x ∷ xs) fits zero = fits 0
IsBytes-take (suc n) (x ∷ xs) fits (suc i) = IsBytes-take n xs (λ j. fits (suc j)) i

pub IsBytes-drop : (n : ℕ) (xs : List ℕ) → IsBytes xs → IsBytes (drop n xs)
IsBytes-drop zero xs fits i = fits i
IsBytes-drop (suc n) [] fits i = omega arith
IsBytes-drop (suc n) (x ∷ xs) fits i = IsBytes-drop n xs (λ j. fits (suc j)) i

four : (a b c d : ℕ) → a < 256 → b < 256 → c < 256 → d < 256 → IsBytes (a ∷ b ∷ c ∷ d ∷ [])
four a b c d p q r s zero = p
four a b c d p q r s (suc zero) = q
four a b c d p q r s (suc (suc zero)) = r
four a b c d p q r s (suc (suc (suc zero))) = s
four a b c d p q r s (suc (suc (suc (suc i)))) = omega arith

pub header_spelled : (bytes : List ℕ) → IsBytes bytes → 5 ≤ length bytes
    → bytes ≡ tag_of bytes ∷ (to_be_bytes w32 (length_of bytes) ++ drop 5 bytes)
header_spelled [] fits long = absurd (omega arith)
header_spelled (t ∷ []) fits long = absurd (omega arith)
header_spelled (t ∷ a ∷ []) fits long = absurd (omega arith)
header_spelled (t ∷ a ∷ b ∷ []) fits long = absurd (omega arith)
header_spelled (t ∷ a ∷ b ∷ c ∷ []) fits long = absurd (omega arith)
header_spelled (t ∷ a ∷ b ∷ c ∷ d ∷ rest) fits long =
    let n = length_of (t ∷ a ∷ b ∷ c ∷ d ∷ rest) in
    let same : n ≡ from_be_bytes w32 (a ∷ b ∷ c ∷ d ∷ []) = omega arith in
    let spelled = be_bytes_4 (a ∷ b ∷ c ∷ d ∷ []) n refl (four a b c d (fits 1) (fits 2) (fits 3) (fits 4)) same in
    ap (λ header. t ∷ (header ++ rest)) (sym spelled)
