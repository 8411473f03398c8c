-- What is appended piece by piece is the whole.
use Rattle.std.proofs.Common.{◌≡◌, ◌∷◌, ◌++◌, List, [], ℕ, Bool, true, false, refl, append_assoc}
use Rattle.std.specs.Int.{from_bool}
use Rattle.pgwire.specs.Payloads.{flag_byte}

pub same_flag : (b : Bool) → from_bool b ≡ flag_byte b
same_flag true = refl
same_flag false = refl

pub appended : (old tag len letter written flushed applied clock all : List ℕ) (flag : ℕ) (w f a c : List ℕ) → tag ≡ old ++ 100 ∷ []
    → len ≡ tag ++ 0 ∷ 0 ∷ 0 ∷ 38 ∷ [] → letter ≡ len ++ 114 ∷ []
    → written ≡ letter ++ w → flushed ≡ written ++ f → applied ≡ flushed ++ a → clock ≡ applied ++ c → all ≡ clock ++ flag ∷ []
    → all ≡ old ++ 100 ∷ 0 ∷ 0 ∷ 0 ∷ 38 ∷ 114 ∷ (w ++ f ++ a ++ c ++ flag ∷ [])
appended old tag len letter written flushed applied clock all flag w f a c p q r s t u v x = rw (x, v, u, t, s, r, q, p) (simp append_assoc)
