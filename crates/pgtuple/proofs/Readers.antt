-- What a tested text is to the definitions.
use Rattle.std.proofs.Common.{◌≡◌, ℕ, false, List, Ok, Err, refl}
use Rattle.std.specs.Str.{IsUtf8, is_utf8}
use Rattle.std.proofs.lemmas.Bool.{false_from_ne_true}
use Rattle.std.proofs.lemmas.Str.{IsUtf8-from_is_utf8, is_utf8-from_IsUtf8}
use Rattle.pgtuple.specs.declared.fault.TupleFault.TheVariants as fault
use Rattle.pgtuple.specs.Reading.{At, bytes_at, text_at}

pub text_read : (n : ℕ) (at : At) (bytes text : List ℕ) (next : At) → bytes_at n at ≡ Ok (bytes, next) → text ≡ bytes → IsUtf8 bytes
    → text_at n at ≡ Ok (text, next)
unfolding text_at
text_read n at bytes text next e same utf8 = rw (e, is_utf8-from_IsUtf8 bytes utf8, same) refl

pub text_refused : (n : ℕ) (at : At) (bytes : List ℕ) (next : At) → bytes_at n at ≡ Ok (bytes, next) → (IsUtf8 bytes → ⊥)
    → text_at n at ≡ Err (fault.NotUtf8 at.0)
unfolding text_at
text_refused n at bytes next e refused =
    let test : is_utf8 bytes ≡ false = false_from_ne_true (is_utf8 bytes) (λ t. refused (IsUtf8-from_is_utf8 bytes t)) in
    rw (e, test) refl
