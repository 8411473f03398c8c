-- What is read where the bytes are known, and what is printed of it.
use Rattle.std.proofs.Common.{◌≡◌, ◌<◌, ℕ, List, [], ◌++◌, Option, Some, None, IfSome, Result, Ok}
use Rattle.std.proofs.Common.{Err, OnOk, OnErr, ◌⊎◌, inl, inr, true, refl, ap, subst, ◌∙◌, arith}
use Rattle.std.proofs.Common.{length, take, take_all}
use Rattle.std.specs.Prelude.{option_map, is_ok}
use Rattle.std.proofs.lemmas.List.{length-take}

-- what comes before the limit is all
pub all_read : (remaining : Option (List ℕ)) (limit : ℕ) (start text : List ℕ) → start ≡ []
    → IfSome (option_map (take limit) remaining) (λ xs. text ≡ start ++ xs) → length text < limit
    → IfSome remaining (λ known. text ≡ known)
all_read None limit start text none h short = tt
all_read (Some known) limit start text none h short =
    let front : text ≡ take limit known = h ∙ ap (λ (xs : List ℕ). xs ++ take limit known) none in
    front ∙ take_all limit known (omega (arith, short, ap length front, length-take limit known))

-- what comes up to the limit is no longer than all
pub longer_read : (remaining : Option (List ℕ)) (limit longest : ℕ) (start text : List ℕ) → start ≡ []
    → IfSome (option_map (take limit) remaining) (λ xs. text ≡ start ++ xs) → longest < length text
    → (bytes : List ℕ) × IfSome remaining (λ known. bytes ≡ known) × (longest < length bytes)
longer_read None limit longest start text none h long = (text, tt, long)
longer_read (Some known) limit longest start text none h long =
    let front : text ≡ take limit known = h ∙ ap (λ (xs : List ℕ). xs ++ take limit known) none in
    (known, refl, omega (arith, long, ap length front, length-take limit known))

pub on_ok : {T E : Type 0} (r : Result T E) (P : Type 0) → OnOk r P → is_ok r ≡ true → P
on_ok (Ok t) P h is = h
on_ok (Err e) P h is = absurd (cc)

pub when_some : {X : Type 0} (o : Option X) (x : X) (P : X → Type 0) → IfSome o P → o ≡ Some x → P x
when_some None x P h is = absurd (cc)
when_some (Some y) x P h is = let same : y ≡ x = cc in subst P same h

pub written_or_failed : {T E : Type 0} (r : Result T E) (A B : Type 0) → OnOk r A → OnErr r B → A ⊎ B
written_or_failed (Ok t) A B written failed = inl written
written_or_failed (Err e) A B written failed = inr failed
