-- What a buffer is after calls that append, of which the last could not finish.
use Rattle.std.proofs.Common.{◌≡◌, ℕ, ◌≤◌, List, ◌++◌, length, take, Result, Ok, Err, refl, sym, ap}
use Rattle.std.proofs.Common.{◌∙◌, arith}
use Rattle.std.specs.Prelude.{OnErr}
use Rattle.std.proofs.lemmas.List.{take_at, take-take, length-append}
use Rattle.pgtuple.specs.Writing.{Keeps}

pub Keeps-more : (a b c x : List ℕ) → b ≡ a ++ x → Keeps b c → Keeps a c
Keeps-more a b c x e keeps =
    let le : length a ≤ length b = omega (arith, ap length e, length-append a x) in
    sym (take-take (length a) (length b) c le) ∙ ap (λ (l : List ℕ). take (length a) l) (keeps ∙ e) ∙ take_at a x (length a) refl

pub on_err : {T E P : Type 0} (r : Result T E) → P → OnErr r P
on_err (Ok x) p = tt
on_err (Err e) p = p
