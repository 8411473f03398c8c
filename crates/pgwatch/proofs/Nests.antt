-- One part of a streamed transaction behind another.
use Rattle.std.proofs.Common.{◌≡◌, List, [], ◌∷◌, ◌++◌, reverse, Some, None, Result, Ok, Err}
use Rattle.std.proofs.Common.{refl, sym, ap, ◌∙◌}
use Rattle.std.proofs.lemmas.List.{reverse-append}
use Rattle.pgwatch.specs.declared.noted.Noted.{Noted}
use Rattle.pgwatch.specs.Nesting.{Nesting, nested, or_misfit, then_nested, nest}

abbrev pub and_nest : Result Nesting Noted → (Nesting → Result Nesting Noted) → Result Nesting Noted
and_nest (Ok n) go = go n
and_nest (Err x) go = Err x

then_and : (x : Noted) (r : Result Nesting Noted) (go : Nesting → Result Nesting Noted)
    → then_nested x (and_nest r go) ≡ and_nest r (λ n. then_nested x (go n))
then_and x (Ok n) go = refl
then_and x (Err y) go = refl

whole : (r : Result Nesting Noted) → r ≡ and_nest r (λ m. Ok m)
whole (Ok m) = refl
whole (Err x) = refl

pub nest-append : (n : Nesting) (xs ys : List Noted) → nest n (xs ++ ys) ≡ and_nest (nest n ys) (λ m. nest m xs)
nest-append n [] ys = whole (nest n ys)
nest-append n (x ∷ xs) ys = ap (then_nested x) (nest-append n xs ys) ∙ then_and x (nest n ys) (λ m. nest m xs)

-- the last one is read
pub nest_last : (n m : Nesting) (xs ys : List Noted) (x : Noted) → xs ≡ ys ++ x ∷ [] → nested n x ≡ Some m → nest m ys ≡ nest n xs
nest_last n m xs ys x e is =
    sym (ap (nest n) e ∙ nest-append n ys (x ∷ []) ∙ ap (λ o. and_nest (or_misfit x o) (λ k. nest k ys)) is)

pub nest_misfit : (n : Nesting) (xs ys : List Noted) (x : Noted) → xs ≡ ys ++ x ∷ [] → nested n x ≡ None → nest n xs ≡ Err x
nest_misfit n xs ys x e is =
    ap (nest n) e ∙ nest-append n ys (x ∷ []) ∙ ap (λ o. and_nest (or_misfit x o) (λ k. nest k ys)) is

-- ---- what is read again, the last one of the list first

pub reverse_last : {A : Type 0} (xs ys : List A) (x : A) → xs ≡ ys ++ x ∷ [] → reverse xs ≡ x ∷ reverse ys
reverse_last xs ys x e = ap reverse e ∙ reverse-append ys (x ∷ [])
