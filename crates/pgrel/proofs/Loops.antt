-- The steps of the loops over the columns and the cells of a row.
use Rattle.std.proofs.Common.{◌≡◌, ◌<◌, ◌+◌, List, [], ◌∷◌, ℕ, zero, suc, length, drop, ap, ◌∙◌}
use Rattle.std.proofs.Common.{refl, arith, Some}
use Rattle.std.specs.Prelude.{slice_get, slice_index_or}
use Rattle.std.proofs.lemmas.Option.{slice_get_read}
use Rattle.pglogical.specs.declared.message.Column.{Column}
use Rattle.pgrel.specs.Identity.{key_cells}

pub key_cells_none : (columns : List Column) → key_cells columns [] ≡ []
key_cells_none [] = refl
key_cells_none (column ∷ columns) = refl

next : {X : Type 0} (xs : List X) (k : ℕ) (x : X) → slice_get xs k ≡ Some x → drop k xs ≡ x ∷ drop (suc k) xs
next [] k x e = absurd (cc)
next (y ∷ ys) zero x e = let same : y ≡ x = cc in ap (λ z. z ∷ ys) same
next (y ∷ ys) (suc k) x e = next ys k x e

-- what is left of a list from an index on
pub drop_next : {X : Type 0} (xs : List X) (k : ℕ) (x : X) → k < length xs → x ≡ slice_index_or xs k x → drop k xs ≡ x ∷ drop (k + 1) xs
drop_next xs k x l e = let more : suc k ≡ k + 1 = omega arith in
    next xs k x (slice_get_read xs (length xs) k x refl l e) ∙ ap (λ n. x ∷ drop n xs) more

pub drop_all : {X : Type 0} (xs : List X) (k : ℕ) → length xs ≡ k → drop k xs ≡ []
drop_all [] zero e = refl
drop_all [] (suc k) e = absurd (omega arith)
drop_all (x ∷ xs) zero e = absurd (omega arith)
drop_all (x ∷ xs) (suc k) e = drop_all xs k (omega arith)
