-- How often a number stands in a list.
use Rattle.std.proofs.Common.{◌≡◌, ◌≤◌, ℕ, List, [], ◌∷◌, ◌++◌, Bool, true, false, ◌||◌, eqb}
use Rattle.std.proofs.Common.{refl, subst, arith}
use Rattle.std.specs.Prelude.{◌+◌}
use Rattle.std.proofs.lemmas.Bool.Decides.{nat_tests}
use Rattle.pgsub_core.specs.Server.Work.{is_among, AllDiffer}

abbrev pub one_if : Bool → ℕ
one_if true = 1
one_if false = 0

abbrev pub times : ℕ → List ℕ → ℕ
times x [] = 0
times x (y ∷ ys) = one_if (eqb y x) + times x ys

abbrev pub Once : List ℕ → Type 0
Once xs = (x : ℕ) → times x xs ≤ 1

pub times-append : (x : ℕ) (xs ys : List ℕ) → times x (xs ++ ys) ≡ times x xs + times x ys
times-append x [] ys = omega arith
times-append x (y ∷ xs) ys =
    let more : times x (xs ++ ys) ≡ times x xs + times x ys = times-append x xs ys in
    let first = one_if (eqb y x) in
    step first (times x (xs ++ ys)) (times x xs) (times x ys) more
  where
    step : (a b c d : ℕ) → b ≡ c + d → a + b ≡ (a + c) + d
    step a b c d e = omega arith

pub itself : (x : ℕ) → eqb x x ≡ true
itself x = grind (arith, nat_tests)

pub not_among : (xs : List ℕ) (x : ℕ) → times x xs ≡ 0 → is_among xs x ≡ false
not_among [] x none = refl
not_among (y ∷ ys) x none =
    elim (eqb y x) as (λ b. one_if b + times x ys ≡ 0 → (b || is_among ys x) ≡ false) [
      | true ↦ λ e. absurd (impossible (times x ys) e)
      | false ↦ λ e. not_among ys x (rest (times x ys) e)
    ] none
  where
    impossible : (a : ℕ) → 1 + a ≡ 0 → ⊥
    impossible a e = omega arith

    rest : (a : ℕ) → 0 + a ≡ 0 → a ≡ 0
    rest a e = omega arith

pub not_times : (xs : List ℕ) (x : ℕ) → is_among xs x ≡ false → times x xs ≡ 0
not_times [] x none = refl
not_times (y ∷ ys) x none =
    elim (eqb y x) as (λ b. (b || is_among ys x) ≡ false → one_if b + times x ys ≡ 0) [
      | true ↦ λ e. absurd (cc)
      | false ↦ λ e. same (times x ys) (not_times ys x e)
    ] none
  where
    same : (a : ℕ) → a ≡ 0 → 0 + a ≡ 0
    same a e = omega arith

pub differ : (xs : List ℕ) → Once xs → AllDiffer xs
differ [] once = tt
differ (y ∷ ys) once = (
  not_among ys y (alone (times y ys) (subst (λ b. one_if b + times y ys ≤ 1) (itself y) (once y))),
  differ ys (λ x. fewer (one_if (eqb y x)) (times x ys) (once x)),
)
  where
    alone : (a : ℕ) → 1 + a ≤ 1 → a ≡ 0
    alone a h = omega arith

    fewer : (a b : ℕ) → a + b ≤ 1 → b ≤ 1
    fewer a b h = omega arith
