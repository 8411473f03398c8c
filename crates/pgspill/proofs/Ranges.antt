-- Ranges of lists that are put together.
use Rattle.std.proofs.Common.{◌≡◌, ◌≤◌, ◌<◌, ◌+◌, ◌-◌, ◌⊎◌, inl, inr, ℕ, zero, suc, List, [], ◌∷◌}
use Rattle.std.proofs.Common.{◌++◌, length, take, drop, refl, ap, ap₂, ◌∙◌, sym, arith, append-nil}
use Rattle.std.proofs.Common.{append_assoc}
use Rattle.std.specs.Prelude.{slice_range, min}
use Rattle.std.proofs.lemmas.Bool.{cases_order}
use Rattle.std.proofs.lemmas.List.{drop-take, take-take, take_all, length-take, drop_all}

none-less : (n : ℕ) → 0 - n ≡ 0
none-less n = omega arith

drop-none : {A : Type 0} (n : ℕ) → drop {A = A} n [] ≡ []
drop-none zero = refl
drop-none (suc n) = refl

take-none : {A : Type 0} (n : ℕ) → take {A = A} n [] ≡ []
take-none zero = refl
take-none (suc n) = refl

range-nothing : {A : Type 0} (l : List A) (start end : ℕ) → end ≤ start → slice_range l start end ≡ []
range-nothing l start end none = let z : end - start ≡ 0 = omega arith in rw z refl

pub range-empty : {A : Type 0} (l : List A) (start end : ℕ) → min end (length l) ≤ start → slice_range l start end ≡ []
range-empty l start end none = elim (cases_order start (length l)) [
  | inl same ↦ ap (take (end - start)) (drop_all start l (omega arith)) ∙ take-none (end - start)
  | inr (inl below) ↦ range-nothing l start end (omega arith)
  | inr (inr above) ↦ ap (take (end - start)) (drop_all start l (omega arith)) ∙ take-none (end - start)
]

less-none : (n : ℕ) → n - 0 ≡ n
less-none n = omega arith

both-less : (n m : ℕ) → suc n - suc m ≡ n - m
both-less n m = omega arith

range-append : {A : Type 0} (a b : List A) (start end : ℕ)
    → slice_range (a ++ b) start end ≡ slice_range a start end ++ slice_range b (start - length a) (end - length a)
range-append [] b start end =
    sym (ap₂ (slice_range b) (less-none start) (less-none end))
    ∙ ap (λ l. l ++ slice_range b (start - 0) (end - 0))
    (sym (ap (take (end - start)) (drop-none start) ∙ take-none (end - start)))
range-append (x ∷ a) b zero zero = rw (none-less (length (x ∷ a))) refl
range-append (x ∷ a) b (suc start) zero =
    rw (none-less (suc start), none-less (length (x ∷ a)), none-less (suc start - length (x ∷ a))) refl
range-append (x ∷ a) b zero (suc end) =
    let rest = range-append a b zero end in
    let none = none-less (length a) in
    let from : 0 - length (x ∷ a) ≡ 0 - length a = omega arith in
    let to : suc end - length (x ∷ a) ≡ end - length a = omega arith in
    let all : suc end - 0 ≡ suc end = less-none (suc end) in
    let less : end - 0 ≡ end = less-none end in
    rw (all, from, to) (ap (λ l. x ∷ l) (rw less at rest))
range-append (x ∷ a) b (suc start) (suc end) =
    let from : suc start - length (x ∷ a) ≡ start - length a = omega arith in
    let to : suc end - length (x ∷ a) ≡ end - length a = omega arith in
    rw (both-less end start, from, to) (range-append a b start end)

-- a range of one list was read, and then of another behind it
pub range-more : (out was next all out' out'' : List ℕ) (start end from to at : ℕ) → at ≡ length was → all ≡ was ++ next
    → out' ≡ out ++ slice_range was start end → from ≡ start - at → to ≡ end - at → out'' ≡ out' ++ slice_range next from to
    → out'' ≡ out ++ slice_range all start end
range-more out was next all out' out'' start end from to at at_is both first from_is to_is second =
    second ∙ rw (first, from_is, to_is, at_is, both) (append_assoc out (slice_range was start end) _
    ∙ ap (λ l. out ++ l) (sym (range-append was next start end)))

-- nothing of the other one is in the range
pub range-whole : (out was next all out' : List ℕ) (start end at : ℕ) → at ≡ length was → all ≡ was ++ next
    → out' ≡ out ++ slice_range was start end → end ≤ at → out' ≡ out ++ slice_range all start end
range-whole out was next all out' start end at at_is both first before =
    range-more out was next all out' out' start end (start - at) (end - at) at at_is both first refl refl
    (sym (ap (λ l. out' ++ l) (range-nothing next (start - at) (end - at) (omega arith)) ∙ append-nil out'))

-- ---- of what is taken of a list

drop-of-take : {A : Type 0} (l : List A) (start n : ℕ) → start ≤ n → drop start (take n l) ≡ take (n - start) (drop start l)
drop-of-take l start n within =
    let whole : start + (n - start) ≡ n = omega arith in
    ap (λ k. drop start (take k l)) (sym whole) ∙ drop-take start (n - start) l

range-within : {A : Type 0} (l : List A) (start end n : ℕ) → start ≤ n → end ≤ n
    → slice_range (take n l) start end ≡ slice_range l start end
range-within l start end n from to =
    ap (take (end - start)) (drop-of-take l start n from) ∙ take-take (end - start) (n - start) (drop start l) (omega arith)

range-beyond : {A : Type 0} (l : List A) (start end n : ℕ) → start ≤ n → n ≤ end → slice_range (take n l) start end ≡ slice_range l start n
range-beyond l start end n from beyond =
    ap (take (end - start)) (drop-of-take l start n from)
    ∙ take_all (end - start) (take (n - start) (drop start l)) (omega (arith, length-take (n - start) (drop start l)))

piece-range : {A : Type 0} (l : List A) (start end kept written : ℕ) → start ≤ kept → kept ≤ written
    → slice_range (take written l) start (min end kept) ≡ slice_range (take kept l) start end
piece-range l start end kept written from less = elim (cases_order end kept) [
  | inl same ↦
      let to : min end kept ≡ kept = omega arith in
      ap (slice_range (take written l) start) to ∙ range-within l start kept written (omega arith) less
      ∙ sym (range-beyond l start end kept from (omega arith))
  | inr (inl below) ↦
      let to : min end kept ≡ end = omega arith in
      ap (slice_range (take written l) start) to ∙ range-within l start end written (omega arith) (omega arith)
      ∙ sym (range-within l start end kept from (omega arith))
  | inr (inr above) ↦
      let to : min end kept ≡ kept = omega arith in
      ap (slice_range (take written l) start) to ∙ range-within l start kept written (omega arith) less
      ∙ sym (range-beyond l start end kept from (omega arith))
]

-- a range of what was read of a piece was appended
pub range-read : (out out' read l : List ℕ) (start end to kept written : ℕ) → read ≡ take written l → to ≡ min end kept → start ≤ kept
    → kept ≤ written → out' ≡ out ++ slice_range read start to → out' ≡ out ++ slice_range (take kept l) start end
range-read out out' read l start end to kept written is to_is from less appended =
    appended ∙ rw (is, to_is) (ap (λ r. out ++ r) (piece-range l start end kept written from less))
