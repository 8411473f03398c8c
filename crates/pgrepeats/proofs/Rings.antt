-- What is found in notes that are in order.
use Rattle.std.proofs.Common.{◌≡◌, ◌≢◌, ◌<◌, ◌≤◌, ◌-◌, ◌+◌, ◌∙◌, ℕ, zero, suc, [], ◌∷◌, ◌++◌}
use Rattle.std.proofs.Common.{length, get_or, ◌==◌, if◌then◌else◌, Option, Some, None, Result, Ok}
use Rattle.std.proofs.Common.{Err, refl}
use Rattle.std.proofs.Common.{sym, ap, subst, arith, inl, inr, IfOk, IfErr}
use Rattle.std.specs.Option.{IfSome, option_to_list}
use Rattle.std.specs.List.Sorted.{IsSearchInRange, IsBinarySearchResult, IsNonDecreasingBy}
use Rattle.std.specs.Ordering.{nat_cmp, ordering_index}
use Rattle.std.proofs.lemmas.Cmp.{ranked}
use Rattle.std.proofs.lemmas.List.Sorted.{IsNonDecreasingBy-from_default}
use Rattle.std.proofs.lemmas.List.{get_or_append_left, get_or_default, length-append}
use Rattle.std.proofs.Math.Seq.{get_or-append_seam}
use Rattle.std.proofs.lemmas.Bool.{cases_lt}
use Rattle.std.proofs.lemmas.Bool.Decides.{nat_tests}
use Rattle.pgrepeats.specs.declared.noted.Noted.{Noted}
use Rattle.pgrepeats.specs.Rings.{AreBelow, AreInOrder, Entries, IsAt, IsLeast, IsNowhere, Updates}
use Rattle.pgrepeats.specs.Rings.{blank, end_at, noted_in}

-- none of the first i ends there
abbrev pub NoneBefore : Entries → ℕ → ℕ → Type 0
NoneBefore es k i = (j : ℕ) → j < i → end_at es j ≢ k

none_before_tail : (x : ℕ × Noted) (es : Entries) (k i : ℕ) → NoneBefore (x ∷ es) k (suc i) → NoneBefore es k i
none_before_tail x es k i none j lt = none (suc j) (omega arith)

is_at_tail : (x : ℕ × Noted) (es : Entries) (k i : ℕ) → IsAt (x ∷ es) k (suc i) → IsAt es k i
is_at_tail x es k i at = record { below = omega (arith, at.below); ends = at.ends }

-- ---- one that is looked for

not_noted : (es : Entries) (k : ℕ) → NoneBefore es k (length es) → noted_in es k ≡ None
not_noted [] k none = refl
not_noted (x ∷ es) k none =
    grind (arith, nat_tests, none 0 (omega arith), not_noted es k (none_before_tail x es k (length es) none))

noted_there : (es : Entries) (k i : ℕ) → IsAt es k i → NoneBefore es k i → noted_in es k ≡ Some (get_or es i blank).1
noted_there [] k i at none = absurd (omega (arith, at.below))
noted_there (x ∷ es) k zero at none = grind (arith, nat_tests, at.ends)
noted_there (x ∷ es) k (suc i) at none =
    grind (arith, nat_tests, none 0 (omega arith), noted_there es k i (is_at_tail x es k i at) (none_before_tail x es k i none))

-- what was read at its place
pub read_at : (es : Entries) → AreInOrder es → (i : ℕ) (x : ℕ × Noted) → x ≡ get_or es i x → (k : ℕ) → IsAt es k i
    → Some x.1 ≡ noted_in es k
read_at es sorted i x is k at =
    let same : get_or es i blank ≡ x = get_or_default es i blank x at.below ∙ sym is in
    sym (noted_there es k i at (λ j lt e. omega (arith, sorted j i lt at.below, at.ends, e)) ∙ ap (λ (y : ℕ × Noted). Some y.1) same)

pub nowhere : (es : Entries) (k : ℕ) → IsNowhere es k → noted_in es k ≡ None
nowhere es k none = not_noted es k none.none

pub behind_all : (es : Entries) (k : ℕ) → AreBelow k es → noted_in es k ≡ None
behind_all es k below = not_noted es k (λ j lt same. omega (arith, below j lt, same))

module _ (es : Entries) (sorted : AreInOrder es) (k : ℕ) where
  -- the comparisons rise, as a binary search asks
  rising : IsNonDecreasingBy (λ (e : ℕ × Noted). ordering_index (nat_cmp e.0 k)) es
  rising = IsNonDecreasingBy-from_default (λ (e : ℕ × Noted). ordering_index (nat_cmp e.0 k)) es blank (λ i j le below.
      let rise : end_at es i ≤ end_at es j = grind (arith, sorted i j, λ (same : i ≡ j). ap (end_at es) same) in
      grind (arith, nat_tests))

  -- a binary search ends at the one, or finds that it is nowhere
  pub searched : (r : Result ℕ ℕ) → IsSearchInRange r (length es) → IsBinarySearchResult (λ (e : ℕ × Noted). nat_cmp e.0 k) es r
      → IfOk r (IsAt es k) × IfErr r (λ _. IsNowhere es k)
  searched (Ok at) below equal = (record { below = below; ends = ranked _ k _ (sym (equal blank)) }, tt)
  searched (Err at) below parted = (
    tt,
    record {
      none = λ i lt same. elim (cases_lt i at) [
        | inl before ↦
            let less : end_at es i < k = ranked _ k _ (sym ((parted rising).0 i blank (omega arith) before)) in omega (arith, less, same)
        | inr behind ↦
            let more : k < end_at es i = ranked _ k _ (sym ((parted rising).1 i blank behind lt)) in omega (arith, more, same)
      ];
    },
  )

-- ---- one more

-- where the last one ends before this, all do
pub all_below : (es : Entries) → AreInOrder es → (last : ℕ × Noted) (k : ℕ) → 0 < length es → last ≡ get_or es (length es - 1) last
    → last.0 < k → AreBelow k es
all_below es sorted last k some is lt i below =
    let place = length es - 1 in
    let ends : end_at es place ≡ last.0 =
    ap (λ (e : ℕ × Noted). e.0) (get_or_default es place blank last (omega (arith, some)) ∙ sym is) in
    elim (cases_lt i place) [
      | inl before ↦ omega (arith, sorted i place before (omega (arith, some)), ends, lt)
      | inr behind ↦
          let e : i ≡ place = omega (arith, behind, below) in omega (arith, ap (end_at es) e, ends, lt)
    ]

module _ (es : Entries) (k : ℕ) (n : Noted) where
  abbrev pushed : Entries
  pushed = es ++ (k, n) ∷ []

  left : (i : ℕ) → i < length es → end_at pushed i ≡ end_at es i
  left i lt = ap (λ (e : ℕ × Noted). e.0) (get_or_append_left es ((k, n) ∷ []) blank i lt)

  seam : end_at pushed (length es) ≡ k
  seam = ap (λ (e : ℕ × Noted). e.0) (get_or-append_seam es (k, n) [] blank)

  pub in_order_push : AreInOrder es → AreBelow k es → AreInOrder pushed
  in_order_push sorted below i j lt in_it =
      let len : length pushed ≡ length es + 1 = length-append es ((k, n) ∷ []) in
      elim (cases_lt j (length es)) [
        | inl before ↦ omega (arith, left i (omega (arith, lt, before)), left j before, sorted i j lt before)
        | inr behind ↦
            let at : j ≡ length es = omega (arith, in_it, len, behind) in
            let low : i < length es = omega (arith, at, lt) in
            omega (arith, left i low, ap (end_at pushed) at, seam, below i low)
      ]

noted_push : (es : Entries) (k : ℕ) (n : Noted) → NoneBefore es k (length es) → (q : ℕ)
    → noted_in (es ++ (k, n) ∷ []) q ≡ (if k == q then Some n else noted_in es q)
noted_push [] k n none q = refl
noted_push (x ∷ es) k n none q =
    grind (arith, nat_tests, none 0 (omega arith), noted_push es k n (none_before_tail x es k (length es) none) q)

pub updates_push : (es : Entries) (k : ℕ) (n : Noted) → AreBelow k es → Updates es (es ++ (k, n) ∷ []) k (Some n)
updates_push es k n below =
    let none : NoneBefore es k (length es) = λ j lt same. omega (arith, below j lt, same) in (
      grind (arith, nat_tests, noted_push es k n none k),
      λ q differs. grind (arith, nat_tests, noted_push es k n none q),
    )

-- ---- the first one goes

module _ (x : ℕ × Noted) (es : Entries) (sorted : AreInOrder (x ∷ es)) where
  above_first : (j : ℕ) → j < length es → x.0 < end_at es j
  above_first j lt = sorted 0 (suc j) (omega arith) (omega (arith, lt))

  first_least : IsLeast (x ∷ es) x.0
  first_least k n e = elim (cases_lt k x.0) [
    | inl below ↦
        let no : noted_in (x ∷ es) k ≡ None = not_noted (x ∷ es) k (none below) in
        let bad : None ≡ Some n = sym no ∙ e in absurd (cc)
    | inr le ↦ le
  ]
    where
      none : k < x.0 → NoneBefore (x ∷ es) k (length (x ∷ es))
      none below zero lt same = omega (arith, below, same)
      none below (suc j) lt same = omega (arith, above_first j (omega (arith, lt)), below, same)

  first_goes : Updates (x ∷ es) es x.0 None
  first_goes = (
    not_noted es x.0 (λ j lt same. omega (arith, above_first j lt, same)),
    λ q differs. grind (arith, nat_tests),
  )

pub popped_least : (o : Option (ℕ × Noted)) (old new : Entries) → AreInOrder old → old ≡ option_to_list o ++ new
    → IfSome o (λ p. IsLeast old p.0)
popped_least None old new sorted is = tt
popped_least (Some p) old new sorted is =
    subst (λ (es : Entries). IsLeast es p.0) (sym is) (first_least p new (subst AreInOrder is sorted))

pub popped_updates : (o : Option (ℕ × Noted)) (old new : Entries) → AreInOrder old → old ≡ option_to_list o ++ new
    → IfSome o (λ p. Updates old new p.0 None)
popped_updates None old new sorted is = tt
popped_updates (Some p) old new sorted is =
    subst (λ (es : Entries). Updates es new p.0 None) (sym is) (first_goes p new (subst AreInOrder is sorted))
