-- What is printed for a number reads as it.
use Rattle.std.proofs.Common.{◌≡◌, ◌<◌, ◌≤◌, ◌*◌, ◌/◌, ◌%◌, ◌^◌, ℕ, zero, suc, List, [], ◌∷◌, ◌++◌}
use Rattle.std.proofs.Common.{length, map, refl, ap, sym, ◌∙◌, subst, arith, length-append}
use Rattle.std.proofs.Common.{append_assoc, append-nil, cond, true, false, eqb}
use Rattle.std.proofs.lemmas.List.{map-append, length-map}
use Rattle.std.proofs.lemmas.Fmt.{digits_is_IsNumeral}
use Rattle.std.proofs.Math.Nat.{div-lt_iff_lt-mul, pow-suc}
use Rattle.std.specs.Fmt.{digits, digits_onto, digit_glyph}
use Rattle.std.specs.Int.Digits.{digits_with_fuel}
use Rattle.std.specs.Str.Parse.{digits_value, IsNumeral}
use Rattle.pglsn.specs.Texts.{IsPart, ReadsAs, upper_digit, half_text, lsn_text}

no_digits : (turns : ℕ) → digits_with_fuel 16 turns 0 ≡ []
no_digits zero = refl
no_digits (suc turns) = refl

not_none : (n : ℕ) → eqb (suc n) 0 ≡ false
not_none n = grind arith

next_digit : (turns n : ℕ) → digits_with_fuel 16 (suc turns) (suc n) ≡ digits_with_fuel 16 turns (suc n / 16) ++ suc n % 16 ∷ []
next_digit turns n = rw (not_none n) refl

-- at most as many digits as turns
few_digits : (turns n : ℕ) → length (digits_with_fuel 16 turns n) ≤ turns
few_digits zero n = omega arith
few_digits (suc turns) zero = omega arith
few_digits (suc turns) (suc n) =
    omega (
      arith,
      few_digits turns (suc n / 16),
      length-append (digits_with_fuel 16 turns (suc n / 16)) (suc n % 16 ∷ []),
      ap length (next_digit turns n),
    )

-- std writes the same digits, from the last one on
written : (fuel turns n : ℕ) (behind : List ℕ) → turns ≤ fuel → 0 < n → n < 16 ^ turns
    → digits_onto fuel 16 true n behind ≡ map upper_digit (digits_with_fuel 16 turns n) ++ behind
written fuel zero n behind le some small = absurd (omega arith)
written zero (suc turns) n behind le some small = absurd (omega arith)
written (suc fuel) (suc turns) zero behind le some small = absurd (omega arith)
written (suc fuel) (suc turns) (suc n) behind le some small =
    let fewer : suc n / 16 < 16 ^ turns =
    (div-lt_iff_lt-mul (omega arith)).1 (let h : suc n < 16 ^ turns * 16 = subst (λ k. suc n < k) (pow-suc 16 turns) small in h) in
    let split : (q : ℕ) → suc n / 16 ≡ q
    → digits_onto (suc fuel) 16 true (suc n) behind ≡ map upper_digit (digits_with_fuel 16 turns (suc n / 16) ++ suc n % 16 ∷ [])
    ++ behind =
    λ q e. elim q as (λ k. suc n / 16 ≡ k
    → digits_onto (suc fuel) 16 true (suc n) behind ≡ map upper_digit (digits_with_fuel 16 turns (suc n / 16) ++ suc n % 16 ∷ [])
    ++ behind) [
      | zero ↦ λ none. rw none (rw (no_digits turns) refl)
      | suc k ↦ λ more.
          let rest : digits_onto fuel 16 true (suc n / 16) (digit_glyph true (suc n % 16) ∷ behind)
          ≡ map upper_digit (digits_with_fuel 16 turns (suc n / 16)) ++ digit_glyph true (suc n % 16) ∷ behind =
          written fuel turns (suc n / 16) (digit_glyph true (suc n % 16) ∷ behind) (omega arith) (omega arith) fewer in
          let last : map upper_digit (digits_with_fuel 16 turns (suc n / 16) ++ suc n % 16 ∷ [])
          ≡ map upper_digit (digits_with_fuel 16 turns (suc n / 16)) ++ digit_glyph true (suc n % 16) ∷ [] =
          map-append upper_digit _ _ in
          let test : eqb (suc n / 16) 0 ≡ false = rw more (not_none k) in
          rw (last, test) (rest ∙ sym
          (append_assoc (map upper_digit (digits_with_fuel 16 turns (suc n / 16))) (digit_glyph true (suc n % 16) ∷ []) behind))
    ] e in
    split (suc n / 16) refl ∙ ap (λ ds. map upper_digit ds ++ behind) (sym (next_digit turns n))

small_written : (fuel n : ℕ) → 8 ≤ fuel → 0 < n → n < 2 ^ 32 → digits_onto fuel 16 true n [] ≡ map upper_digit (digits_with_fuel 16 8 n)
small_written fuel n le some small = written fuel 8 n [] le some (omega arith) ∙ append-nil _

no_half : digits 16 true 0 ≡ half_text 0
unfolding digits half_text
no_half = refl

some_text : (n : ℕ) → half_text (suc n) ≡ map upper_digit (digits_with_fuel 16 8 (suc n))
unfolding half_text
some_text n = ap (λ test. cond test (48 ∷ []) (map upper_digit (digits_with_fuel 16 8 (suc n)))) (not_none n)

some_half : (n : ℕ) → digits_onto 64 16 true (suc n) [] ≡ map upper_digit (digits_with_fuel 16 8 (suc n))
    → digits 16 true (suc n) ≡ half_text (suc n)
unfolding digits
some_half n e = e ∙ sym (some_text n)

pub half_is_written : (n : ℕ) → n < 2 ^ 32 → digits 16 true n ≡ half_text n
half_is_written zero small = no_half
half_is_written (suc n) small = some_half n (small_written 64 (suc n) (omega arith) (omega arith) small)

few_upper : (n : ℕ) → length (map upper_digit (digits_with_fuel 16 8 n)) ≤ 8
few_upper n = let e = length-map (digits_with_fuel 16 8 n) upper_digit in let few = few_digits 8 n in subst (λ k. k ≤ 8) (sym e) few

none_few : length (half_text 0) ≤ 8
unfolding half_text
none_few = omega arith

few_in_half : (n : ℕ) → length (half_text n) ≤ 8
few_in_half zero = none_few
few_in_half (suc n) = subst (λ text. length text ≤ 8) (sym (some_text n)) (few_upper (suc n))

half_reads : (n : ℕ) → n < 2 ^ 32 → IsPart (half_text n) × (digits_value 16 (half_text n) ≡ n)
half_reads n small =
    let std = digits_is_IsNumeral 16 true (omega arith) (omega arith) n (omega arith) in
    let P : List ℕ → Type 0 = λ ds. IsNumeral 16 ds × (digits_value 16 ds ≡ n) in
    let here : IsNumeral 16 (half_text n) × (digits_value 16 (half_text n) ≡ n) = subst P (half_is_written n small) std in
    (record { some = omega (arith, here.0.0); most = few_in_half n; digits = here.0.1 }, here.1)

pub text_reads : (n : ℕ) → n < 2 ^ 64 → ReadsAs (lsn_text n) n
unfolding lsn_text
text_reads n small =
    let high_fits : n / 2 ^ 32 < 2 ^ 32 = omega arith in
    let low_fits : n % 2 ^ 32 < 2 ^ 32 = omega arith in
    let high = half_reads (n / 2 ^ 32) high_fits in
    let low = half_reads (n % 2 ^ 32) low_fits in
    record {
      high = half_text (n / 2 ^ 32);
      low = half_text (n % 2 ^ 32);
      whole = refl;
      high_part = high.0;
      low_part = low.0;
      value = rw (high.1, low.1) (omega arith);
    }
