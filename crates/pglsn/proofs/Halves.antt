-- A text that reads as a log sequence number is split at its one slash.
use Rattle.std.proofs.Common.{◌≡◌, ◌≢◌, ◌<◌, ◌≤◌, ◌+◌, ◌*◌, ◌%◌, ◌^◌, ℕ, zero, suc, List, [], ◌∷◌}
use Rattle.std.proofs.Common.{◌++◌, length, get_or, refl, ap, sym, ◌∙◌, subst, arith, length-append}
use Rattle.std.proofs.Math.Seq.{get_or-append_seam}
use Rattle.std.proofs.lemmas.Str.Parse.{without_leading_plus_none}
use Rattle.std.proofs.lemmas.Int.Digits.{digits_value-lt}
use Rattle.std.proofs.Math.Nat.{pow-le-pow_right, mod-eq_of_lt}
use Rattle.std.specs.Result.{MatchResult, IsErrAnd}
use Rattle.std.specs.Char.{digit_value}
use Rattle.std.specs.Str.Parse.{AllDigits, IsNumeral, digits_value, ParsesUnsigned}
use Rattle.std.specs.Result.{OkIff}
use Rattle.std.specs.Prelude.{Result, Ok, Err}
use Rattle.pglsn.specs.Texts.{IsPart, ReadsAs}

-- a digit isn't a slash, and not a plus
no_slash_digit : (c : ℕ) → digit_value c < 16 → c ≢ 47
no_slash_digit c h e = let P : ℕ → Type 0 = λ n. digit_value n < 16 in let bad : 36 < 16 = subst P e h in absurd (omega arith)

no_plus_digit : (c : ℕ) → digit_value c < 16 → c ≢ 43
no_plus_digit c h e = let P : ℕ → Type 0 = λ n. digit_value n < 16 in let bad : 36 < 16 = subst P e h in absurd (omega arith)

pub first_slash : (xs ys high low : List ℕ) → xs ++ 47 ∷ ys ≡ high ++ 47 ∷ low → AllDigits 16 xs
    → ((i : ℕ) → i < length high → get_or high i 0 ≢ 47) → (xs ≡ high) × (ys ≡ low)
first_slash [] ys [] low e digits none = (refl, cc)
first_slash [] ys (c ∷ high) low e digits none = let at : c ≡ 47 = cc in absurd (none 0 (omega arith) at)
first_slash (x ∷ xs) ys [] low e digits none = let at : x ≡ 47 = cc in absurd (no_slash_digit x digits.0 at)
first_slash (x ∷ xs) ys (c ∷ high) low e digits none =
    let more : xs ++ 47 ∷ ys ≡ high ++ 47 ∷ low = cc in
    let rest = first_slash xs ys high low more digits.1 (λ i lt. none (suc i) (omega arith)) in
    (cc, rest.1)

digits_no_slash : (part : List ℕ) → AllDigits 16 part → (i : ℕ) → i < length part → get_or part i 0 ≢ 47
digits_no_slash [] digits i lt e = absurd (omega arith)
digits_no_slash (c ∷ cs) digits zero lt e = no_slash_digit c digits.0 e
digits_no_slash (c ∷ cs) digits (suc i) lt e = digits_no_slash cs digits.1 i (omega arith) e

-- what has no slash doesn't read as anything
pub no_slash : (text : List ℕ) (n : ℕ) → ((i : ℕ) → i < length text → get_or text i 0 ≢ 47) → ReadsAs text n → ⊥
no_slash text n none reads =
    let long : length reads.high < length text = omega (arith, ap length reads.whole, length-append reads.high (47 ∷ reads.low)) in
    none (length reads.high) long
    (ap (λ bytes. get_or bytes (length reads.high) 0) reads.whole ∙ get_or-append_seam reads.high 47 reads.low 0)

-- the halves of a text are what stands round its first slash
pub halves : (text high low : List ℕ) (n : ℕ) → text ≡ high ++ 47 ∷ low → ((i : ℕ) → i < length high → get_or high i 0 ≢ 47)
    → ReadsAs text n
    → IsPart high × IsPart low × (n ≡ digits_value 16 high * 2 ^ 32 + digits_value 16 low)
halves text high low n split none reads =
    let same = first_slash reads.high reads.low high low (sym reads.whole ∙ split) reads.high_part.digits none in (
      subst IsPart same.0 reads.high_part,
      subst IsPart same.1 reads.low_part,
      reads.value ∙ ap (λ part. digits_value 16 part * 2 ^ 32 + digits_value 16 reads.low) same.0
          ∙ ap (λ part. digits_value 16 high * 2 ^ 32 + digits_value 16 part) same.1,
    )

no_plus : (part : List ℕ) → AllDigits 16 part → get_or part 0 0 ≢ 43
no_plus [] digits e = cc
no_plus (c ∷ cs) digits e = no_plus_digit c digits.0 e

pub part_fits : (part : List ℕ) → IsPart part → digits_value 16 part < 2 ^ 32
part_fits part is =
    let below : digits_value 16 part < 16 ^ length part = digits_value-lt 16 part is.digits in
    let up : 16 ^ length part ≤ 16 ^ 8 = pow-le-pow_right (omega arith) is.most in
    omega (arith, below, up)

pub joined : (high low : ℕ) → high < 2 ^ 32 → high * 2 ^ 32 % 2 ^ 64 + low ≡ high * 2 ^ 32 + low
joined high low small = ap (λ n. n + low) (mod-eq_of_lt (omega arith))

-- a half is what the parser of std takes, where it is short and has no sign
pub part_parsed : {E : Type 0} (part : List ℕ) (r : Result ℕ E) → length part ≤ 8 → get_or part 0 0 ≢ 43 → ParsesUnsigned 32 16 part r
    → OkIff r (IsPart part) (digits_value 16 part)
part_parsed part (Ok n) short plain h =
    let same = without_leading_plus_none part plain in
    let P : List ℕ → Type 0 = λ ds. (IsNumeral 16 ds × (digits_value 16 ds < 2 ^ 32)) × (n ≡ digits_value 16 ds) in
    let at : (IsNumeral 16 part × (digits_value 16 part < 2 ^ 32)) × (n ≡ digits_value 16 part) = subst P same h in
    (record { some = omega (arith, at.0.0.0); most = short; digits = at.0.0.1 }, at.1)
part_parsed part (Err e) short plain h = λ is.
    let same = without_leading_plus_none part plain in
    let P : List ℕ → Type 0 = λ ds. IsNumeral 16 ds × (digits_value 16 ds < 2 ^ 32) in
    h (subst P (sym same) (((omega (arith, is.some)), is.digits), part_fits part is))

-- a text reads as one number
pub one_reading : (text : List ℕ) (m n : ℕ) → ReadsAs text m → ReadsAs text n → m ≡ n
one_reading text m n x y =
    let h = halves text y.high y.low m y.whole (digits_no_slash y.high y.high_part.digits) x in
    h.2 ∙ sym y.value

-- what another error says doesn't matter
pub same_outcome : {E D : Type 0} (r : Result ℕ E) (s : Result ℕ D) (P : Type 0) (v : ℕ) (Q : E → D → Type 0)
    → MatchResult r (λ x. s ≡ Ok x) (λ e. IsErrAnd s (Q e)) → OkIff r P v → OkIff s P v
same_outcome {E} {D} (Ok x) s P v Q same is = subst (λ (t : Result ℕ D). OkIff t P v) (sym same) is
same_outcome (Err e) (Ok x) P v Q same is = absurd same
same_outcome (Err e) (Err d) P v Q same is = is
