-- A line of a commit begins in one way.
use Rattle.std.proofs.Common.{◌≡◌, ◌≢◌, ◌<◌, ◌^◌, ℕ, List, [], ◌∷◌, ◌++◌, refl, ap, sym, ◌∙◌, ◌≤◌}
use Rattle.std.proofs.Common.{drop, subst, arith, append_assoc}
use Rattle.std.specs.List.{AllByRecursion}
use Rattle.std.specs.Prelude.{codes, decimal}
use Rattle.std.specs.Char.{digit_value}
use Rattle.std.specs.Str.Parse.{AllDigits}
use Rattle.std.proofs.lemmas.Fmt.{decimal_injective, decimal_is_IsNumeral}
use Rattle.pglsn.specs.Texts.{ReadsAs, lsn_text}
use Rattle.pglsn.proofs.Printed.{text_reads}
use Rattle.pglsn.proofs.Halves.{one_reading}
use Rattle.pgfeed.specs.Texts.{commit_front}

abbrev pub Lacks : ℕ → List ℕ → Type 0
Lacks stop text = AllByRecursion (λ c. c ≢ stop) text

-- what stands before the first such byte, and what behind it
pub first_stop : (stop : ℕ) (xs ys vs ws : List ℕ) → Lacks stop xs → Lacks stop ys → xs ++ stop ∷ vs ≡ ys ++ stop ∷ ws
    → (xs ≡ ys) × (vs ≡ ws)
first_stop stop [] [] vs ws free none e = (refl, cc)
first_stop stop [] (y ∷ ys) vs ws free none e = let at : y ≡ stop = cc in absurd (none.0 at)
first_stop stop (x ∷ xs) [] vs ws free none e = let at : x ≡ stop = cc in absurd (free.0 at)
first_stop stop (x ∷ xs) (y ∷ ys) vs ws free none e =
    let more : xs ++ stop ∷ vs ≡ ys ++ stop ∷ ws = cc in
    let rest = first_stop stop xs ys vs ws free.1 none.1 more in
    (cc, rest.1)

lacks_append : (stop : ℕ) (xs ys : List ℕ) → Lacks stop xs → Lacks stop ys → Lacks stop (xs ++ ys)
lacks_append stop [] ys free none = none
lacks_append stop (x ∷ xs) ys free none = (free.0, lacks_append stop xs ys free.1 none)

-- a digit is no quotation mark and no comma
digits_lack : (base stop : ℕ) (text : List ℕ) → base ≤ digit_value stop → AllDigits base text → Lacks stop text
digits_lack base stop [] free digits = tt
digits_lack base stop (c ∷ text) free digits = (
  λ e. let P : ℕ → Type 0 = λ n. digit_value n < base in let bad : digit_value stop < base = subst P e digits.0 in absurd (omega arith),
  digits_lack base stop text free digits.1,
)

pub lsn_lacks : (n : ℕ) → n < 2 ^ 64 → Lacks 34 (lsn_text n)
lsn_lacks n small =
    let reads = text_reads n small in
    let high = digits_lack 16 34 reads.high (omega arith) reads.high_part.digits in
    let low = digits_lack 16 34 reads.low (omega arith) reads.low_part.digits in
    let slash : 47 ≢ 34 = omega arith in
    subst (Lacks 34) (sym reads.whole) (lacks_append 34 reads.high (47 ∷ reads.low) high (slash, low))

decimal_lacks : (n : ℕ) → n < 2 ^ 64 → Lacks 44 (decimal n)
decimal_lacks n small = digits_lack 10 44 (decimal n) (omega arith) (decimal_is_IsNumeral n small).0.1

pub lsn_injective : (m n : ℕ) → m < 2 ^ 64 → n < 2 ^ 64 → lsn_text m ≡ lsn_text n → m ≡ n
lsn_injective m n small few e =
    one_reading (lsn_text m) m n (text_reads m small) (subst (λ text. ReadsAs text n) (sym e) (text_reads n few))

-- behind the end, and behind the number of bytes
behind_end : ℕ → ℕ → List ℕ → List ℕ
behind_end prev bytes more = codes ",\"prev\":\"" ++ (lsn_text prev ++ (codes "\",\"bytes\":" ++ (decimal bytes ++ 44 ∷ more)))

front_splits : (end prev bytes : ℕ) (more : List ℕ)
    → commit_front end prev bytes ++ more ≡ codes "{\"end\":\"" ++ (lsn_text end ++ 34 ∷ behind_end prev bytes more)
unfolding behind_end
front_splits end prev bytes more = simp append_assoc

pub one_front : (end other prev bytes others : ℕ) (more rest : List ℕ) → end < 2 ^ 64 → other < 2 ^ 64 → prev < 2 ^ 64 → bytes < 2 ^ 64
    → others < 2 ^ 64
    → commit_front end prev bytes ++ more ≡ commit_front other prev others ++ rest → (end ≡ other) × (bytes ≡ others)
unfolding behind_end
one_front end other prev bytes others more rest end_fits other_fits prev_fits bytes_fit others_fit same =
    let whole : codes "{\"end\":\"" ++ (lsn_text end ++ 34 ∷ behind_end prev bytes more) ≡ codes "{\"end\":\""
    ++ (lsn_text other ++ 34 ∷ behind_end prev others rest) =
    sym (front_splits end prev bytes more) ∙ same ∙ front_splits other prev others rest in
    let opened : lsn_text end ++ 34 ∷ behind_end prev bytes more ≡ lsn_text other ++ 34 ∷ behind_end prev others rest = ap (drop 8) whole in
    let ends = first_stop 34 (lsn_text end) (lsn_text other) (behind_end prev bytes more) (behind_end prev others rest)
    (lsn_lacks end end_fits) (lsn_lacks other other_fits) opened in
    let prevs : lsn_text prev ++ (codes "\",\"bytes\":" ++ (decimal bytes ++ 44 ∷ more)) ≡ lsn_text prev
    ++ (codes "\",\"bytes\":" ++ (decimal others ++ 44 ∷ rest)) = ap (drop 9) ends.1 in
    let mid = first_stop 34 (lsn_text prev) (lsn_text prev) _ _ (lsn_lacks prev prev_fits) (lsn_lacks prev prev_fits) prevs in
    let numbers : decimal bytes ++ 44 ∷ more ≡ decimal others ++ 44 ∷ rest = ap (drop 9) mid.1 in
    let lens = first_stop 44 (decimal bytes) (decimal others) more rest (decimal_lacks bytes bytes_fit) (decimal_lacks others others_fit)
    numbers in
    (lsn_injective end other end_fits other_fits ends.0, decimal_injective bytes others bytes_fit others_fit lens.0)
