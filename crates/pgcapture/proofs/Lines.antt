-- The first line of a text, and what several lines say.
use Rattle.std.proofs.Common.{◌≡◌, ℕ, ◌+◌, ◌≤◌, ◌<◌, List, [], ◌∷◌, true, false, cond, not, Some}
use Rattle.std.proofs.Common.{None, refl, subst, suc, ◌-◌, arith, take, drop, length}
use Rattle.std.specs.Prelude.{◌==◌, nat_lt}
use Rattle.std.specs.List.{position, position_or_len}
use Rattle.std.proofs.lemmas.Bool.Decides.{nat_tests}
use Rattle.std.proofs.lemmas.List.{take_rest}
use Rattle.pgcapture.specs.Capture.{in_front, lines_of}

abbrev feed_at : List ℕ → ℕ
feed_at text = position_or_len (λ byte. byte == 10) text

cut_at : (byte : ℕ) (text : List ℕ) (n : ℕ) → lines_of text ≡ take n text ∷ lines_of (drop (n + 1) text)
    → in_front byte (lines_of text) ≡ take (1 + n) (byte ∷ text) ∷ lines_of (drop ((1 + n) + 1) (byte ∷ text))
cut_at byte text n e =
    let one : 1 + n ≡ suc n = omega arith in
    let two : (1 + n) + 1 ≡ suc (n + 1) = omega arith in
    rw (two, one, e)

pub lines-cut : (text : List ℕ) → feed_at text < length text
    → lines_of text ≡ take (feed_at text) text ∷ lines_of (drop (feed_at text + 1) text)
lines-cut [] h = absurd (omega arith)
lines-cut (byte ∷ text) h =
    elim (byte == 10) as (λ b. cond (not b) (1 + feed_at text) 0 < length (byte ∷ text)
    → cond b ([] ∷ lines_of text) (in_front byte (lines_of text)) ≡ take (cond (not b) (1 + feed_at text) 0) (byte ∷ text)
    ∷ lines_of (drop (cond (not b) (1 + feed_at text) 0 + 1) (byte ∷ text))) [
      | true ↦ λ _. refl
      | false ↦ λ lt. cut_at byte text (feed_at text) (lines-cut text (omega arith))
    ] h

pub lines-one : (text : List ℕ) → length text ≤ feed_at text → lines_of text ≡ text ∷ []
lines-one [] h = refl
lines-one (byte ∷ text) h =
    elim (byte == 10) as (λ b. length (byte ∷ text) ≤ cond (not b) (1 + feed_at text) 0
    → cond b ([] ∷ lines_of text) (in_front byte (lines_of text)) ≡ (byte ∷ text) ∷ []) [
      | true ↦ λ le. absurd (omega arith)
      | false ↦ λ le. rw (lines-one text (omega arith))
    ] h

abbrev behind_feed : List ℕ → ℕ → List ℕ
behind_feed text end = take (length text - (end + 1)) (drop (end + 1) text)

-- without a line feed there is one line
pub lines-None : (text : List ℕ) → position (λ byte. byte == 10) text ≡ None → lines_of text ≡ text ∷ []
lines-None text h =
    elim (nat_lt (feed_at text) (length text)) as
    (λ b. nat_lt (feed_at text) (length text) ≡ b → cond b (Some (feed_at text)) None ≡ None → lines_of text ≡ text ∷ []) [
      | true ↦ λ e is. absurd (cc)
      | false ↦ λ e is. lines-one text (grind (arith, nat_tests))
    ] refl h

pub lines-Some : (text : List ℕ) (end : ℕ) → position (λ byte. byte == 10) text ≡ Some end
    → lines_of text ≡ take end text ∷ lines_of (behind_feed text end)
lines-Some text end h =
    elim (nat_lt (feed_at text) (length text)) as
    (λ b. nat_lt (feed_at text) (length text) ≡ b → cond b (Some (feed_at text)) None ≡ Some end
    → lines_of text ≡ take end text ∷ lines_of (behind_feed text end)) [
      | true ↦ λ e is. let same : feed_at text ≡ end = cc in
          rw (take_rest text (end + 1))
          (subst (λ n. lines_of text ≡ take n text ∷ lines_of (drop (n + 1) text)) same (lines-cut text (grind (arith, nat_tests))))
      | false ↦ λ e is. absurd (cc)
    ] refl h
