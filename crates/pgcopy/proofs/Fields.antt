-- The first field of a line.
use Rattle.std.proofs.Common.{◌≡◌, ℕ, ◌+◌, ◌≤◌, ◌<◌, List, [], ◌∷◌, true, false, cond, not, Some}
use Rattle.std.proofs.Common.{None, refl, subst, suc, ◌-◌, arith, take, drop, length}
use Rattle.std.specs.Prelude.{◌==◌, nat_lt}
use Rattle.std.specs.List.{position, position_or_len}
use Rattle.std.proofs.lemmas.Bool.Decides.{nat_tests}
use Rattle.std.proofs.lemmas.List.{take_rest}
use Rattle.pgcopy.specs.Rows.{in_front, fields_of}

abbrev tab_at : List ℕ → ℕ
tab_at line = position_or_len (λ byte. byte == 9) line

cut_at : (byte : ℕ) (line : List ℕ) (n : ℕ) → fields_of line ≡ take n line ∷ fields_of (drop (n + 1) line)
    → in_front byte (fields_of line) ≡ take (1 + n) (byte ∷ line) ∷ fields_of (drop ((1 + n) + 1) (byte ∷ line))
cut_at byte line n e =
    let one : 1 + n ≡ suc n = omega arith in
    let two : (1 + n) + 1 ≡ suc (n + 1) = omega arith in
    rw (two, one, e)

pub fields-cut : (line : List ℕ) → tab_at line < length line
    → fields_of line ≡ take (tab_at line) line ∷ fields_of (drop (tab_at line + 1) line)
fields-cut [] h = absurd (omega arith)
fields-cut (byte ∷ line) h =
    elim (byte == 9) as (λ b. cond (not b) (1 + tab_at line) 0 < length (byte ∷ line)
    → cond b ([] ∷ fields_of line) (in_front byte (fields_of line)) ≡ take (cond (not b) (1 + tab_at line) 0) (byte ∷ line)
    ∷ fields_of (drop (cond (not b) (1 + tab_at line) 0 + 1) (byte ∷ line))) [
      | true ↦ λ _. refl
      | false ↦ λ lt. cut_at byte line (tab_at line) (fields-cut line (omega arith))
    ] h

pub fields-one : (line : List ℕ) → length line ≤ tab_at line → fields_of line ≡ line ∷ []
fields-one [] h = refl
fields-one (byte ∷ line) h =
    elim (byte == 9) as (λ b. length (byte ∷ line) ≤ cond (not b) (1 + tab_at line) 0
    → cond b ([] ∷ fields_of line) (in_front byte (fields_of line)) ≡ (byte ∷ line) ∷ []) [
      | true ↦ λ le. absurd (omega arith)
      | false ↦ λ le. rw (fields-one line (omega arith))
    ] h

abbrev behind_tab : List ℕ → ℕ → List ℕ
behind_tab line end = take (length line - (end + 1)) (drop (end + 1) line)

-- without a tab there is one field
pub fields-None : (line : List ℕ) → position (λ byte. byte == 9) line ≡ None → fields_of line ≡ line ∷ []
fields-None line h =
    elim (nat_lt (tab_at line) (length line)) as
    (λ b. nat_lt (tab_at line) (length line) ≡ b → cond b (Some (tab_at line)) None ≡ None → fields_of line ≡ line ∷ []) [
      | true ↦ λ e is. absurd (cc)
      | false ↦ λ e is. fields-one line (grind (arith, nat_tests))
    ] refl h

pub fields-Some : (line : List ℕ) (end : ℕ) → position (λ byte. byte == 9) line ≡ Some end
    → fields_of line ≡ take end line ∷ fields_of (behind_tab line end)
fields-Some line end h =
    elim (nat_lt (tab_at line) (length line)) as
    (λ b. nat_lt (tab_at line) (length line) ≡ b → cond b (Some (tab_at line)) None ≡ Some end
    → fields_of line ≡ take end line ∷ fields_of (behind_tab line end)) [
      | true ↦ λ e is. let same : tab_at line ≡ end = cc in
          rw (take_rest line (end + 1))
          (subst (λ n. fields_of line ≡ take n line ∷ fields_of (drop (n + 1) line)) same (fields-cut line (grind (arith, nat_tests))))
      | false ↦ λ e is. absurd (cc)
    ] refl h
