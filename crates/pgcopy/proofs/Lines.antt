-- What a reader makes of a piece with the end of a line, and of one without.
use Rattle.std.proofs.Common.{◌≡◌, ◌≢◌, ◌+◌, ◌<◌, ◌≤◌, ℕ, suc, List, [], ◌∷◌, ◌++◌, true, false}
use Rattle.std.proofs.Common.{cond}
use Rattle.std.proofs.Common.{not, Some, None, Ok, Err, refl, ap, sym, ◌∙◌, subst, arith, take}
use Rattle.std.proofs.Common.{drop, length}
use Rattle.std.proofs.Common.{length-append, append_assoc, append-nil}
use Rattle.std.specs.Prelude.{◌==◌, nat_lt}
use Rattle.std.specs.List.{position, position_or_len}
use Rattle.std.proofs.lemmas.Bool.Decides.{nat_tests}
use Rattle.std.proofs.lemmas.List.{take_all}
use Rattle.pgtuple.specs.declared.cell.Cell.{Cell}
use Rattle.pgcopy.specs.declared.fault.Reason.{Reason}
use Rattle.pgcopy.specs.declared.fault.Reason.TheVariants.{TooLong}
use Rattle.pgcopy.specs.Rows.{row_of}
use Rattle.pgcopy.specs.Reading.{Format, Marked, Fails, ends, with_rows, is_end_marker}
use Rattle.pgcopy.specs.Reading.{next_number, newline, reading}
use Rattle.pgcopy.specs.Copied.{Copied, NoNewline, IsOpen, reading_behind, GoesOn}

pub NoNewline-append : (xs ys : List ℕ) → NoNewline xs → NoNewline ys → NoNewline (xs ++ ys)
NoNewline-append [] ys a b = b
NoNewline-append (x ∷ xs) ys a b = (a.0, NoNewline-append xs ys a.1 b)

-- ---- the first newline

abbrev pub newline_at : List ℕ → ℕ
newline_at bytes = position_or_len (λ byte. byte == 10) bytes

take-more : (byte : ℕ) (bytes : List ℕ) (n : ℕ) → take (1 + n) (byte ∷ bytes) ≡ byte ∷ take n bytes
take-more byte bytes n =
    let one : 1 + n ≡ suc n = omega arith in
    rw one refl

drop-more : (byte : ℕ) (bytes : List ℕ) (n : ℕ) → drop ((1 + n) + 1) (byte ∷ bytes) ≡ drop (n + 1) bytes
drop-more byte bytes n =
    let one : (1 + n) + 1 ≡ suc (n + 1) = omega arith in
    rw one refl

not_newline : (byte : ℕ) → (byte == 10) ≡ false → byte ≢ newline
not_newline byte e = λ is. let other : (10 == 10) ≡ false = subst (λ b. (b == 10) ≡ false) is e in cc

is_newline : (byte : ℕ) → (byte == 10) ≡ true → byte ≡ newline
is_newline byte e = grind (arith, nat_tests)

front_has_none : (bytes : List ℕ) → NoNewline (take (newline_at bytes) bytes)
front_has_none [] = tt
front_has_none (byte ∷ bytes) =
    elim (byte == 10) as (λ b. (byte == 10) ≡ b → NoNewline (take (cond (not b) (1 + newline_at bytes) 0) (byte ∷ bytes))) [
      | true ↦ λ e. tt
      | false ↦ λ e. subst NoNewline (sym (take-more byte bytes (newline_at bytes))) (not_newline byte e, front_has_none bytes)
    ] refl

cut_there : (bytes : List ℕ) → newline_at bytes < length bytes
    → bytes ≡ take (newline_at bytes) bytes ++ newline ∷ drop (newline_at bytes + 1) bytes
cut_there [] h = absurd (omega arith)
cut_there (byte ∷ bytes) h =
    elim (byte == 10) as
    (λ b. (byte == 10) ≡ b → cond (not b) (1 + newline_at bytes) 0 < length (byte ∷ bytes)
    → (byte ∷ bytes) ≡ take (cond (not b) (1 + newline_at bytes) 0) (byte ∷ bytes)
    ++ newline ∷ drop (cond (not b) (1 + newline_at bytes) 0 + 1) (byte ∷ bytes)) [
      | true ↦ λ e lt. ap (λ first. first ∷ bytes) (is_newline byte e)
      | false ↦ λ e lt.
          let n = newline_at bytes in
          rw (take-more byte bytes n, drop-more byte bytes n) (ap (λ more. byte ∷ more) (cut_there bytes (omega arith)))
    ] refl h

pub none_found : (bytes : List ℕ) → position (λ byte. byte == 10) bytes ≡ None → NoNewline bytes
none_found bytes h =
    elim (nat_lt (newline_at bytes) (length bytes)) as
    (λ b. nat_lt (newline_at bytes) (length bytes) ≡ b → cond b (Some (newline_at bytes)) None ≡ None → NoNewline bytes) [
      | true ↦ λ e is. absurd (cc)
      | false ↦ λ e is. subst NoNewline (take_all (newline_at bytes) bytes (grind (arith, nat_tests))) (front_has_none bytes)
    ] refl h

-- where the first newline stands: none is before it
pub record IsFirst (bytes : List ℕ) (end : ℕ) : Type 0 where
  pub front : NoNewline (take end bytes)
  pub whole : bytes ≡ take end bytes ++ newline ∷ drop (end + 1) bytes

pub first_found : (bytes : List ℕ) (end : ℕ) → position (λ byte. byte == 10) bytes ≡ Some end → IsFirst bytes end
first_found bytes end h =
    elim (nat_lt (newline_at bytes) (length bytes)) as
    (λ b. nat_lt (newline_at bytes) (length bytes) ≡ b → cond b (Some (newline_at bytes)) None ≡ Some end → IsFirst bytes end) [
      | true ↦ λ e is.
          let lt : newline_at bytes < length bytes = grind (arith, nat_tests) in
          let same : newline_at bytes ≡ end = cc in
          subst (IsFirst bytes) same (record { front = front_has_none bytes; whole = cut_there bytes lt })
      | false ↦ λ e is. absurd (cc)
    ] refl h

-- ---- the bytes of a line that goes on

length-one : (line bytes : List ℕ) (byte : ℕ) → length ((line ++ byte ∷ []) ++ bytes) ≡ length (line ++ byte ∷ bytes)
length-one line bytes byte = ap length (append_assoc line (byte ∷ []) bytes)

pub reading-part : (format : Format) (number : ℕ) (line part more : List ℕ) → NoNewline part
    → length (line ++ part) ≤ format.max_line
    → reading format number line (part ++ more) ≡ reading format number (line ++ part) more
unfolding reading
reading-part format number line [] more none most = rw (append-nil line) refl
reading-part format number line (byte ∷ part) more none most =
    let other : (byte == 10) ≡ false = grind (arith, nat_tests) in
    let few : nat_lt (length line) format.max_line ≡ true = grind (arith, nat_tests, length-append line (byte ∷ part)) in
    rw (other, few)
    (reading-part format number (line ++ byte ∷ []) part more none.1 (omega (arith, length-one line part byte, most))
    ∙ ap (λ it. reading format number it more) (append_assoc line (byte ∷ []) part))

pub reading-long : (format : Format) (number : ℕ) (line part more : List ℕ) → NoNewline part
    → length line ≤ format.max_line → format.max_line < length (line ++ part)
    → reading format number line (part ++ more) ≡ ends (Fails number TooLong)
unfolding reading
reading-long format number line [] more none most long = absurd (omega (arith, ap length (append-nil line), long))
reading-long format number line (byte ∷ part) more none most long =
    let other : (byte == 10) ≡ false = grind (arith, nat_tests) in
    elim (nat_lt (length line) format.max_line) as
    (λ b. nat_lt (length line) format.max_line ≡ b → reading format number line ((byte ∷ part) ++ more) ≡ ends (Fails number TooLong)) [
      | true ↦ λ few. rw (other, few)
          (reading-long format number (line ++ byte ∷ []) part more none.1
          (grind (arith, nat_tests, length-append line (byte ∷ [])))
          (omega (arith, length-one line part byte, long)))
      | false ↦ λ full. rw (other, full) refl
    ] refl

-- ---- the end of a line

pub reading-row : (format : Format) (number : ℕ) (line more : List ℕ) (row : List Cell) → is_end_marker line ≡ false
    → row_of format.columns line ≡ Ok row
    → reading format number line (newline ∷ more) ≡ with_rows (row ∷ []) (reading format (next_number number) [] more)
unfolding reading
reading-row format number line more row other e = rw (other, e) refl

pub reading-bad : (format : Format) (number : ℕ) (line more : List ℕ) (reason : Reason) → is_end_marker line ≡ false
    → row_of format.columns line ≡ Err reason → reading format number line (newline ∷ more) ≡ ends (Fails number reason)
unfolding reading
reading-bad format number line more reason other e = rw (other, e) refl

pub reading-marker : (format : Format) (number : ℕ) (line more : List ℕ) → is_end_marker line ≡ true
    → reading format number line (newline ∷ more) ≡ ends (Marked more)
unfolding reading
reading-marker format number line more marker = rw marker refl

-- ---- states

pub open_behind : (state : Copied) (bytes : List ℕ) → state.fault ≡ None → state.marked ≡ false
    → reading_behind state bytes ≡ reading state.format state.number state.held bytes
unfolding reading_behind
open_behind state bytes whole going = rw (whole, going) refl

pub marked_behind : (state : Copied) (bytes : List ℕ) → state.fault ≡ None → state.marked ≡ true
    → reading_behind state bytes ≡ ends (Marked bytes)
unfolding reading_behind
marked_behind state bytes whole marked = rw (whole, marked) refl

pub failed_behind : (state : Copied) (bytes : List ℕ) (reason : Reason) → state.fault ≡ Some reason
    → reading_behind state bytes ≡ ends (Fails state.number reason)
unfolding reading_behind
failed_behind state bytes reason failed = rw failed refl

-- ---- what a part of a line leads to

pub part_goes_on : (state : Copied) (part : List ℕ) → IsOpen state → NoNewline part
    → length (state.held ++ part) ≤ state.format.max_line → GoesOn state part [] (record state { held = state.held ++ part })
part_goes_on state part is none most = λ more.
    open_behind state (part ++ more) is.whole is.going
    ∙ reading-part state.format state.number state.held part more none most
    ∙ sym (open_behind (record state { held = state.held ++ part }) more is.whole is.going)

-- a part that is too long, with what follows it in its piece
pub long_goes_on : (state : Copied) (part behind : List ℕ) → IsOpen state → NoNewline part
    → state.format.max_line < length (state.held ++ part) → GoesOn state (part ++ behind) [] (record state { fault = Some TooLong })
long_goes_on state part behind is none long = λ more.
    open_behind state ((part ++ behind) ++ more) is.whole is.going
    ∙ ap (reading state.format state.number state.held) (append_assoc part behind more)
    ∙ reading-long state.format state.number state.held part (behind ++ more) none is.most long
    ∙ sym (failed_behind (record state { fault = Some TooLong }) more TooLong refl)

-- ---- what the end of a line leads to

take-front : (front behind : List ℕ) (byte : ℕ) → take (length front + 1) (front ++ byte ∷ behind) ≡ front ++ byte ∷ []
take-front [] behind byte = refl
take-front (first ∷ front) behind byte =
    let one : length (first ∷ front) + 1 ≡ suc (length front + 1) = omega arith in
    rw one (ap (λ more. first ∷ more) (take-front front behind byte))

whole_line : (state : Copied) (front more : List ℕ) → IsOpen state → NoNewline front
    → length (state.held ++ front) ≤ state.format.max_line
    → reading_behind state ((front ++ newline ∷ []) ++ more)
    ≡ reading state.format state.number (state.held ++ front) (newline ∷ more)
whole_line state front more is none most =
    open_behind state ((front ++ newline ∷ []) ++ more) is.whole is.going
    ∙ ap (reading state.format state.number state.held) (append_assoc front (newline ∷ []) more)
    ∙ reading-part state.format state.number state.held front (newline ∷ more) none most

pub row_goes_on : (state : Copied) (front behind : List ℕ) (row : List Cell) → IsOpen state → NoNewline front
    → length (state.held ++ front) ≤ state.format.max_line → is_end_marker (state.held ++ front) ≡ false
    → row_of state.format.columns (state.held ++ front) ≡ Ok row
    → GoesOn state (take (length front + 1) (front ++ newline ∷ behind)) (row ∷ [])
    (record state { held = []; number = next_number state.number })
row_goes_on state front behind row is none most other e = λ more.
    ap (λ taken. reading_behind state (taken ++ more)) (take-front front behind newline)
    ∙ whole_line state front more is none most
    ∙ reading-row state.format state.number (state.held ++ front) more row other e
    ∙ ap (with_rows (row ∷ [])) (sym (open_behind (record state { held = []; number = next_number state.number }) more is.whole is.going))

pub marker_goes_on : (state : Copied) (front behind : List ℕ) → IsOpen state → NoNewline front
    → length (state.held ++ front) ≤ state.format.max_line → is_end_marker (state.held ++ front) ≡ true
    → GoesOn state (take (length front + 1) (front ++ newline ∷ behind)) [] (record state { held = []; marked = true })
marker_goes_on state front behind is none most marker = λ more.
    ap (λ taken. reading_behind state (taken ++ more)) (take-front front behind newline)
    ∙ whole_line state front more is none most
    ∙ reading-marker state.format state.number (state.held ++ front) more marker
    ∙ sym (marked_behind (record state { held = []; marked = true }) more is.whole refl)

pub bad_goes_on : (state : Copied) (front behind : List ℕ) (reason : Reason) → IsOpen state → NoNewline front
    → length (state.held ++ front) ≤ state.format.max_line → is_end_marker (state.held ++ front) ≡ false
    → row_of state.format.columns (state.held ++ front) ≡ Err reason
    → GoesOn state (front ++ newline ∷ behind) [] (record state { fault = Some reason })
bad_goes_on state front behind reason is none most other e = λ more.
    ap (reading_behind state) (regrouped front behind more)
    ∙ whole_line state front (behind ++ more) is none most
    ∙ reading-bad state.format state.number (state.held ++ front) (behind ++ more) reason other e
    ∙ sym (failed_behind (record state { fault = Some reason }) more reason refl)
  where
    regrouped : (front behind more : List ℕ) → (front ++ newline ∷ behind) ++ more ≡ (front ++ newline ∷ []) ++ (behind ++ more)
    regrouped front behind more =
        append_assoc front (newline ∷ behind) more ∙ sym (append_assoc front (newline ∷ []) (behind ++ more))

-- ---- what stays as it is

pub again_failed : (state : Copied) (piece more : List ℕ) (reason : Reason) → state.fault ≡ Some reason
    → reading_behind state (piece ++ more) ≡ with_rows [] (reading_behind state more)
again_failed state piece more reason failed =
    failed_behind state (piece ++ more) reason failed ∙ sym (failed_behind state more reason failed)
