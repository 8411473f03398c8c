-- A line decodes where it is an even number of hexadecimal digits.
use Rattle.std.proofs.Common.{◌≡◌, ◌%◌, ℕ, ◌-◌, List, [], ◌∷◌, length, true, false, Some, None}
use Rattle.std.proofs.Common.{refl, sym, ◌∙◌}
use Rattle.std.specs.Prelude.{Bool, ◌||◌, ◌&&◌, nat_le, ◌↔◌, IsOk, IsTrue, Ok, Err, Result, is_some}
use Rattle.std.specs.Prelude.{if◌then◌else◌}
use Rattle.std.specs.Char.{is_ascii_hexdigit}
use Rattle.std.specs.List.{list_all}
use Rattle.std.proofs.lemmas.List.Sums.{AllPass-from_list_all, list_all-from_AllPass}
use Rattle.hex.specs.Hex.{decode_of, is_hex_digit}
use Rattle.hex.specs.declared.error.FromHexError.{FromHexError}
use Rattle.hex.proofs.HexLemmas.{decode_of-ok, decode_of-digits}

-- a digit is in one of three ranges, in whichever order they are tried
same_ranges : (digit upper lower : Bool) (x y z : ℕ)
    → ((digit || upper) || lower) ≡ is_some (if upper then Some x else if lower then Some y else if digit then Some z else None)
same_ranges true true true x y z = refl
same_ranges true true false x y z = refl
same_ranges true false true x y z = refl
same_ranges true false false x y z = refl
same_ranges false true true x y z = refl
same_ranges false true false x y z = refl
same_ranges false false true x y z = refl
same_ranges false false false x y z = refl

abbrev within : ℕ → ℕ → ℕ → Bool
within low high c = nat_le low c && nat_le c high

same_digits : (c : ℕ) → is_ascii_hexdigit c ≡ is_hex_digit c
same_digits c = same_ranges (within 48 57 c) (within 65 70 c) (within 97 102 c) (c - 55) (c - 87) (c - 48)

same_lines : (line : List ℕ) → list_all is_ascii_hexdigit line ≡ list_all is_hex_digit line
same_lines [] = refl
same_lines (c ∷ line) = rw (same_digits c, same_lines line) refl

ok_value : (r : Result (List ℕ) FromHexError) → IsOk r → (bytes : List ℕ) × (r ≡ Ok bytes)
ok_value (Ok bytes) h = (bytes, refl)
ok_value (Err e) h = cc h

-- all digits, of an even number
pub decodes-even : (line : List ℕ) → length line % 2 ≡ 0 → IsTrue (list_all is_ascii_hexdigit line) ↔ IsOk (decode_of line)
decodes-even line even = (
  λ all.
      let digits : list_all is_hex_digit line ≡ true = sym (same_lines line) ∙ all in
      let r = decode_of-digits line even (AllPass-from_list_all is_hex_digit line digits) in
      rw (r.1) refl,
  λ ok.
      let r = ok_value (decode_of line) ok in
      same_lines line ∙ list_all-from_AllPass is_hex_digit line (decode_of-ok line r.0 r.1).1,
)
