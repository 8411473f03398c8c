-- The copies of rows that are carried over add up.
use Rattle.std.proofs.Common.{◌≡◌, ◌+◌, ℕ, List, [], ◌∷◌, false, cond, Option, Some, None, Ok, refl}
use Rattle.std.proofs.Common.{sym, ap, ◌∙◌, inl, inr, arith}
use Rattle.std.specs.Prelude.{if◌then◌else◌, nat_lt, ◌&&◌}
use Rattle.std.specs.Ordering.{nat_cmp, eq_by_cmp}
use Rattle.std.specs.Cmp.Lexicographic.{slice_cmp, nat_list_cmp_total}
use Rattle.std.specs.FinMap as map
use Rattle.std.specs.FinMap.{get-empty, get-insert}
use Rattle.std.proofs.lemmas.Bool.{cases_Bool}
use Rattle.pglogical.specs.declared.message.RelationDef.{RelationDef}
use Rattle.pgrel.specs.Identity.{keyed, same_shape}
use Rattle.pgapply.specs.declared.op.Op.{Op}
use Rattle.pgapply.specs.Value.{Row, Rows, Table, identity_key, most_copies}
use Rattle.pgapply.specs.Apply.{joined, moved, carry_row, carry_rows, found_rows, is_truncate}
use Rattle.pgapply.specs.CarriedCopies.{copies_of, copies_at, copies_to}
use Rattle.pgapply.proofs.KeepsForm.{same_ok, same_place, refused, went_on}
use Rattle.pgapply.proofs.ChangedShapes.{found_changed, carried_whole}

-- a row is put in place of the one that has its identity
put_adds : (rows : Rows) (key : List ℕ) (new : Row) (n : ℕ) → new.copies ≡ copies_at rows key + n → (place : List ℕ)
    → copies_at (map.insert rows key new) place ≡ copies_at rows place + (if eq_by_cmp (slice_cmp nat_cmp) place key then n else 0)
put_adds rows key new n is place =
    ap copies_of (get-insert nat_list_cmp_total rows key new place) ∙ elim (cases_Bool (eq_by_cmp (slice_cmp nat_cmp) place key)) [
      | inl same ↦
          ap (λ b. copies_of (cond b (Some new) (map.get rows place))) same ∙ is
          ∙ ap (λ q. copies_at rows q + n) (sym (same_place place key same))
          ∙ ap (λ b. copies_at rows place + (if b then n else 0)) (sym same)
      | inr other ↦
          let none : copies_at rows place ≡ copies_at rows place + 0 = omega arith in
          ap (λ b. copies_of (cond b (Some new) (map.get rows place))) other ∙ none
          ∙ ap (λ b. copies_at rows place + (if b then n else 0)) (sym other)
    ]

pub joined_adds : (def : RelationDef) (row : Row) (rows next : Rows) (there : Option Row)
    → map.get rows (identity_key def row.cells) ≡ there → joined def row rows there ≡ Ok next → (place : List ℕ)
    → copies_at next place ≡ copies_at rows place
    + (if eq_by_cmp (slice_cmp nat_cmp) place (identity_key def row.cells) then row.copies else 0)
joined_adds def row rows next None at e place =
    let one = refused (keyed def && nat_lt 1 row.copies) _ _ next e in
    let first : row.copies ≡ 0 + row.copies = omega arith in
    ap (λ m. copies_at m place) (sym (same_ok one.1))
    ∙ put_adds rows (identity_key def row.cells) row row.copies (first ∙ ap (λ o. copies_of o + row.copies) (sym at)) place
joined_adds def row rows next (Some other) at e place =
    let bag = refused (keyed def) _ _ next e in
    let sum = refused (nat_lt most_copies (other.copies + row.copies)) _ _ next bag.1 in
    ap (λ m. copies_at m place) (sym (same_ok sum.1))
    ∙ put_adds rows (identity_key def row.cells) (record { cells = row.cells; copies = other.copies + row.copies }) row.copies
    (ap (λ o. copies_of o + row.copies) (sym at)) place

carry_adds : (old new : RelationDef) (entries : List (List ℕ × Row)) (rows next : Rows) → carry_rows old new entries rows ≡ Ok next
    → (place : List ℕ) → copies_at next place ≡ copies_at rows place + copies_to old new place entries
unfolding carry_rows
carry_adds old new [] rows next e place =
    let none : copies_at rows place ≡ copies_at rows place + 0 = omega arith in
    ap (λ m. copies_at m place) (sym (same_ok e)) ∙ none
carry_adds old new (entry ∷ more) rows next e place =
    let s = went_on (carry_row old new entry.1 rows) (carry_rows old new more) next e in
    let here = joined_adds new (moved old new entry.1) rows s.0 _ refl s.1 place in
    let later = carry_adds old new more s.0 next s.2 place in
    omega (arith, here, later)

pub copies_add_up : (table : Table) (new : RelationDef) (op : Op) (rows : Rows) → same_shape table.definition new ≡ false
    → is_truncate op ≡ false → found_rows (Some table) new op ≡ Ok rows
    → (place : List ℕ) → copies_at rows place ≡ copies_to table.definition new place (map.entries table.rows)
copies_add_up table new op rows other stays e place =
    let carried = sym (found_changed table new op other ∙ carried_whole table new op stays) ∙ e in
    let sum = carry_adds table.definition new (map.entries table.rows) map.empty rows carried place in
    let none : copies_at map.empty place ≡ 0 = ap copies_of (get-empty (slice_cmp nat_cmp) place) in
    omega (arith, sum, none)
