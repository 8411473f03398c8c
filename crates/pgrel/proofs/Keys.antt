-- When a table is keyed, and how many cells an identity has.
use Rattle.std.proofs.Common.{◌≡◌, ◌≤◌, ◌+◌, List, [], ◌∷◌, ℕ, length, ap, sym, ◌∙◌, refl, arith}
use Rattle.std.proofs.Common.{inl, inr}
use Rattle.std.specs.Prelude.{Bool, true, false, ◌&&◌, ◌||◌, ◌==◌, ◌↔◌, ◌⊎◌, IsTrue, count_by}
use Rattle.std.specs.Prelude.{if◌then◌else◌}
use Rattle.std.specs.List.{list_any}
use Rattle.std.specs.Cmp.{unsigned_Decides}
use Rattle.std.proofs.lemmas.Bool.{and_parts, and_from, or_cases}
use Rattle.std.proofs.lemmas.List.Folds.{Any-from_list_any, list_any-from_Any}
use Rattle.std.proofs.lemmas.List.Sums.{sum_by-append}
use Rattle.pgtuple.specs.declared.cell.Cell.{Cell}
use Rattle.pglogical.specs.declared.message.RelationDef.{RelationDef}
use Rattle.pglogical.specs.declared.message.Column.{Column}
use Rattle.pgrel.specs.Identity.{keyed, IsKeyed, identity, identity_default, identity_index}
use Rattle.pgrel.specs.Identity.{identity_full, key_cells}

abbrev is_key : Column → Bool
is_key c = c.key

or_from : (x y : Bool) → (x ≡ true) ⊎ (y ≡ true) → IsTrue (x || y)
or_from true y h = refl
or_from false y (inl e) = absurd (cc)
or_from false y (inr e) = e

letters : (n : ℕ) → (n == identity_default ≡ true) ⊎ (n == identity_index ≡ true) → (n ≡ identity_default) ⊎ (n ≡ identity_index)
letters n (inl e) = inl ((unsigned_Decides n identity_default).0 e)
letters n (inr e) = inr ((unsigned_Decides n identity_index).0 e)

letter_tests : (n : ℕ) → (n ≡ identity_default) ⊎ (n ≡ identity_index) → (n == identity_default ≡ true) ⊎ (n == identity_index ≡ true)
letter_tests n (inl e) = inl ((unsigned_Decides n identity_default).1 e)
letter_tests n (inr e) = inr ((unsigned_Decides n identity_index).1 e)

pub keyed_means : (def : RelationDef) → IsTrue (keyed def) ↔ IsKeyed def
keyed_means def =
    let test : Bool = def.letter == identity_default || def.letter == identity_index in (
      (λ e. let parts = and_parts test (list_any is_key def.columns) e in
          record {
            by_key_or_index = letters def.letter (or_cases (def.letter == identity_default) (def.letter == identity_index) parts.0);
            has_key_column = Any-from_list_any is_key def.columns parts.1;
          }),
      (λ h. and_from test (list_any is_key def.columns)
          (or_from (def.letter == identity_default) (def.letter == identity_index) (letter_tests def.letter h.by_key_or_index))
          (list_any-from_Any is_key def.columns h.has_key_column)),
    )

pub full_never_keyed : (def : RelationDef) → def.letter ≡ identity_full → keyed def ≡ false
full_never_keyed def e = ap (λ n. (n == identity_default || n == identity_index) && list_any is_key def.columns) e

pub key_cells_bound : (columns : List Column) (cells : List Cell) → length (key_cells columns cells) ≤ length cells
key_cells_bound [] cells = omega arith
key_cells_bound (column ∷ columns) [] = omega arith
key_cells_bound (column ∷ columns) (cell ∷ cells) =
    let rest = key_cells_bound columns cells in
    elim column.key as (λ b. length (if b then cell ∷ key_cells columns cells else key_cells columns cells) ≤ length (cell ∷ cells)) [
      | true ↦ omega (arith, rest)
      | false ↦ omega (arith, rest)
    ]

pub identity_bound : (def : RelationDef) (row : List Cell) → length (identity def row) ≤ length row
identity_bound def row =
    elim (keyed def) as (λ b. length (if b then key_cells def.columns row else row) ≤ length row) [
      | true ↦ key_cells_bound def.columns row
      | false ↦ omega arith
    ]

-- one more column
more_columns : (column : Column) (columns : List Column)
    → count_by is_key (column ∷ columns) ≡ (if column.key then 1 else 0) + count_by is_key columns
more_columns column columns = let split = sum_by-append (λ c. if is_key c then 1 else 0) (column ∷ []) columns in omega (arith, split)

key_cells_count : (columns : List Column) (cells : List Cell) → length cells ≡ length columns
    → length (key_cells columns cells) ≡ count_by is_key columns
key_cells_count [] cells e = refl
key_cells_count (column ∷ columns) [] e = absurd (omega arith)
key_cells_count (column ∷ columns) (cell ∷ cells) e =
    let rest = key_cells_count columns cells (omega arith) in
    let counted : length (if column.key then cell ∷ key_cells columns cells else key_cells columns cells) ≡ (if column.key then 1 else 0)
    + count_by is_key columns =
    elim column.key as (λ b. length (if b then cell ∷ key_cells columns cells else key_cells columns cells) ≡ (if b then 1 else 0)
    + count_by is_key columns) [
      | true ↦ omega (arith, rest)
      | false ↦ omega (arith, rest)
    ] in
    counted ∙ sym (more_columns column columns)

pub key_count : (def : RelationDef) (row : List Cell) → IsTrue (keyed def) → length row ≡ length def.columns
    → length (identity def row) ≡ count_by (λ (c : Column). c.key) def.columns
key_count def row e w = ap (λ b. length (if b then key_cells def.columns row else row)) e ∙ key_cells_count def.columns row w

pub bag_identity : (def : RelationDef) (row : List Cell) → keyed def ≡ false → identity def row ≡ row
bag_identity def row e = ap (λ b. if b then key_cells def.columns row else row) e
