-- The rows that a change finds where its relation comes with another shape.
use Rattle.std.proofs.Common.{◌≡◌, ℕ, List, [], ◌∷◌, map, Bool, true, false, Some, Ok, refl, sym}
use Rattle.std.proofs.Common.{ap, ◌∙◌}
use Rattle.std.specs.Prelude.{◌||◌, ◌==◌, if◌then◌else◌}
use Rattle.std.specs.FinMap as finite
use Rattle.std.proofs.lemmas.Bool.{eqb-true}
use Rattle.std.specs.FinMap.{empty_of_len}
use Rattle.pgtuple.specs.declared.cell.Cell.{Cell}
use Rattle.pglogical.specs.declared.message.Column.{Column}
use Rattle.pglogical.specs.declared.message.RelationDef.{RelationDef}
use Rattle.pgrel.specs.Identity.{same_shape}
use Rattle.pgrel.specs.Carried.{has_name, named_cell, carried_cells}
use Rattle.pgapply.specs.declared.op.Op.{Op}
use Rattle.pgapply.specs.declared.op.Op.TheVariants.{Insert, Update, Delete, Truncate}
use Rattle.pgapply.specs.Value.{Row, Rows, Table, identity_key}
use Rattle.pgapply.specs.Apply.{◌>>=◌, joined, carry_row, carry_rows, carried_for, found_rows}
use Rattle.pgapply.specs.Apply.{is_truncate}
use Rattle.pgapply.proofs.DumpRows.{no_rows}

abbrev pub flags_and_names : List Column → List (Bool × List ℕ)
flags_and_names columns = map (λ (c : Column). (c.key, c.name)) columns

-- ---- what is carried depends on the old names alone

head_same : {A : Type 0} (x y : A) (xs ys : List A) → ◌≡◌ {A = List A} (x ∷ xs) (y ∷ ys) → x ≡ y
head_same x y xs ys e = cc

rest_same : {A : Type 0} (x y : A) (xs ys : List A) → ◌≡◌ {A = List A} (x ∷ xs) (y ∷ ys) → xs ≡ ys
rest_same x y xs ys e = cc

named_alike : (name : List ℕ) (a b : List Column) (cells : List Cell) → flags_and_names a ≡ flags_and_names b
    → named_cell name a cells ≡ named_cell name b cells
named_alike name [] [] cells e = refl
named_alike name [] (y ∷ b) cells e = absurd (cc)
named_alike name (x ∷ a) [] cells e = absurd (cc)
named_alike name (x ∷ a) (y ∷ b) [] e = refl
named_alike name (x ∷ a) (y ∷ b) (cell ∷ cells) e =
    let first = head_same _ _ _ _ e in
    let rest = rest_same _ _ _ _ e in
    let same : x.name ≡ y.name = ap (λ p. p.1) first in
    λ i. if has_name name (record { key = x.key; name = same i; type_oid = x.type_oid; modifier = x.modifier }) then cell
    else named_alike name a b cells rest i

cells_alike : (a b : List Column) (cells : List Cell) (new : List Column) → flags_and_names a ≡ flags_and_names b
    → carried_cells a cells new ≡ carried_cells b cells new
cells_alike a b cells [] e = refl
cells_alike a b cells (c ∷ new) e = λ i. named_alike c.name a b cells e i ∷ cells_alike a b cells new e i

module _ (a b new : RelationDef) (same : flags_and_names a.columns ≡ flags_and_names b.columns) where
  row_alike : (row : Row) (rows : Rows) → carry_row a new row rows ≡ carry_row b new row rows
  row_alike row rows = ap (λ cells.
      joined new (record { cells = cells; copies = row.copies }) rows (finite.get rows (identity_key new cells)))
      (cells_alike a.columns b.columns row.cells new.columns same)

  pub carry_alike : (entries : List (List ℕ × Row)) (rows : Rows) → carry_rows a new entries rows ≡ carry_rows b new entries rows
  unfolding carry_rows
  carry_alike [] rows = refl
  carry_alike (entry ∷ more) rows = λ i. row_alike entry.1 rows i >>= λ next. carry_alike more next i

-- ---- what is found

pub carry_none : (old new : RelationDef) (rows : Rows) → carry_rows old new [] rows ≡ Ok rows
unfolding carry_rows
carry_none old new rows = refl

pub carry_first : (old new : RelationDef) (entry : List ℕ × Row) (more : List (List ℕ × Row)) (rows : Rows)
    → carry_rows old new (entry ∷ more) rows ≡ (carry_row old new entry.1 rows >>= carry_rows old new more)
unfolding carry_rows
carry_first old new entry more rows = refl

-- a truncation carries nothing, and each other change all rows
pub carried_not : (table : Table) (def : RelationDef) (op : Op) → is_truncate op ≡ true → carried_for table def op ≡ Ok finite.empty
carried_not table def (Insert row) e = absurd (cc)
carried_not table def (Update prior row) e = absurd (cc)
carried_not table def (Delete kind row) e = absurd (cc)
carried_not table def Truncate e = refl

pub carried_whole : (table : Table) (def : RelationDef) (op : Op) → is_truncate op ≡ false
    → carried_for table def op ≡ carry_rows table.definition def (finite.entries table.rows) finite.empty
carried_whole table def (Insert row) e = refl
carried_whole table def (Update prior row) e = refl
carried_whole table def (Delete kind row) e = refl
carried_whole table def Truncate e = absurd (cc)

nothing_carried : (table : Table) (def : RelationDef) (op : Op) → table.rows ≡ finite.empty → carried_for table def op ≡ Ok finite.empty
nothing_carried table def op none = go (is_truncate op) refl
  where
    go : (b : Bool) → is_truncate op ≡ b → carried_for table def op ≡ Ok finite.empty
    go true e = carried_not table def op e
    go false e = carried_whole table def op e
        ∙ ap (λ es. carry_rows table.definition def es finite.empty) (ap finite.entries none ∙ no_rows)
        ∙ carry_none table.definition def finite.empty

pub found_changed : (table : Table) (def : RelationDef) (op : Op) → same_shape table.definition def ≡ false
    → found_rows (Some table) def op ≡ carried_for table def op
found_changed table def op other =
    ap (λ b. if b || finite.len table.rows == 0 then Ok table.rows else carried_for table def op) other
    ∙ go (finite.len table.rows == 0) refl
  where
    go : (b : Bool) → (finite.len table.rows == 0) ≡ b → (if b then Ok table.rows else carried_for table def op) ≡ carried_for table def op
    go true e = let none = empty_of_len table.rows (eqb-true (finite.len table.rows) 0 e) in
        ap Ok none ∙ sym (nothing_carried table def op none)
    go false e = refl
