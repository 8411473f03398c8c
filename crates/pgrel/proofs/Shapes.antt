-- The test for one shape decides whether the shapes are equal.
use Rattle.std.proofs.Common.{◌≡◌, List, [], ◌∷◌, ℕ, ap, sym, ◌∙◌, refl}
use Rattle.std.specs.Prelude.{Bool, ◌&&◌, ◌||◌, ◌==◌, ◌↔◌, IsTrue, map, if◌then◌else◌}
use Rattle.std.specs.List.{list_any}
use Rattle.std.specs.Bool.{Decides}
use Rattle.std.proofs.Math.Bool.{beq}
use Rattle.std.proofs.lemmas.Bool.{and_parts, and_from}
use Rattle.std.specs.Cmp.{booleans_Decides, unsigned_Decides}
use Rattle.std.specs.Cmp.Lexicographic.{pointwise, pointwise_decides}
use Rattle.std.specs.Cmp.Derive.Mapped.{pointwise-map}
use Rattle.pgtuple.specs.declared.cell.Cell.{Cell}
use Rattle.pglogical.specs.declared.message.RelationDef.{RelationDef}
use Rattle.pglogical.specs.declared.message.Column.{Column}
use Rattle.pgrel.specs.Identity.{keyed, identity, identity_default, identity_index, key_cells}
use Rattle.pgrel.specs.Identity.{shape, same_shape, same_column}
use Rattle.pgrel.specs.Laws.{ShapeGivesIdentity}

-- what the shape has of a column
abbrev flag_and_name : Column → Bool × List ℕ
flag_and_name c = (c.key, c.name)

abbrev same_pair : Bool × List ℕ → Bool × List ℕ → Bool
same_pair p q = beq p.0 q.0 && pointwise ◌==◌ p.1 q.1

names_decide : (xs ys : List ℕ) → Decides (pointwise ◌==◌ xs ys) (xs ≡ ys)
names_decide = pointwise_decides unsigned_Decides

pairs_decide : (p q : Bool × List ℕ) → Decides (same_pair p q) (p ≡ q)
pairs_decide p q = (
  (λ e. let parts = and_parts (beq p.0 q.0) (pointwise ◌==◌ p.1 q.1) e in
      let flags : p.0 ≡ q.0 = (booleans_Decides p.0 q.0).0 parts.0 in
      let names : p.1 ≡ q.1 = (names_decide p.1 q.1).0 parts.1 in
      λ i. (flags i, names i)),
  (λ e. and_from (beq p.0 q.0) (pointwise ◌==◌ p.1 q.1) ((booleans_Decides p.0 q.0).1 (ap (λ r. r.0) e))
      ((names_decide p.1 q.1).1 (ap (λ r. r.1) e))),
)

columns_decide : (xs ys : List Column) → Decides (pointwise same_column xs ys) (map flag_and_name xs ≡ map flag_and_name ys)
columns_decide xs ys =
    let mapped : pointwise same_pair (map flag_and_name xs) (map flag_and_name ys) ≡ pointwise same_column xs ys =
    pointwise-map flag_and_name same_pair xs ys in
    let decided = pointwise_decides pairs_decide (map flag_and_name xs) (map flag_and_name ys) in
    ((λ e. decided.0 (mapped ∙ e)), (λ e. sym mapped ∙ decided.1 e))

pub shapes_decide : (a b : RelationDef) → IsTrue (same_shape a b) ↔ (shape a ≡ shape b)
shapes_decide a b = (
  (λ e. let parts = and_parts (a.letter == b.letter) (pointwise same_column a.columns b.columns) e in
      let letters : a.letter ≡ b.letter = (unsigned_Decides a.letter b.letter).0 parts.0 in
      let columns : map flag_and_name a.columns ≡ map flag_and_name b.columns = (columns_decide a.columns b.columns).0 parts.1 in
      λ i. (letters i, columns i)),
  (λ e. and_from (a.letter == b.letter) (pointwise same_column a.columns b.columns)
      ((unsigned_Decides a.letter b.letter).1 (ap (λ s. s.0) e)) ((columns_decide a.columns b.columns).1 (ap (λ s. s.1) e))),
)

-- the key cells and the test for a key column, by what the shape has of the columns
abbrev cells_by_flags : List (Bool × List ℕ) → List Cell → List Cell
cells_by_flags [] cells = []
cells_by_flags (column ∷ columns) [] = []
cells_by_flags (column ∷ columns) (cell ∷ cells) = if column.0 then cell ∷ cells_by_flags columns cells else cells_by_flags columns cells

cells_by_shape : (columns : List Column) (cells : List Cell) → key_cells columns cells ≡ cells_by_flags (map flag_and_name columns) cells
cells_by_shape [] cells = refl
cells_by_shape (column ∷ columns) [] = refl
cells_by_shape (column ∷ columns) (cell ∷ cells) = ap (λ rest. if column.key then cell ∷ rest else rest) (cells_by_shape columns cells)

flags_by_shape : (columns : List Column)
    → list_any (λ (c : Column). c.key) columns ≡ list_any (λ (p : Bool × List ℕ). p.0) (map flag_and_name columns)
flags_by_shape [] = refl
flags_by_shape (column ∷ columns) = ap (λ rest. column.key || rest) (flags_by_shape columns)

abbrev keyed_by_shape : ℕ × List (Bool × List ℕ) → Bool
keyed_by_shape s = (s.0 == identity_default || s.0 == identity_index) && list_any (λ (p : Bool × List ℕ). p.0) s.1

keyed_from_shape : (def : RelationDef) → keyed def ≡ keyed_by_shape (shape def)
keyed_from_shape def = ap (λ any. (def.letter == identity_default || def.letter == identity_index) && any) (flags_by_shape def.columns)

abbrev identity_by_shape : ℕ × List (Bool × List ℕ) → List Cell → List Cell
identity_by_shape s row = if keyed_by_shape s then cells_by_flags s.1 row else row

identity_from_shape : (def : RelationDef) (row : List Cell) → identity def row ≡ identity_by_shape (shape def) row
identity_from_shape def row = λ i. if keyed_from_shape def i then cells_by_shape def.columns row i else row

pub shape_gives_identity : (a b : RelationDef) → shape a ≡ shape b → ShapeGivesIdentity a b
shape_gives_identity a b e = record {
  same_keyed = keyed_from_shape a ∙ ap keyed_by_shape e ∙ sym (keyed_from_shape b);
  same_identity = λ row. identity_from_shape a row ∙ ap (λ s. identity_by_shape s row) e ∙ sym (identity_from_shape b row);
}
