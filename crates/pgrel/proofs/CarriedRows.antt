-- Carried rows are within a tuple's limits.
use Rattle.std.proofs.Common.{◌≡◌, ◌≤◌, ◌+◌, ◌∙◌, List, [], ◌∷◌, ℕ, zero, suc, Option, None, Some}
use Rattle.std.proofs.Common.{Result, Ok, Err, IfOk, cond, length, take, length-take, refl, ap}
use Rattle.std.proofs.Common.{arith}
use Rattle.std.proofs.lemmas.Bool.{or_parts}
use Rattle.std.specs.Prelude.{Bool, true, false, ◌||◌, if◌then◌else◌}
use Rattle.std.specs.List.{AllByRecursion, position_from}
use Rattle.pgtuple.specs.declared.cell.Cell.{Cell}
use Rattle.pgtuple.specs.declared.cell.Cell.TheVariants.{Null}
use Rattle.pgtuple.specs.Limits.{IsCell, IsTuple}
use Rattle.pglogical.specs.declared.message.Column.{Column}
use Rattle.pgrel.specs.Identity.{is_unchanged, has_unchanged}
use Rattle.pgrel.specs.Carried.{carried_cells, has_name, named_cell, placed_cell, placed_cells}
use Rattle.pgrel.specs.Carried.{places}

-- a cell for each new column
pub carried_width : (old : List Column) (cells : List Cell) (new : List Column) → length (carried_cells old cells new) ≡ length new
carried_width old cells [] = refl
carried_width old cells (c ∷ new) = ap suc (carried_width old cells new)

-- ---- a row that is whole stays whole

sent_named : (name : List ℕ) (columns : List Column) (cells : List Cell) → has_unchanged cells ≡ false
    → is_unchanged (named_cell name columns cells) ≡ false
sent_named name [] cells e = refl
sent_named name (c ∷ cs) [] e = refl
sent_named name (c ∷ cs) (cell ∷ cells) e =
    let parts = or_parts (is_unchanged cell) (has_unchanged cells) e in
    either (has_name name c) cell (named_cell name cs cells) parts.0 (sent_named name cs cells parts.1)
  where
    either : (b : Bool) (here later : Cell) → is_unchanged here ≡ false → is_unchanged later ≡ false
        → is_unchanged (if b then here else later) ≡ false
    either true here later g h = g
    either false here later g h = h

pub carried_whole : (old : List Column) (cells : List Cell) (new : List Column) → has_unchanged cells ≡ false
    → has_unchanged (carried_cells old cells new) ≡ false
carried_whole old cells [] e = refl
carried_whole old cells (c ∷ new) e =
    let here = sent_named c.name old cells e in
    let rest = carried_whole old cells new e in
    λ i. here i || rest i

-- ---- columns that are looked up once

next_cell : (cells : List Cell) (cell : Cell) (k : ℕ) → placed_cell (cell ∷ cells) (Some (k + 1)) ≡ placed_cell cells (Some k)
next_cell cells cell k = let e : k + 1 ≡ suc k = omega arith in ap (λ n. placed_cell (cell ∷ cells) (Some n)) e

place_later : (name : List ℕ) (columns : List Column) (cells : List Cell) (cell : Cell) (k : ℕ)
    → placed_cell (cell ∷ cells) (position_from (has_name name) (k + 1) columns)
    ≡ placed_cell cells (position_from (has_name name) k columns)
place_later name [] cells cell k = refl
place_later name (c ∷ cs) cells cell k = either (has_name name c) (place_later name cs cells cell (k + 1))
  where
    either : (b : Bool) → placed_cell (cell ∷ cells) (position_from (has_name name) (k + 1 + 1) cs)
        ≡ placed_cell cells (position_from (has_name name) (k + 1) cs)
        → placed_cell (cell ∷ cells) (cond b (Some (k + 1)) (position_from (has_name name) (k + 1 + 1) cs))
        ≡ placed_cell cells (cond b (Some k) (position_from (has_name name) (k + 1) cs))
    either true h = next_cell cells cell k
    either false h = h

no_cell : (place : Option ℕ) → placed_cell [] place ≡ Null
no_cell None = refl
no_cell (Some k) = refl

named_by_place : (name : List ℕ) (columns : List Column) (cells : List Cell)
    → placed_cell cells (position_from (has_name name) 0 columns) ≡ named_cell name columns cells
named_by_place name [] cells = refl
named_by_place name (c ∷ cs) [] = no_cell (position_from (has_name name) 0 (c ∷ cs))
named_by_place name (c ∷ cs) (cell ∷ cells) = either (has_name name c) (place_later name cs cells cell 0 ∙ named_by_place name cs cells)
  where
    either : (b : Bool) → placed_cell (cell ∷ cells) (position_from (has_name name) 1 cs) ≡ named_cell name cs cells
        → placed_cell (cell ∷ cells) (cond b (Some 0) (position_from (has_name name) 1 cs)) ≡ (if b then cell else named_cell name cs cells)
    either true h = refl
    either false h = h

pub carried_by_places : (old new : List Column) (cells : List Cell) → placed_cells cells (places old new) ≡ carried_cells old cells new
carried_by_places old [] cells = refl
carried_by_places old (c ∷ new) cells = λ i. named_by_place c.name old cells i ∷ carried_by_places old new cells i

-- ---- cells that are taken by index are within a tuple's limits

placed_is : (cells : List Cell) (place : Option ℕ) → AllByRecursion IsCell cells → IsCell (placed_cell cells place)
placed_is cells None h = tt
placed_is [] (Some k) h = tt
placed_is (c ∷ cs) (Some zero) h = h.0
placed_is (c ∷ cs) (Some (suc k)) h = placed_is cs (Some k) h.1

placed_are : (cells : List Cell) (ps : List (Option ℕ)) → AllByRecursion IsCell cells → AllByRecursion IsCell (placed_cells cells ps)
placed_are cells [] h = tt
placed_are cells (p ∷ ps) h = (placed_is cells p h, placed_are cells ps h)

placed_width : (cells : List Cell) (ps : List (Option ℕ)) → length (placed_cells cells ps) ≡ length ps
placed_width cells [] = refl
placed_width cells (p ∷ ps) = ap suc (placed_width cells ps)

pub placed_are_tuple : (cells : List Cell) (ps : List (Option ℕ)) (k : ℕ) → IsTuple cells → length ps ≤ 1600
    → IsTuple (placed_cells cells (take k ps))
placed_are_tuple cells ps k h most =
    let width = placed_width cells (take k ps) in
    let bound = length-take k ps in
    record { width = omega (arith, width, bound, most); each = placed_are cells (take k ps) h.each }

pub if_ok : {E : Type 0} (r : Result (List Cell) E) (a b : List Cell) → IfOk r (λ cells. cells ≡ a) → a ≡ b → IfOk r (λ cells. cells ≡ b)
if_ok (Ok cells) a b h is = h ∙ is
if_ok (Err e) a b h is = tt
