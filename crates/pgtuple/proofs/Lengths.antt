-- How long spellings are.
use Rattle.std.proofs.Common.{◌≡◌, ℕ, zero, suc, ◌*◌, ◌≤◌, List, [], ◌∷◌, length, take, ap, arith}
use Rattle.std.specs.List.{flat_map, AllByRecursion}
use Rattle.std.proofs.lemmas.List.{length-append, take_all}
use Rattle.std.proofs.lemmas.List.Concat.{flat_map-cons}
use Rattle.pgtuple.specs.declared.cell.Cell.{Cell}
use Rattle.pgtuple.specs.declared.cell.Cell.TheVariants.{Null, Unchanged, Text, Binary}
use Rattle.pgtuple.specs.Limits.{IsCell, IsTuple}
use Rattle.pgtuple.specs.Cells.{cell_spelling}

pub cell_bounded : (c : Cell) → IsCell c → length (cell_spelling c) ≤ 2147483652
cell_bounded Null fits = omega arith
cell_bounded Unchanged fits = omega arith
cell_bounded (Text bytes) fits = omega arith
cell_bounded (Binary bytes) fits = omega arith

pub cells_bounded : (cells : List Cell) (n : ℕ) → AllByRecursion IsCell cells
    → length (flat_map cell_spelling (take n cells)) ≤ length cells * 2147483652
cells_bounded cells zero fits = omega arith
cells_bounded [] (suc n) fits = omega arith
cells_bounded (c ∷ cells) (suc n) fits =
    omega (
      arith,
      cell_bounded c fits.0,
      cells_bounded cells n fits.1,
      length-append (cell_spelling c) (flat_map cell_spelling (take n cells)),
      ap length (flat_map-cons cell_spelling c (take n cells)),
    )

pub tuple_bounded : (cells : List Cell) → IsTuple cells → length (flat_map cell_spelling cells) ≤ 3435973843200
tuple_bounded cells fits =
    let whole : take (length cells) cells ≡ cells = take_all (length cells) cells (omega arith) in
    let width : length cells ≤ 1600 = fits.width in
    omega (arith, cells_bounded cells (length cells) fits.each, ap (λ (l : List Cell). length (flat_map cell_spelling l)) whole)

-- what a loop over the cells has so far
pub front_bounded : (cells : List Cell) (n : ℕ) → IsTuple cells → length (flat_map cell_spelling (take n cells)) ≤ 3435973843200
front_bounded cells n fits =
    let width : length cells ≤ 1600 = fits.width in
    omega (arith, cells_bounded cells n fits.each)
