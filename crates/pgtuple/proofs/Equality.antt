-- Cells and lists of cells that compare as equal are one.
use Rattle.std.proofs.Common.{◌≡◌, true, List, Decides, refl, ap, sym, ◌∙◌}
use Rattle.std.specs.Cmp.Lexicographic.{pointwise}
use Rattle.std.proofs.lemmas.Bool.{false≢true}
use Rattle.std.proofs.lemmas.Slice.Eq.{bytes_eq-Decides, slice_eq-Decides}
use Rattle.pgtuple.specs.declared.cell.Cell.{Cell}
use Rattle.pgtuple.specs.declared.cell.Cell.TheVariants.{Null, Unchanged, Text, Binary}
use Rattle.pgtuple.specs.Equal.{cell_eq, cell_eq_equiv}

one : (a b : Cell) → cell_eq a b ≡ true → a ≡ b
one Null Null e = refl
one Unchanged Unchanged e = refl
one (Text a) (Text b) e = ap Text ((bytes_eq-Decides a b).0 e)
one (Binary a) (Binary b) e = ap Binary ((bytes_eq-Decides a b).0 e)
one Null Unchanged e = absurd (false≢true e)
one Null (Text b) e = absurd (false≢true e)
one Null (Binary b) e = absurd (false≢true e)
one Unchanged Null e = absurd (false≢true e)
one Unchanged (Text b) e = absurd (false≢true e)
one Unchanged (Binary b) e = absurd (false≢true e)
one (Text a) Null e = absurd (false≢true e)
one (Text a) Unchanged e = absurd (false≢true e)
one (Text a) (Binary b) e = absurd (false≢true e)
one (Binary a) Null e = absurd (false≢true e)
one (Binary a) Unchanged e = absurd (false≢true e)
one (Binary a) (Text b) e = absurd (false≢true e)

pub cell_eq-Decides : (a b : Cell) → Decides (cell_eq a b) (a ≡ b)
cell_eq-Decides a b = (one a b, λ e. ap (λ (c : Cell). cell_eq a c) (sym e) ∙ cell_eq_equiv.refl a)

pub cells_eq-Decides : (a b : List Cell) → Decides (pointwise cell_eq a b) (a ≡ b)
cells_eq-Decides a b = slice_eq-Decides cell_eq-Decides a b (pointwise cell_eq a b) refl
