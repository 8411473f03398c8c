-- Rows whose missing cells are filled in from the old row.
use Rattle.std.proofs.Common.{◌≡◌, List, [], ◌∷◌, length, ap, refl, arith}
use Rattle.std.specs.Prelude.{false, ◌||◌, if◌then◌else◌}
use Rattle.std.proofs.lemmas.Bool.{or_parts}
use Rattle.pgtuple.specs.declared.cell.Cell.{Cell}
use Rattle.pgtuple.specs.declared.cell.Cell.TheVariants.{Null, Unchanged, Text, Binary}
use Rattle.pgrel.specs.Identity.{is_unchanged, has_unchanged, resolved}

pub resolved_width : (new old : List Cell) → length (resolved new old) ≡ length new
resolved_width [] old = refl
resolved_width (cell ∷ cells) [] = refl
resolved_width (cell ∷ cells) (old ∷ olds) = let rest = resolved_width cells olds in omega (arith, rest)

-- the cell that stands in the new row
filled : (cell old : Cell) → is_unchanged old ≡ false → is_unchanged (if is_unchanged cell then old else cell) ≡ false
filled Null old e = refl
filled Unchanged old e = e
filled (Text bytes) old e = refl
filled (Binary bytes) old e = refl

pub resolved_whole : (new old : List Cell) → length new ≡ length old → has_unchanged old ≡ false → has_unchanged (resolved new old) ≡ false
resolved_whole [] old w e = refl
resolved_whole (cell ∷ cells) [] w e = absurd (omega arith)
resolved_whole (cell ∷ cells) (old ∷ olds) w e =
    let parts = or_parts (is_unchanged old) (has_unchanged olds) e in
    let here : is_unchanged (if is_unchanged cell then old else cell) ≡ false = filled cell old parts.0 in
    let rest : has_unchanged (resolved cells olds) ≡ false = resolved_whole cells olds (omega arith) parts.1 in
    λ i. here i || rest i

kept : (cell old : Cell) → is_unchanged cell ≡ false → (if is_unchanged cell then old else cell) ≡ cell
kept cell old e = ap (λ b. if b then old else cell) e

pub sent_stays : (new old : List Cell) → has_unchanged new ≡ false → resolved new old ≡ new
sent_stays [] old e = refl
sent_stays (cell ∷ cells) [] e = refl
sent_stays (cell ∷ cells) (old ∷ olds) e =
    let parts = or_parts (is_unchanged cell) (has_unchanged cells) e in
    let here : (if is_unchanged cell then old else cell) ≡ cell = kept cell old parts.0 in
    let rest : resolved cells olds ≡ cells = sent_stays cells olds parts.1 in
    λ i. here i ∷ rest i
