-- The cells of a row, from its front on.
use Rattle.std.proofs.Common.{◌≡◌, ◌+◌, ◌-◌, ◌<◌, ◌≤◌, ℕ, zero, suc, List, [], ◌∷◌, ◌++◌, refl, ap}
use Rattle.std.proofs.Common.{sym, ◌∙◌}
use Rattle.std.proofs.Common.{Result, Ok, Err, arith, append_assoc, append-nil, true, false, cond}
use Rattle.std.proofs.Common.{length}
use Rattle.std.proofs.Common.{Option, Some, None, Bor}
use Rattle.std.specs.Prelude.{is_some, option_copied}
use Rattle.std.specs.Prelude.{◌==◌}
use Rattle.pgtuple.specs.declared.cell.Cell.{Cell}
use Rattle.pgcopy.specs.declared.fault.Reason.{Reason}
use Rattle.pgcopy.specs.declared.fault.Reason.TheVariants.{MissingColumn, ExtraColumn}
use Rattle.pgcopy.specs.declared.fault.RowFault.{RowFault}
use Rattle.pgcopy.specs.declared.fault.RowFault.TheVariants.{Bad, Memory}
use Rattle.pgcopy.specs.Read.{IsFault}
use Rattle.pgcopy.specs.Rows.{◌>>=◌, tab, in_front, fields_of, fields_behind, cell_of, cells_of}

-- cells in front of those that are still to be read
abbrev pub with_cells : List Cell → Result (List Cell) Reason → Result (List Cell) Reason
with_cells front (Ok cells) = Ok (front ++ cells)
with_cells front (Err reason) = Err reason

pub with_cells-nil : (read : Result (List Cell) Reason) → with_cells [] read ≡ read
with_cells-nil (Ok cells) = refl
with_cells-nil (Err reason) = refl

with_cells-push : (front : List Cell) (cell : Cell) (read : Result (List Cell) Reason)
    → with_cells (front ++ cell ∷ []) read ≡ with_cells front (read >>= λ cells. Ok (cell ∷ cells))
with_cells-push front cell (Ok cells) = ap (λ all. Ok all) (append_assoc front (cell ∷ []) cells)
with_cells-push front cell (Err reason) = refl

-- a cell more
pub cells-more : (columns : ℕ) (front : List Cell) (field : List ℕ) (fields : List (List ℕ)) (cell : Cell) → cell_of field ≡ Ok cell
    → with_cells front (cells_of (suc columns) (field ∷ fields)) ≡ with_cells (front ++ cell ∷ []) (cells_of columns fields)
unfolding cells_of
cells-more columns front field fields cell e = rw e (sym (with_cells-push front cell (cells_of columns fields)))

-- a field that is no cell
pub cells-bad : (columns : ℕ) (front : List Cell) (field : List ℕ) (fields : List (List ℕ)) (reason : Reason) → cell_of field ≡ Err reason
    → with_cells front (cells_of (suc columns) (field ∷ fields)) ≡ Err reason
unfolding cells_of
cells-bad columns front field fields reason e = rw e refl

pub cells-missing : (columns : ℕ) (front : List Cell) → with_cells front (cells_of (suc columns) []) ≡ Err MissingColumn
unfolding cells_of
cells-missing columns front = refl

pub cells-extra : (front : List Cell) (field : List ℕ) (fields : List (List ℕ))
    → with_cells front (cells_of 0 (field ∷ fields)) ≡ Err ExtraColumn
unfolding cells_of
cells-extra front field fields = refl

pub cells-all : (front : List Cell) → with_cells front (cells_of 0 []) ≡ Ok front
unfolding cells_of
cells-all front = ap (λ all. Ok all) (append-nil front)

-- ---- the cells so far, and those of the fields that are left

pub goes_on : (front : List Cell) (columns i : ℕ) (fields others : List (List ℕ)) (field : List ℕ) (cell : Cell)
    (whole : Result (List Cell) Reason) → i < columns → fields ≡ field ∷ others → cell_of field ≡ Ok cell
    → with_cells front (cells_of (columns - i) fields) ≡ whole
    → with_cells (front ++ cell ∷ []) (cells_of (columns - (i + 1)) others) ≡ whole
goes_on front columns i fields others field cell whole lt e h so_far =
    let k : columns - i ≡ suc (columns - (i + 1)) = omega arith in
    let one : with_cells front (cells_of (columns - i) fields) ≡ with_cells (front ++ cell ∷ []) (cells_of (columns - (i + 1)) others) =
    rw (k, e) (cells-more (columns - (i + 1)) front field others cell h) in
    sym one ∙ so_far

pub ends_bad : (fault : RowFault) (front : List Cell) (columns i : ℕ) (fields others : List (List ℕ)) (field : List ℕ)
    (whole : Result (List Cell) Reason) → i < columns → fields ≡ field ∷ others → IsFault fault (cell_of field)
    → with_cells front (cells_of (columns - i) fields) ≡ whole → IsFault fault whole
ends_bad Memory front columns i fields others field whole lt e h so_far = tt
ends_bad (Bad reason) front columns i fields others field whole lt e h so_far =
    let k : columns - i ≡ suc (columns - (i + 1)) = omega arith in
    let one : with_cells front (cells_of (columns - i) fields) ≡ Err reason =
    rw (k, e) (cells-bad (columns - (i + 1)) front field others reason h) in
    sym so_far ∙ one

pub ends_missing : (front : List Cell) (columns i : ℕ) (fields : List (List ℕ)) (whole : Result (List Cell) Reason) → i < columns
    → fields ≡ [] → with_cells front (cells_of (columns - i) fields) ≡ whole → whole ≡ Err MissingColumn
ends_missing front columns i fields whole lt e so_far =
    let k : columns - i ≡ suc (columns - (i + 1)) = omega arith in
    let one : with_cells front (cells_of (columns - i) fields) ≡ Err MissingColumn = rw (k, e) (cells-missing (columns - (i + 1)) front) in
    sym so_far ∙ one

-- a line has a field
some_field : (line : List ℕ) → (field : List ℕ) × (others : List (List ℕ)) × (fields_of line ≡ field ∷ others)
some_field [] = ([], [], refl)
some_field (byte ∷ line) = elim (byte == tab) as
    (λ b. (field : List ℕ) × (others : List (List ℕ))
    × (cond b ([] ∷ fields_of line) (in_front byte (fields_of line)) ≡ field ∷ others)) [
      | true ↦ ([], fields_of line, refl)
      | false ↦ let it = some_field line in (byte ∷ it.0, it.1, ap (in_front byte) it.2)
    ]

pub ends_extra : (front : List Cell) (columns i : ℕ) (fields : List (List ℕ)) (line : List ℕ) (whole : Result (List Cell) Reason)
    → columns ≤ i
    → fields ≡ fields_of line → with_cells front (cells_of (columns - i) fields) ≡ whole → whole ≡ Err ExtraColumn
ends_extra front columns i fields line whole le same so_far =
    let k : columns - i ≡ 0 = omega arith in
    let it = some_field line in
    let e : fields ≡ it.0 ∷ it.1 = same ∙ it.2 in
    let one : with_cells front (cells_of (columns - i) fields) ≡ Err ExtraColumn = rw (k, e) (cells-extra front it.0 it.1) in
    sym so_far ∙ one

pub is_done : (front : List Cell) (columns i : ℕ) (fields : List (List ℕ)) (whole : Result (List Cell) Reason) → columns ≤ i
    → fields ≡ [] → with_cells front (cells_of (columns - i) fields) ≡ whole → whole ≡ Ok front
is_done front columns i fields whole le e so_far =
    let k : columns - i ≡ 0 = omega arith in
    let one : with_cells front (cells_of (columns - i) fields) ≡ Ok front = rw (k, e) (cells-all front) in
    sym so_far ∙ one

pub starts : (columns : ℕ) (fields others : List (List ℕ)) → fields ≡ others
    → with_cells [] (cells_of (columns - 0) fields) ≡ cells_of columns others
starts columns fields others e =
    let k : columns - 0 ≡ columns = omega arith in
    rw (k, e) (with_cells-nil (cells_of columns others))

-- ---- whether fields are left

pub some_behind : (rest : Option (Bor (List ℕ))) → is_some rest ≡ true
    → (line : List ℕ) × (fields_behind (option_copied rest) ≡ fields_of line)
some_behind None e = absurd (cc)
some_behind (Some line) e = (line.now, refl)

pub none_behind : (rest : Option (Bor (List ℕ))) → is_some rest ≡ false → fields_behind (option_copied rest) ≡ []
none_behind None e = refl
none_behind (Some line) e = absurd (cc)

-- ---- the width of a row

bind_ok : {A B : Type 0} (read : Result A Reason) (f : A → Result B Reason) (y : B) → (read >>= f) ≡ Ok y
    → (x : A) × (read ≡ Ok x) × (f x ≡ Ok y)
bind_ok (Ok x) f y e = (x, refl, e)
bind_ok (Err reason) f y e = absurd (cc)

pub cells_width : (columns : ℕ) (fields : List (List ℕ)) (cells : List Cell) → cells_of columns fields ≡ Ok cells → length cells ≡ columns
unfolding cells_of
cells_width zero [] cells e = let none : cells ≡ [] = cc in rw none refl
cells_width zero (field ∷ fields) cells e = absurd (cc)
cells_width (suc columns) [] cells e = absurd (cc)
cells_width (suc columns) (field ∷ fields) cells e =
    let first = bind_ok (cell_of field) (λ cell. cells_of columns fields >>= λ others. Ok (cell ∷ others)) cells e in
    let more = bind_ok (cells_of columns fields) (λ others. Ok (first.0 ∷ others)) cells first.2 in
    let same : cells ≡ first.0 ∷ more.0 = cc in
    let width : length more.0 ≡ columns = cells_width columns fields more.0 more.1 in
    rw same (omega arith)
