-- Reading cells one after the other, as a loop does.
use Rattle.std.proofs.Common.{◌≡◌, ℕ, suc, ◌-◌, ◌+◌, ◌≤◌, ◌<◌, List, [], ◌∷◌, ◌++◌, Ok, Err, refl}
use Rattle.std.proofs.Common.{sym, ap, ◌∙◌, append_assoc, arith}
use Rattle.std.proofs.lemmas.List.{append-nil}
use Rattle.pgtuple.specs.declared.cell.Cell.{Cell}
use Rattle.pgtuple.specs.declared.fault.TupleFault.{TupleFault}
use Rattle.pgtuple.specs.Reading.{◌>>=◌, At, Read, cell_at, cells_at}

-- what was read before, and what is still read
abbrev pub with_front : List Cell → Read (List Cell) → Read (List Cell)
with_front front read = read >>= λ x. Ok (front ++ x.0, x.1)

regroup : (front : List Cell) (c : Cell) (read : Read (List Cell))
    → with_front front (read >>= λ x. Ok (c ∷ x.0, x.1)) ≡ with_front (front ++ c ∷ []) read
regroup front c (Ok x) = ap (λ (cells : List Cell). Ok (cells, x.1)) (simp append_assoc)
regroup front c (Err f) = refl

pub starts : (read : Read (List Cell)) → with_front [] read ≡ read
starts (Ok x) = refl
starts (Err f) = refl

pub goes_on : (front : List Cell) (count i : ℕ) (at : At) (c : Cell) (after : At) (total : Read (List Cell)) → i < count
    → cell_at at ≡ Ok (c, after)
    → with_front front (cells_at (count - i) at) ≡ total → with_front (front ++ c ∷ []) (cells_at (count - (i + 1)) after) ≡ total
unfolding cells_at
goes_on front count i at c after total lt h so_far =
    let k : count - i ≡ suc (count - (i + 1)) = omega arith in
    let one : with_front front (cells_at (count - i) at) ≡ with_front (front ++ c ∷ []) (cells_at (count - (i + 1)) after) =
    rw (k, h) (regroup front c (cells_at (count - (i + 1)) after)) in
    sym one ∙ so_far

pub ends_at : (f : TupleFault) (front : List Cell) (count i : ℕ) (at : At) (total : Read (List Cell)) → i < count → cell_at at ≡ Err f
    → with_front front (cells_at (count - i) at) ≡ total → total ≡ Err f
unfolding cells_at
ends_at f front count i at total lt h so_far =
    let k : count - i ≡ suc (count - (i + 1)) = omega arith in
    let one : with_front front (cells_at (count - i) at) ≡ Err f = rw (k, h) refl in
    sym so_far ∙ one

pub is_done : (front : List Cell) (count i : ℕ) (at : At) (total : Read (List Cell)) → count ≤ i
    → with_front front (cells_at (count - i) at) ≡ total → total ≡ Ok (front, at)
unfolding cells_at
is_done front count i at total le so_far =
    let k : count - i ≡ 0 = omega arith in
    let one : with_front front (cells_at (count - i) at) ≡ Ok (front, at) =
    rw k (ap (λ (cells : List Cell). Ok (cells, at)) (append-nil front)) in
    sym so_far ∙ one
