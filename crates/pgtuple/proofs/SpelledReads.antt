-- What the bytes of a borrowed tuple give, cell by cell.
use Rattle.std.proofs.Common.{◌≡◌, ◌≢◌, ℕ, zero, suc, ◌-◌, ◌≤◌, cond, leb, List, [], ◌∷◌, Result}
use Rattle.std.proofs.Common.{length, take, drop, Ok, Err, refl, sym, ap, subst, ◌∙◌, arith}
use Rattle.std.specs.Prelude.{MatchResult}
use Rattle.std.specs.Int.{w16}
use Rattle.std.proofs.lemmas.List.{take_at, append-nil, length-append}
use Rattle.pgtuple.specs.declared.cell.Cell.{Cell}
use Rattle.pgtuple.specs.declared.fault.TupleFault.{TupleFault}
use Rattle.pgtuple.specs.declared.fault.TupleFault.TheVariants as fault
use Rattle.pgtuple.specs.Limits.{IsWireTuple, IsBytes}
use Rattle.pgtuple.specs.declared.borrowed.CellRef.{CellRef}
use Rattle.pgtuple.specs.Borrowed.{cell_value}
use Rattle.pgtuple.specs.Cells.{tuple_spelling}
use Rattle.pgtuple.specs.Reading.{◌>>=◌, Fails, At, Read, number_at, cell_at, cells_at, tuple_from}
use Rattle.pgtuple.specs.Reading.{tuple_at}
use Rattle.pgtuple.specs.Spelled.{cells_read, IsRead, IsReadTo, spelled_cells, IsSpelledTuple}
use Rattle.pgtuple.proofs.Fields.{bind_ok, ok_is}
use Rattle.pgtuple.proofs.Decoded.{IsFront, front_is}
use Rattle.pgtuple.proofs.Tuples.{tuple_again}

-- cells that were read are those, as an equation
read_is : (read : Read (List Cell)) → IsRead read → (at : At) × (read ≡ Ok (cells_read read, at))
read_is (Ok x) h = (x.1, refl)
read_is (Err f) h = absurd h

is_read : (read : Read (List Cell)) (cells : List Cell) (at : At) → read ≡ Ok (cells, at) → IsRead read × (cells_read read ≡ cells)
is_read read cells at e = rw e (tt, refl)

-- the first cell, and the others
pub record IsFirstRead (n : ℕ) (at : At) (first : Cell × At) : Type 0 where
  pub here : cell_at at ≡ Ok first
  pub there : IsRead (cells_at n first.1)
  pub all : cells_read (cells_at (suc n) at) ≡ first.0 ∷ cells_read (cells_at n first.1)

pub first_read : (n : ℕ) (at : At) → IsRead (cells_at (suc n) at) → (first : Cell × At) × IsFirstRead n at first
unfolding cells_at
first_read n at h =
    let whole = read_is (cells_at (suc n) at) h in
    let one = bind_ok (cell_at at) (λ first. cells_at n first.1 >>= λ others. Ok (first.0 ∷ others.0, others.1)) _ whole.1 in
    let others = bind_ok (cells_at n one.0.1) (λ others. Ok (one.0.0 ∷ others.0, others.1)) _ one.2 in
    let is = is_read (cells_at n one.0.1) others.0.0 others.0.1 others.1 in (
      one.0,
      record {
        here = one.1;
        there = is.0;
        all = ap (λ (r : Read (List Cell)). cells_read r)
            (ap (λ (r : Read Cell). r >>= λ first. cells_at n first.1 >>= λ others. Ok (first.0 ∷ others.0, others.1)) one.1
            ∙ ap (λ (r : Read (List Cell)). r >>= λ others. Ok (one.0.0 ∷ others.0, others.1)) others.1)
            ∙ ap (λ (cells : List Cell). one.0.0 ∷ cells) (sym is.1);
      },
    )

pub none_left : (n : ℕ) (at : At) → n ≡ 0 → cells_read (cells_at n at) ≡ []
unfolding cells_at
none_left n at e = rw e refl

-- the step from n to one less
pub record IsNextRead (n : ℕ) (at : At) (first : Cell × At) : Type 0 where
  pub here : cell_at at ≡ Ok first
  pub there : IsRead (cells_at (n - 1) first.1)
  pub all : cells_read (cells_at n at) ≡ first.0 ∷ cells_read (cells_at (n - 1) first.1)

pub next_read : (n : ℕ) (at : At) → n ≢ 0 → IsRead (cells_at n at) → (first : Cell × At) × IsNextRead n at first
next_read zero at other h = absurd (other refl)
next_read (suc n) at other h =
    let first = first_read n at h in
    let less : suc n - 1 ≡ n = omega arith in (
      first.0,
      record {
        here = first.1.here;
        there = subst (λ (k : ℕ). IsRead (cells_at k first.0.1)) (sym less) first.1.there;
        all = first.1.all ∙ ap (λ (k : ℕ). first.0.0 ∷ cells_read (cells_at k first.0.1)) (sym less);
      },
    )

-- what is called a cell is that cell
pub known_cell : (r : Result CellRef TupleFault) (at new : At) (first : Cell × At)
    → MatchResult r (λ c. cell_at at ≡ Ok (cell_value c, new)) (λ f. cell_at at ≡ Err f) → cell_at at ≡ Ok first
    → (c : CellRef) × (r ≡ Ok c) × (cell_value c ≡ first.0) × (new ≡ first.1)
known_cell (Ok c) at new first e here =
    let same : ◌≡◌ {A = Cell × At} (cell_value c, new) first = ok_is (cell_value c, new) first (sym e ∙ here) in
    (c, refl, ap (λ (x : Cell × At). x.0) same, ap (λ (x : Cell × At). x.1) same)
known_cell (Err f) at new first e here =
    let never : ◌≡◌ {A = Read Cell} (Err f) (Ok first) = sym e ∙ here in
    absurd cc

pub count_read : (n : ℕ) (at : At) → IsRead (cells_at n at) → length (cells_read (cells_at n at)) ≡ n
unfolding cells_at
count_read zero at h = refl
count_read (suc n) at h = let first = first_read n at h in ap length first.1.all ∙ ap suc (count_read n first.0.1 first.1.there)

-- the bytes of a tuple: a width, and so many cells
pub record HasWidth (bytes : List ℕ) (width : ℕ × At) : Type 0 where
  pub number : number_at w16 (0, bytes) ≡ Ok width
  pub there : IsRead (cells_at width.0 width.1)
  pub all : cells_read (cells_at width.0 width.1) ≡ spelled_cells bytes

pub whole_read : (bytes : List ℕ) → IsSpelledTuple bytes → tuple_at bytes ≡ Ok (spelled_cells bytes, (length bytes, []))
whole_read bytes is =
    let cells = spelled_cells bytes in
    ap tuple_at (is.spelled ∙ sym (append-nil (tuple_spelling cells))) ∙ tuple_again cells [] is.fits
    ∙ ap (λ (n : ℕ). Ok (cells, (n, []))) (ap length (sym is.spelled))

pub width_read : (bytes : List ℕ) → IsSpelledTuple bytes → (width : ℕ × At) × HasWidth bytes width
unfolding tuple_at
width_read bytes is =
    let width = bind_ok (number_at w16 (0, bytes))
    (λ width. cond (leb width.0 1600) (Ok width) (Err (fault.TooManyColumns 0)) >>= λ _few. cells_at width.0 width.1) _
    (whole_read bytes is) in
    let few = bind_ok (cond (leb width.0.0 1600) (Ok width.0) (Err (fault.TooManyColumns 0))) (λ _few. cells_at width.0.0 width.0.1) _
    width.2 in
    let cells = is_read (cells_at width.0.0 width.0.1) _ _ few.2 in
    (width.0, record { number = width.1; there = cells.0; all = cells.1 })

-- a front of bytes that is read spells what is read
pub record SpelledFront (bytes : List ℕ) (at : At) : Type 0 where
  pub cells : List Cell
  pub front : IsFront bytes cells at
  pub within : at.0 ≤ length bytes
  pub spelled : IsSpelledTuple (take at.0 bytes)
  pub same : spelled_cells (take at.0 bytes) ≡ cells
  pub exact : tuple_at bytes ≡ Ok (cells, (at.0, drop at.0 bytes))

pub spelled_front : (bytes : List ℕ) (at : At) → IsBytes bytes → IsReadTo (tuple_from (0, bytes)) at → SpelledFront bytes at
unfolding tuple_at
spelled_front bytes at fits read =
    let cells = read.0 in
    let front = front_is bytes cells at fits read.1 in
    let spelling = tuple_spelling cells in
    let spelled : take at.0 bytes ≡ spelling = ap (take at.0) front.parts ∙ take_at spelling (drop at.0 bytes) at.0 (sym front.place) in
    let again : tuple_at (take at.0 bytes) ≡ Ok (cells, (length spelling, [])) =
    ap tuple_at (spelled ∙ sym (append-nil spelling)) ∙ tuple_again cells [] front.fits in
    let is : spelled_cells (take at.0 bytes) ≡ cells = (is_read (tuple_at (take at.0 bytes)) cells _ again).1 in
    record {
      cells = cells;
      front = front;
      within = omega (arith, ap length front.parts, length-append spelling (drop at.0 bytes), front.place);
      spelled = record {
        fits = subst (λ (cells : List Cell). IsWireTuple cells) (sym is) front.fits;
        spelled = spelled ∙ ap tuple_spelling (sym is);
      };
      same = is;
      exact = read.1 ∙ ap (λ (rest : List ℕ). Ok (cells, (at.0, rest))) front.rest;
    }

-- a fault that is the definition's is an answer beside want of memory
pub fails_so : {A : Type 0} (f : TupleFault) (read : Read A) → read ≡ Err f → Fails f read
fails_so fault.Memory read e = tt
fails_so (fault.Short place) read e = e
fails_so (fault.BadKind place) read e = e
fails_so (fault.BadLength place) read e = e
fails_so (fault.NotUtf8 place) read e = e
fails_so (fault.TooManyColumns place) read e = e
