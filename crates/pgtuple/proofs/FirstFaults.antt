-- A fault of the reading is the first field that can't be read, and each such field is its fault.
use Rattle.std.proofs.Common.{◌≡◌, ℕ, zero, suc, ◌+◌, ◌^◌, ◌<◌, ◌≤◌, ◌⊎◌, Bool, true, false, cond}
use Rattle.std.proofs.Common.{ltb, leb, eqb, List, [], ◌∷◌, ◌++◌, length, take, Result, Ok, Err}
use Rattle.std.proofs.Common.{refl, sym, ap, subst, ◌∙◌, append_assoc, arith, inl, inr}
use Rattle.std.specs.Int.{Width, w16, w32, byte_len, from_be_bytes, to_be_bytes}
use Rattle.std.specs.List.{flat_map, AllByRecursion}
use Rattle.std.specs.Str.{is_utf8}
use Rattle.std.proofs.lemmas.Bool.{le-leb, ltb-true, lt-ltb, lt-leb, leb-false, leb-true, ne_eqb}
use Rattle.std.proofs.lemmas.Bool.{eqb-true, eqb-false}
use Rattle.std.proofs.lemmas.List.{length-append}
use Rattle.std.proofs.lemmas.List.Concat.{flat_map-cons}
use Rattle.pgtuple.specs.declared.cell.Cell.{Cell}
use Rattle.pgtuple.specs.declared.cell.Cell.TheVariants.{Null, Unchanged, Text, Binary}
use Rattle.pgtuple.specs.declared.fault.TupleFault.{TupleFault}
use Rattle.pgtuple.specs.declared.fault.TupleFault.TheVariants as fault
use Rattle.pgtuple.specs.Limits.{IsCell, IsTextCell, IsBytes}
use Rattle.pgtuple.specs.Cells.{cell_spelling}
use Rattle.pgtuple.specs.Reading.{◌>>=◌, At, Read, further, number_at, length_at, bytes_at, text_at}
use Rattle.pgtuple.specs.Reading.{text_cell_at, binary_cell_at, cell_of, cell_at, cells_at}
use Rattle.pgtuple.specs.Reading.{tuple_at}
use Rattle.pgtuple.specs.Faults.{IsCounted, HasCellFault, no_kind, bad_kind, short_length}
use Rattle.pgtuple.specs.Faults.{bad_length, short_bytes, not_utf8, HasTupleFault, short_width}
use Rattle.pgtuple.specs.Faults.{bad_width, in_cell}
use Rattle.pgtuple.specs.Laws.{FaultsAreTheFirst}
use Rattle.pgtuple.proofs.Fields.{Takes, IsBytes-rest, wide16, wide32, number_takes, number_again}
use Rattle.pgtuple.proofs.Tuples.{then_is, chosen, length_again, bytes_again, length_takes}
use Rattle.pgtuple.proofs.Tuples.{bytes_take, cell_again, cell_takes}

-- ---- what a fault says of the bytes

err_is : {A : Type 0} (c d : TupleFault) → ◌≡◌ {A = Result A TupleFault} (Err c) (Err d) → c ≡ d
err_is c d e = cc

-- which step failed
bind_err : {A B : Type 0} (r : Result A TupleFault) (f : A → Result B TupleFault) (d : TupleFault) → (r >>= f) ≡ Err d
    → (r ≡ Err d) ⊎ ((x : A) × (r ≡ Ok x) × (f x ≡ Err d))
bind_err (Ok x) f d e = inr (x, refl, e)
bind_err {B = B} (Err c) f d e = inl (ap Err (err_is {A = B} c d e))

unless_err : {A : Type 0} (b : Bool) (c d : TupleFault) (x : A) → cond b (Err c) (Ok x) ≡ Err d → (b ≡ true) × (d ≡ c)
unless_err {A} true c d x e = (refl, sym (err_is {A = A} c d e))
unless_err false c d x e = absurd cc

when_err : {A : Type 0} (b : Bool) (c d : TupleFault) (x : A) → cond b (Ok x) (Err c) ≡ Err d → (b ≡ false) × (d ≡ c)
when_err true c d x e = absurd cc
when_err {A} false c d x e = (refl, sym (err_is {A = A} c d e))

never_err : {A : Type 0} (x : A) (d : TupleFault) → ◌≡◌ {A = Result A TupleFault} (Ok x) (Err d) → ⊥
never_err x d e = cc

number_fault : (w : Width) (at : At) (f : TupleFault) → number_at w at ≡ Err f → (length at.1 < byte_len w) × (f ≡ fault.Short at.0)
unfolding number_at
number_fault w at f e =
    let g = unless_err (ltb (length at.1) (byte_len w)) (fault.Short at.0) f
    (from_be_bytes w (take (byte_len w) at.1), further (byte_len w) at) e in
    (ltb-true _ _ g.0, g.1)

length_fault : (at : At) (f : TupleFault) → IsBytes at.1 → length_at at ≡ Err f
    → ((length at.1 < 4) × (f ≡ fault.Short at.0))
    ⊎ ((n : ℕ) × (more : List ℕ) × (at.1 ≡ to_be_bytes w32 n ++ more) × (2147483647 < n) × (n < 2 ^ 32) × (f ≡ fault.BadLength at.0))
unfolding length_at
length_fault at f fits e =
    elim (bind_err (number_at w32 at) (λ n. cond (leb n.0 2147483647) (Ok n) (Err (fault.BadLength at.0))) f e) [
      | inl short ↦ inl (number_fault w32 at f short)
      | inr p ↦
          let g = when_err (leb p.0.0 2147483647) (fault.BadLength at.0) f p.0 p.2 in
          let t = number_takes w32 (2 ^ 32) wide32 at p.0 fits p.1 in
          inr (p.0.0, p.0.1.1, t.0.parts, leb-false _ _ g.0, t.1, g.1)
    ]

bytes_fault : (n : ℕ) (at : At) (f : TupleFault) → bytes_at n at ≡ Err f → (length at.1 < n) × (f ≡ fault.Short at.0)
unfolding bytes_at
bytes_fault n at f e =
    let g = unless_err (ltb (length at.1) n) (fault.Short at.0) f (take n at.1, further n at) e in
    (ltb-true _ _ g.0, g.1)

text_fault : (n : ℕ) (at : At) (f : TupleFault) → IsBytes at.1 → text_at n at ≡ Err f
    → ((length at.1 < n) × (f ≡ fault.Short at.0))
    ⊎ ((text more : List ℕ) × (at.1 ≡ text ++ more) × (length text ≡ n) × (is_utf8 text ≡ false) × (f ≡ fault.NotUtf8 at.0))
unfolding text_at
text_fault n at f fits e =
    elim (bind_err (bytes_at n at) (λ bytes. cond (is_utf8 bytes.0) (Ok bytes) (Err (fault.NotUtf8 at.0))) f e) [
      | inl short ↦ inl (bytes_fault n at f short)
      | inr p ↦
          let g = when_err (is_utf8 p.0.0) (fault.NotUtf8 at.0) f p.0 p.2 in
          let t = bytes_take n at p.0 fits p.1 in
          inr (p.0.0, p.0.1.1, t.0.parts, t.1, g.0, g.1)
    ]

length_cell_fault : (kind place : ℕ) (rest : List ℕ) (f : TupleFault) → IsCounted kind → IsBytes rest → length_at (place + 1, rest) ≡ Err f
    → HasCellFault (kind ∷ rest) place f
length_cell_fault kind place rest f counted fits e =
    elim (length_fault (place + 1, rest) f fits e) [
      | inl short ↦ short_length kind rest refl counted short.0 short.1
      | inr bad ↦ bad_length kind bad.0 bad.1 (ap (λ (l : List ℕ). kind ∷ l) bad.2) counted bad.3 bad.4 bad.5
    ]

-- the bytes behind a length
module _ (kind place : ℕ) (rest : List ℕ) (n : ℕ × At) (t : Takes (place + 1, rest) (to_be_bytes w32 n.0) n.1) where
  behind_length : kind ∷ rest ≡ kind ∷ (to_be_bytes w32 n.0 ++ n.1.1)
  behind_length = ap (λ (l : List ℕ). kind ∷ l) t.parts

  place_behind : n.1.0 ≡ place + 1 + 4
  place_behind = t.place

text_cell_fault : (place : ℕ) (rest : List ℕ) (f : TupleFault) → IsBytes rest → text_cell_at (place + 1, rest) ≡ Err f
    → HasCellFault (116 ∷ rest) place f
unfolding text_cell_at
text_cell_fault place rest f fits e =
    elim (bind_err (length_at (place + 1, rest)) (λ n. text_at n.0 n.1 >>= λ text. Ok (Text text.0, text.1)) f e) [
      | inl short ↦ length_cell_fault 116 place rest f (inl refl) fits short
      | inr p ↦
          let n = p.0 in
          let t = length_takes (place + 1, rest) n fits p.1 in
          let moved = place_behind 116 place rest n t.0 in
          elim (bind_err (text_at n.0 n.1) (λ text. Ok (Text text.0, text.1)) f p.2) [
            | inl bad ↦ elim (text_fault n.0 n.1 f t.0.rest_fits bad) [
              | inl short ↦ short_bytes 116 n.0 n.1.1 (behind_length 116 place rest n t.0) (inl refl) t.1 short.0
                  (short.1 ∙ ap fault.Short moved)
              | inr q ↦
                  let same : 116 ∷ rest ≡ 116 ∷ (to_be_bytes w32 (length q.0) ++ (q.0 ++ q.1)) =
                  behind_length 116 place rest n t.0 ∙ ap (λ (l : List ℕ). 116 ∷ (to_be_bytes w32 n.0 ++ l)) q.2
                  ∙ ap (λ (k : ℕ). 116 ∷ (to_be_bytes w32 k ++ (q.0 ++ q.1))) (sym q.3) in
                  not_utf8 q.0 q.1 same (omega (arith, q.3, t.1)) q.4 (q.5 ∙ ap fault.NotUtf8 moved)
            ]
            | inr q ↦ absurd (never_err (Text q.0.0, q.0.1) f q.2)
          ]
    ]

binary_cell_fault : (place : ℕ) (rest : List ℕ) (f : TupleFault) → IsBytes rest → binary_cell_at (place + 1, rest) ≡ Err f
    → HasCellFault (98 ∷ rest) place f
unfolding binary_cell_at
binary_cell_fault place rest f fits e =
    elim (bind_err (length_at (place + 1, rest)) (λ n. bytes_at n.0 n.1 >>= λ bytes. Ok (Binary bytes.0, bytes.1)) f e) [
      | inl short ↦ length_cell_fault 98 place rest f (inr refl) fits short
      | inr p ↦
          let n = p.0 in
          let t = length_takes (place + 1, rest) n fits p.1 in
          elim (bind_err (bytes_at n.0 n.1) (λ bytes. Ok (Binary bytes.0, bytes.1)) f p.2) [
            | inl bad ↦
                let short = bytes_fault n.0 n.1 f bad in
                short_bytes 98 n.0 n.1.1 (behind_length 98 place rest n t.0) (inr refl) t.1 short.0
                (short.1 ∙ ap fault.Short (place_behind 98 place rest n t.0))
            | inr q ↦ absurd (never_err (Binary q.0.0, q.0.1) f q.2)
          ]
    ]

kind_fault : (kind place : ℕ) (rest : List ℕ) (f : TupleFault) → IsBytes rest → cell_of kind (place, kind ∷ rest) (place + 1, rest) ≡ Err f
    → HasCellFault (kind ∷ rest) place f
kind_fault kind place rest f fits e =
    let behind : At = (place + 1, rest) in
    let bad : Read Cell = Err (fault.BadKind place) in
    let binary : Read Cell = cond (eqb kind 98) (binary_cell_at behind) bad in
    let text : Read Cell = cond (eqb kind 116) (text_cell_at behind) binary in
    let unchanged : Read Cell = cond (eqb kind 117) (Ok (Unchanged, behind)) text in
    elim (chosen (eqb kind 110) (Ok (Null, behind)) unchanged (Err f) e) [
      | inl null ↦ absurd (never_err (Null, behind) f null.1)
      | inr p ↦ elim (chosen (eqb kind 117) (Ok (Unchanged, behind)) text (Err f) p.1) [
        | inl same ↦ absurd (never_err (Unchanged, behind) f same.1)
        | inr q ↦ elim (chosen (eqb kind 116) (text_cell_at behind) binary (Err f) q.1) [
          | inl t ↦ subst (λ (k : ℕ). HasCellFault (k ∷ rest) place f) (sym (eqb-true _ _ t.0)) (text_cell_fault place rest f fits t.1)
          | inr r ↦ elim (chosen (eqb kind 98) (binary_cell_at behind) bad (Err f) r.1) [
            | inl b ↦ subst (λ (k : ℕ). HasCellFault (k ∷ rest) place f) (sym (eqb-true _ _ b.0)) (binary_cell_fault place rest f fits b.1)
            | inr s ↦ bad_kind kind rest refl (eqb-false _ _ p.0) (eqb-false _ _ q.0) (eqb-false _ _ r.0) (eqb-false _ _ s.0)
                (sym (err_is {A = Cell × At} (fault.BadKind place) f s.1))
          ]
        ]
      ]
    ]

cell_fault : (at : At) (f : TupleFault) → IsBytes at.1 → cell_at at ≡ Err f → HasCellFault at.1 at.0 f
unfolding cell_at
cell_fault (place, []) f fits e = no_kind refl (sym (err_is {A = Cell × At} (fault.Short place) f e))
cell_fault (place, kind ∷ rest) f fits e = kind_fault kind place rest f (IsBytes-rest kind rest fits) e

-- whole cells, and behind them one that can't be read
record IsCutAt (n : ℕ) (at : At) (f : TupleFault) : Type 0 where
  front : List Cell
  rest : List ℕ
  parts : at.1 ≡ flat_map cell_spelling front ++ rest
  fewer : length front < n
  each : AllByRecursion IsCell front
  texts : AllByRecursion IsTextCell front
  bad : HasCellFault rest (at.0 + length (flat_map cell_spelling front)) f

cells_fault : (n : ℕ) (at : At) (f : TupleFault) → IsBytes at.1 → cells_at n at ≡ Err f → IsCutAt n at f
unfolding cells_at
cells_fault zero at f fits e = absurd (never_err ([], at) f e)
cells_fault (suc n) at f fits e =
    elim (bind_err (cell_at at) (λ first. cells_at n first.1 >>= λ others. Ok (first.0 ∷ others.0, others.1)) f e) [
      | inl bad ↦ record {
        front = [];
        rest = at.1;
        parts = refl;
        fewer = omega arith;
        each = tt;
        texts = tt;
        bad = subst (λ (p : ℕ). HasCellFault at.1 p f) (omega arith) (cell_fault at f fits bad);
      }
      | inr p ↦
          let c = p.0 in
          let first : Takes at (cell_spelling c.0) c.1 × IsCell c.0 × IsTextCell c.0 = cell_takes at c fits p.1 in
          elim (bind_err (cells_at n c.1) (λ others. Ok (c.0 ∷ others.0, others.1)) f p.2) [
            | inl later ↦
                let cut = cells_fault n c.1 f first.0.rest_fits later in
                let others : List ℕ = flat_map cell_spelling cut.front in
                record {
                  front = c.0 ∷ cut.front;
                  rest = cut.rest;
                  parts = first.0.parts ∙ ap (λ (l : List ℕ). cell_spelling c.0 ++ l) cut.parts
                      ∙ sym (append_assoc (cell_spelling c.0) others cut.rest)
                      ∙ ap (λ (l : List ℕ). l ++ cut.rest) (sym (flat_map-cons cell_spelling c.0 cut.front));
                  fewer = omega (arith, cut.fewer);
                  each = (first.1, cut.each);
                  texts = (first.2, cut.texts);
                  bad = subst (λ (p : ℕ). HasCellFault cut.rest p f)
                      (omega (
                        arith,
                        first.0.place,
                        length-append (cell_spelling c.0) others,
                        ap length (flat_map-cons cell_spelling c.0 cut.front),
                      )) cut.bad;
                }
            | inr q ↦ absurd (never_err (c.0 ∷ q.0.0, q.0.1) f q.2)
          ]
    ]

tuple_fault : (bytes : List ℕ) (f : TupleFault) → IsBytes bytes → tuple_at bytes ≡ Err f → HasTupleFault bytes f
unfolding tuple_at
tuple_fault bytes f fits e =
    elim (bind_err (number_at w16 (0, bytes))
    (λ width. cond (leb width.0 1600) (Ok width) (Err (fault.TooManyColumns 0)) >>= λ _few. cells_at width.0 width.1) f e) [
      | inl short ↦ let g = number_fault w16 (0, bytes) f short in short_width g.0 g.1
      | inr p ↦
          let width = p.0 in
          let t = number_takes w16 (2 ^ 16) wide16 (0, bytes) width fits p.1 in
          elim (bind_err (cond (leb width.0 1600) (Ok width) (Err (fault.TooManyColumns 0))) (λ _few. cells_at width.0 width.1) f p.2) [
            | inl wide ↦ let g = when_err (leb width.0 1600) (fault.TooManyColumns 0) f width wide in
                bad_width width.0 width.1.1 t.0.parts (leb-false _ _ g.0) t.1 g.1
            | inr q ↦
                let few : width.0 ≤ 1600 =
                elim (chosen (leb width.0 1600) (Ok width) (Err (fault.TooManyColumns 0)) (Ok q.0) q.1) as (λ _. width.0 ≤ 1600) [
                  | inl narrow ↦ leb-true _ _ narrow.0
                  | inr wide ↦ let never : ◌≡◌ {A = Result (ℕ × At) TupleFault} (Err (fault.TooManyColumns 0)) (Ok q.0) = wide.1 in
                      absurd cc
                ] in
                let cut = cells_fault width.0 width.1 f t.0.rest_fits q.2 in
                in_cell width.0 cut.front cut.rest (t.0.parts ∙ ap (λ (l : List ℕ). to_be_bytes w16 width.0 ++ l) cut.parts) few cut.fewer
                cut.each cut.texts
                (subst (λ (p : ℕ). HasCellFault cut.rest (p + length (flat_map cell_spelling cut.front)) f) t.0.place cut.bad)
          ]
    ]

-- ---- what stands there is the fault

then_err : {A B : Type 0} (r : Result A TupleFault) (f : A → Result B TupleFault) (d : TupleFault) → r ≡ Err d → (r >>= f) ≡ Err d
then_err r f d e = ap (λ (q : Result _ TupleFault). q >>= f) e

number_short : (w : Width) (place : ℕ) (l : List ℕ) → length l < byte_len w → number_at w (place, l) ≡ Err (fault.Short place)
unfolding number_at
number_short w place l lt = rw (lt-ltb _ _ lt) refl

length_short : (place : ℕ) (l : List ℕ) → length l < 4 → length_at (place, l) ≡ Err (fault.Short place)
unfolding length_at
length_short place l lt = rw (number_short w32 place l lt) refl

length_bad : (place n : ℕ) (more : List ℕ) → 2147483647 < n → n < 2 ^ 32
    → length_at (place, to_be_bytes w32 n ++ more) ≡ Err (fault.BadLength place)
unfolding length_at
length_bad place n more gt lt =
    then_is (number_at w32 (place, to_be_bytes w32 n ++ more)) (n, (place + 4, more))
    (λ x. cond (leb x.0 2147483647) (Ok x) (Err (fault.BadLength place))) (number_again w32 (2 ^ 32) wide32 n place more lt)
    ∙ rw (lt-leb n 2147483647 gt) refl

bytes_short : (n place : ℕ) (l : List ℕ) → length l < n → bytes_at n (place, l) ≡ Err (fault.Short place)
unfolding bytes_at
bytes_short n place l lt = rw (lt-ltb _ _ lt) refl

text_short : (n place : ℕ) (l : List ℕ) → length l < n → text_at n (place, l) ≡ Err (fault.Short place)
unfolding text_at
text_short n place l lt = rw (bytes_short n place l lt) refl

text_bad : (text : List ℕ) (place : ℕ) (more : List ℕ) → is_utf8 text ≡ false
    → text_at (length text) (place, text ++ more) ≡ Err (fault.NotUtf8 place)
unfolding text_at
text_bad text place more bad = rw (bytes_again text place more, bad) refl

of_counted : (kind place : ℕ) (rest : List ℕ) (f : TupleFault) → IsCounted kind → text_cell_at (place + 1, rest) ≡ Err f
    → binary_cell_at (place + 1, rest) ≡ Err f → cell_at (place, kind ∷ rest) ≡ Err f
unfolding cell_at
of_counted kind place rest f counted text binary =
    elim counted [
      | inl t ↦ subst (λ (k : ℕ). cell_at (place, k ∷ rest) ≡ Err f) (sym t) text
      | inr b ↦ subst (λ (k : ℕ). cell_at (place, k ∷ rest) ≡ Err f) (sym b) binary
    ]

by_length : (kind place : ℕ) (rest : List ℕ) (f : TupleFault) → IsCounted kind → length_at (place + 1, rest) ≡ Err f
    → cell_at (place, kind ∷ rest) ≡ Err f
unfolding text_cell_at binary_cell_at
by_length kind place rest f counted e =
    of_counted kind place rest f counted
    (then_err (length_at (place + 1, rest)) (λ n. text_at n.0 n.1 >>= λ text. Ok (Text text.0, text.1)) f e)
    (then_err (length_at (place + 1, rest)) (λ n. bytes_at n.0 n.1 >>= λ bytes. Ok (Binary bytes.0, bytes.1)) f e)

text_behind : (place n : ℕ) (rest : List ℕ) (f : TupleFault) → n ≤ 2147483647 → text_at n (place + 1 + 4, rest) ≡ Err f
    → text_cell_at (place + 1, to_be_bytes w32 n ++ rest) ≡ Err f
unfolding text_cell_at
text_behind place n rest f le e =
    then_is (length_at (place + 1, to_be_bytes w32 n ++ rest)) (n, (place + 1 + 4, rest))
    (λ n. text_at n.0 n.1 >>= λ text. Ok (Text text.0, text.1)) (length_again n (place + 1) rest le)
    ∙ then_err (text_at n (place + 1 + 4, rest)) (λ text. Ok (Text text.0, text.1)) f e

binary_behind : (place n : ℕ) (rest : List ℕ) (f : TupleFault) → n ≤ 2147483647 → bytes_at n (place + 1 + 4, rest) ≡ Err f
    → binary_cell_at (place + 1, to_be_bytes w32 n ++ rest) ≡ Err f
unfolding binary_cell_at
binary_behind place n rest f le e =
    then_is (length_at (place + 1, to_be_bytes w32 n ++ rest)) (n, (place + 1 + 4, rest))
    (λ n. bytes_at n.0 n.1 >>= λ bytes. Ok (Binary bytes.0, bytes.1)) (length_again n (place + 1) rest le)
    ∙ then_err (bytes_at n (place + 1 + 4, rest)) (λ bytes. Ok (Binary bytes.0, bytes.1)) f e

-- what is read of equal bytes, for an equal fault
moved : (place : ℕ) (bytes same : List ℕ) (f g : TupleFault) → bytes ≡ same → f ≡ g → cell_at (place, same) ≡ Err g
    → cell_at (place, bytes) ≡ Err f
moved place bytes same f g e d read = ap (λ (l : List ℕ). cell_at (place, l)) e ∙ read ∙ ap Err (sym d)

cell_is_bad : (bytes : List ℕ) (place : ℕ) (f : TupleFault) → HasCellFault bytes place f → cell_at (place, bytes) ≡ Err f
unfolding cell_at
cell_is_bad bytes place f (no_kind e d) = moved place bytes [] f (fault.Short place) e d refl
cell_is_bad bytes place f (bad_kind kind more e a b c g d) =
    moved place bytes (kind ∷ more) f (fault.BadKind place) e d
    (rw (ne_eqb kind 110 a, ne_eqb kind 117 b, ne_eqb kind 116 c, ne_eqb kind 98 g) refl)
cell_is_bad bytes place f (short_length kind rest e counted lt d) =
    moved place bytes (kind ∷ rest) f (fault.Short (place + 1)) e d
    (by_length kind place rest (fault.Short (place + 1)) counted (length_short (place + 1) rest lt))
cell_is_bad bytes place f (bad_length kind n more e counted gt lt d) =
    moved place bytes (kind ∷ (to_be_bytes w32 n ++ more)) f (fault.BadLength (place + 1)) e d
    (by_length kind place (to_be_bytes w32 n ++ more) (fault.BadLength (place + 1)) counted (length_bad (place + 1) n more gt lt))
cell_is_bad bytes place f (short_bytes kind n rest e counted le lt d) =
    let g : TupleFault = fault.Short (place + 1 + 4) in
    moved place bytes (kind ∷ (to_be_bytes w32 n ++ rest)) f g e d
    (of_counted kind place (to_be_bytes w32 n ++ rest) g counted (text_behind place n rest g le (text_short n (place + 1 + 4) rest lt))
    (binary_behind place n rest g le (bytes_short n (place + 1 + 4) rest lt)))
cell_is_bad bytes place f (not_utf8 text more e le bad d) =
    let g : TupleFault = fault.NotUtf8 (place + 1 + 4) in
    moved place bytes (116 ∷ (to_be_bytes w32 (length text) ++ (text ++ more))) f g e d
    (text_behind place (length text) (text ++ more) g le (text_bad text (place + 1 + 4) more bad))

cells_are_bad : (front : List Cell) (n place : ℕ) (rest : List ℕ) (f : TupleFault) → length front < n → AllByRecursion IsCell front
    → AllByRecursion IsTextCell front
    → cell_at (place + length (flat_map cell_spelling front), rest) ≡ Err f
    → cells_at n (place, flat_map cell_spelling front ++ rest) ≡ Err f
unfolding cells_at
cells_are_bad front zero place rest f lt each texts e = absurd (omega arith)
cells_are_bad [] (suc n) place rest f lt each texts e =
    let here : cell_at (place, rest) ≡ Err f = ap (λ (p : ℕ). cell_at (p, rest)) (omega arith) ∙ e in
    then_err (cell_at (place, rest)) (λ first. cells_at n first.1 >>= λ others. Ok (first.0 ∷ others.0, others.1)) f here
cells_are_bad (c ∷ front) (suc n) place rest f lt each texts e =
    let others : List ℕ = flat_map cell_spelling front in
    let behind : ℕ = place + length (cell_spelling c) in
    let regrouped : flat_map cell_spelling (c ∷ front) ++ rest ≡ cell_spelling c ++ (others ++ rest) =
    ap (λ (x : List ℕ). x ++ rest) (flat_map-cons cell_spelling c front) ∙ append_assoc (cell_spelling c) others rest in
    let there : cell_at (behind + length others, rest) ≡ Err f =
    ap (λ (p : ℕ). cell_at (p, rest))
    (omega (arith, length-append (cell_spelling c) others, ap length (flat_map-cons cell_spelling c front))) ∙ e in
    ap (λ (bytes : List ℕ). cells_at (suc n) (place, bytes)) regrouped
    ∙ then_is (cell_at (place, cell_spelling c ++ (others ++ rest))) (c, (behind, others ++ rest))
    (λ first. cells_at n first.1 >>= λ rest. Ok (first.0 ∷ rest.0, rest.1)) (cell_again c place (others ++ rest) each.0 texts.0)
    ∙ then_err (cells_at n (behind, others ++ rest)) (λ rest. Ok (c ∷ rest.0, rest.1)) f
    (cells_are_bad front n behind rest f (omega arith) each.1 texts.1 there)

tuple_is_bad : (bytes : List ℕ) (f : TupleFault) → HasTupleFault bytes f → tuple_at bytes ≡ Err f
unfolding tuple_at
tuple_is_bad bytes f (short_width lt d) =
    then_err (number_at w16 (0, bytes))
    (λ width. cond (leb width.0 1600) (Ok width) (Err (fault.TooManyColumns 0)) >>= λ _few. cells_at width.0 width.1) f
    (number_short w16 0 bytes lt ∙ ap Err (sym d))
tuple_is_bad bytes f (bad_width n more e gt lt d) =
    ap tuple_at e
    ∙ then_is (number_at w16 (0, to_be_bytes w16 n ++ more)) (n, (0 + 2, more))
    (λ width. cond (leb width.0 1600) (Ok width) (Err (fault.TooManyColumns 0)) >>= λ _few. cells_at width.0 width.1)
    (number_again w16 (2 ^ 16) wide16 n 0 more lt)
    ∙ then_err (cond (leb n 1600) (Ok (n, (0 + 2, more))) (Err (fault.TooManyColumns 0))) (λ _few. cells_at n (0 + 2, more))
    (fault.TooManyColumns 0) (rw (lt-leb n 1600 gt) refl)
    ∙ ap Err (sym d)
tuple_is_bad bytes f (in_cell n front rest e le lt each texts bad) =
    let cells : List ℕ = flat_map cell_spelling front ++ rest in
    ap tuple_at e
    ∙ then_is (number_at w16 (0, to_be_bytes w16 n ++ cells)) (n, (0 + 2, cells))
    (λ width. cond (leb width.0 1600) (Ok width) (Err (fault.TooManyColumns 0)) >>= λ _few. cells_at width.0 width.1)
    (number_again w16 (2 ^ 16) wide16 n 0 cells (omega arith))
    ∙ then_is (cond (leb n 1600) (Ok (n, (0 + 2, cells))) (Err (fault.TooManyColumns 0))) (n, (0 + 2, cells))
    (λ _few. cells_at n (0 + 2, cells)) (rw (le-leb n 1600 le) refl)
    ∙ cells_are_bad front n (0 + 2) rest f lt each texts (cell_is_bad rest (2 + length (flat_map cell_spelling front)) f bad)

pub faults_are_first : FaultsAreTheFirst
faults_are_first bytes f fits = (tuple_fault bytes f fits, tuple_is_bad bytes f)
