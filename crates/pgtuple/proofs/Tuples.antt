-- What is spelled is read, what is read was spelled so, and no spelling begins another one.
use Rattle.std.proofs.Common.{◌≡◌, ℕ, zero, suc, ◌+◌, ◌^◌, ◌≤◌, Bool, true, false, cond, ltb, leb}
use Rattle.std.proofs.Common.{eqb, List, [], ◌∷◌, ◌++◌, length, take, drop, Result, Ok, Err, refl}
use Rattle.std.proofs.Common.{sym, ap, subst, ◌∙◌, append_assoc, ◌⊎◌, arith, inl, inr}
use Rattle.std.specs.Int.{w16, w32, from_be_bytes, to_be_bytes}
use Rattle.std.specs.List.{flat_map, AllByRecursion}
use Rattle.std.specs.Str.{is_utf8}
use Rattle.std.proofs.lemmas.Bool.{ltb-false, le-ltb, le-leb, leb-true, eqb-true}
use Rattle.std.proofs.lemmas.List.{take_at, drop_at, take-append-drop, length-append, length-take}
use Rattle.std.proofs.lemmas.List.Concat.{flat_map-cons}
use Rattle.pgtuple.specs.declared.cell.Cell.{Cell}
use Rattle.pgtuple.specs.declared.cell.Cell.TheVariants.{Null, Unchanged, Text, Binary}
use Rattle.pgtuple.specs.declared.fault.TupleFault.{TupleFault}
use Rattle.pgtuple.specs.declared.fault.TupleFault.TheVariants as fault
use Rattle.pgtuple.specs.Limits.{IsCell, IsTextCell, IsBytes}
use Rattle.pgtuple.specs.Cells.{cell_spelling, tuple_spelling}
use Rattle.pgtuple.specs.Reading.{◌>>=◌, At, Read, further, number_at, length_at, bytes_at, text_at}
use Rattle.pgtuple.specs.Reading.{text_cell_at, binary_cell_at, cell_of, cell_at, cells_at}
use Rattle.pgtuple.specs.Reading.{tuple_at}
use Rattle.pgtuple.specs.Laws.{SpelledTuplesAreRead, ReadTuplesAreSpelled, NoSpellingBeginsAnother}
use Rattle.pgtuple.proofs.Fields.{bind_ok, unless_ok, when_ok, ok_is, Takes, Takes-then, Takes-none}
use Rattle.pgtuple.proofs.Fields.{IsBytes-drop, IsBytes-rest, wide16, wide32, number_takes}
use Rattle.pgtuple.proofs.Fields.{number_again}

-- ---- what is spelled is read

pub then_is : {A B : Type 0} (r : Result A TupleFault) (x : A) (f : A → Result B TupleFault) → r ≡ Ok x → (r >>= f) ≡ f x
then_is r x f e = ap (λ (q : Result _ TupleFault). q >>= f) e

pub length_again : (n place : ℕ) (more : List ℕ) → n ≤ 2147483647 → length_at (place, to_be_bytes w32 n ++ more) ≡ Ok (n, (place + 4, more))
unfolding length_at
length_again n place more le =
    then_is (number_at w32 (place, to_be_bytes w32 n ++ more)) (n, (place + 4, more))
    (λ x. cond (leb x.0 2147483647) (Ok x) (Err (fault.BadLength place))) (number_again w32 (2 ^ 32) wide32 n place more (omega arith))
    ∙ rw (le-leb n 2147483647 le) refl

pub bytes_again : (bytes : List ℕ) (place : ℕ) (more : List ℕ)
    → bytes_at (length bytes) (place, bytes ++ more) ≡ Ok (bytes, (place + length bytes, more))
unfolding bytes_at
bytes_again bytes place more =
    let long : ltb (length (bytes ++ more)) (length bytes) ≡ false = le-ltb _ _ (omega (arith, length-append bytes more)) in
    rw (long, take_at bytes more (length bytes) refl, drop_at bytes more (length bytes) refl) refl

text_again : (bytes : List ℕ) (place : ℕ) (more : List ℕ) → is_utf8 bytes ≡ true
    → text_at (length bytes) (place, bytes ++ more) ≡ Ok (bytes, (place + length bytes, more))
unfolding text_at
text_again bytes place more utf8 = rw (bytes_again bytes place more, utf8) refl

text_cell_again : (bytes : List ℕ) (place : ℕ) (more : List ℕ) → length bytes ≤ 2147483647 → is_utf8 bytes ≡ true
    → text_cell_at (place, to_be_bytes w32 (length bytes) ++ (bytes ++ more)) ≡ Ok (Text bytes, (place + 4 + length bytes, more))
unfolding text_cell_at
text_cell_again bytes place more le utf8 =
    then_is (length_at (place, to_be_bytes w32 (length bytes) ++ (bytes ++ more))) (length bytes, (place + 4, bytes ++ more))
    (λ n. text_at n.0 n.1 >>= λ text. Ok (Text text.0, text.1)) (length_again (length bytes) place (bytes ++ more) le)
    ∙ then_is (text_at (length bytes) (place + 4, bytes ++ more)) (bytes, (place + 4 + length bytes, more))
    (λ text. Ok (Text text.0, text.1)) (text_again bytes (place + 4) more utf8)

binary_cell_again : (bytes : List ℕ) (place : ℕ) (more : List ℕ) → length bytes ≤ 2147483647
    → binary_cell_at (place, to_be_bytes w32 (length bytes) ++ (bytes ++ more)) ≡ Ok (Binary bytes, (place + 4 + length bytes, more))
unfolding binary_cell_at
binary_cell_again bytes place more le =
    then_is (length_at (place, to_be_bytes w32 (length bytes) ++ (bytes ++ more))) (length bytes, (place + 4, bytes ++ more))
    (λ n. bytes_at n.0 n.1 >>= λ bytes. Ok (Binary bytes.0, bytes.1)) (length_again (length bytes) place (bytes ++ more) le)
    ∙ then_is (bytes_at (length bytes) (place + 4, bytes ++ more)) (bytes, (place + 4 + length bytes, more))
    (λ bytes. Ok (Binary bytes.0, bytes.1)) (bytes_again bytes (place + 4) more)

pub cell_again : (c : Cell) (place : ℕ) (more : List ℕ) → IsCell c → IsTextCell c
    → cell_at (place, cell_spelling c ++ more) ≡ Ok (c, (place + length (cell_spelling c), more))
unfolding cell_at
cell_again Null place more fits text = refl
cell_again Unchanged place more fits text = refl
cell_again (Text bytes) place more fits text =
    let moved : place + 1 + 4 + length bytes ≡ place + length (cell_spelling (Text bytes)) = omega arith in
    text_cell_again bytes (place + 1) more fits text ∙ ap (λ (p : ℕ). Ok (Text bytes, (p, more))) moved
cell_again (Binary bytes) place more fits text =
    let moved : place + 1 + 4 + length bytes ≡ place + length (cell_spelling (Binary bytes)) = omega arith in
    binary_cell_again bytes (place + 1) more fits ∙ ap (λ (p : ℕ). Ok (Binary bytes, (p, more))) moved

pub cells_again : (cells : List Cell) (place : ℕ) (more : List ℕ) → AllByRecursion IsCell cells → AllByRecursion IsTextCell cells
    → cells_at (length cells) (place, flat_map cell_spelling cells ++ more)
    ≡ Ok (cells, (place + length (flat_map cell_spelling cells), more))
unfolding cells_at
cells_again [] place more fits texts = ap (λ (p : ℕ). Ok ([], (p, more))) (omega arith)
cells_again (c ∷ cells) place more fits texts =
    let others : List ℕ = flat_map cell_spelling cells in
    let behind : ℕ = place + length (cell_spelling c) in
    let regrouped : flat_map cell_spelling (c ∷ cells) ++ more ≡ cell_spelling c ++ (others ++ more) =
    ap (λ (x : List ℕ). x ++ more) (flat_map-cons cell_spelling c cells) ∙ append_assoc (cell_spelling c) others more in
    let moved : behind + length others ≡ place + length (flat_map cell_spelling (c ∷ cells)) =
    omega (arith, length-append (cell_spelling c) others, ap length (flat_map-cons cell_spelling c cells)) in
    ap (λ (bytes : List ℕ). cells_at (suc (length cells)) (place, bytes)) regrouped
    ∙ then_is (cell_at (place, cell_spelling c ++ (others ++ more))) (c, (behind, others ++ more))
    (λ first. cells_at (length cells) first.1 >>= λ rest. Ok (first.0 ∷ rest.0, rest.1))
    (cell_again c place (others ++ more) fits.0 texts.0)
    ∙ then_is (cells_at (length cells) (behind, others ++ more)) (cells, (behind + length others, more)) (λ rest. Ok (c ∷ rest.0, rest.1))
    (cells_again cells behind more fits.1 texts.1)
    ∙ ap (λ (p : ℕ). Ok (c ∷ cells, (p, more))) moved

pub tuple_again : SpelledTuplesAreRead
unfolding tuple_at tuple_spelling
tuple_again cells more fits =
    let others : List ℕ = flat_map cell_spelling cells in
    let n : ℕ = length cells in
    let narrow : n ≤ 1600 = fits.tuple.width in
    let moved : 0 + 2 + length others ≡ length (to_be_bytes w16 n ++ others) = omega arith in
    then_is (number_at w16 (0, to_be_bytes w16 n ++ (others ++ more))) (n, (0 + 2, others ++ more))
    (λ width. cond (leb width.0 1600) (Ok width) (Err (fault.TooManyColumns 0)) >>= λ _few. cells_at width.0 width.1)
    (number_again w16 (2 ^ 16) wide16 n 0 (others ++ more) (omega arith))
    ∙ then_is (cond (leb n 1600) (Ok (n, (0 + 2, others ++ more))) (Err (fault.TooManyColumns 0))) (n, (0 + 2, others ++ more))
    (λ _few. cells_at n (0 + 2, others ++ more)) (rw (le-leb n 1600 narrow) refl)
    ∙ cells_again cells (0 + 2) more fits.tuple.each fits.texts
    ∙ ap (λ (p : ℕ). Ok (cells, (p, more))) moved

-- ---- no spelling begins another one

-- the head of a cell's spelling
head_of : {x y : ℕ} {a b : List ℕ} → x ∷ a ≡ y ∷ b → x ≡ y
head_of e = cc

tail_of : {x y : ℕ} {a b : List ℕ} → x ∷ a ≡ y ∷ b → a ≡ b
tail_of e = cc

-- Two lists with parts of one length in front.
parts_same : (a b x y : List ℕ) → length a ≡ length b → a ++ x ≡ b ++ y → (a ≡ b) × (x ≡ y)
parts_same a b x y len e = (
  sym (take_at a x (length a) refl) ∙ ap (λ (l : List ℕ). take (length a) l) e ∙ take_at b y (length a) (sym len),
  sym (drop_at a x (length a) refl) ∙ ap (λ (l : List ℕ). drop (length a) l) e ∙ drop_at b y (length a) (sym len),
)

bytes_apart : (a b x y : List ℕ) → length a ≤ 2147483647 → length b ≤ 2147483647
    → to_be_bytes w32 (length a) ++ (a ++ x) ≡ to_be_bytes w32 (length b) ++ (b ++ y) → (a ≡ b) × (x ≡ y)
bytes_apart a b x y la lb e =
    let front = parts_same (to_be_bytes w32 (length a)) (to_be_bytes w32 (length b)) (a ++ x) (b ++ y) refl e in
    let len : length a ≡ length b =
    sym (wide32.again (length a) (omega arith)) ∙ ap (λ (l : List ℕ). from_be_bytes w32 l) front.0
    ∙ wide32.again (length b) (omega arith) in
    parts_same a b x y len front.1

cell_apart : (a b : Cell) (x y : List ℕ) → IsCell a → IsCell b → cell_spelling a ++ x ≡ cell_spelling b ++ y → (a ≡ b) × (x ≡ y)
cell_apart Null Null x y fa fb e = (refl, tail_of e)
cell_apart Unchanged Unchanged x y fa fb e = (refl, tail_of e)
cell_apart (Text a) (Text b) x y fa fb e = let same = bytes_apart a b x y fa fb (tail_of e) in (ap Text same.0, same.1)
cell_apart (Binary a) (Binary b) x y fa fb e = let same = bytes_apart a b x y fa fb (tail_of e) in (ap Binary same.0, same.1)
cell_apart Null Unchanged x y fa fb e = absurd (omega (arith, head_of e))
cell_apart Null (Text b) x y fa fb e = absurd (omega (arith, head_of e))
cell_apart Null (Binary b) x y fa fb e = absurd (omega (arith, head_of e))
cell_apart Unchanged Null x y fa fb e = absurd (omega (arith, head_of e))
cell_apart Unchanged (Text b) x y fa fb e = absurd (omega (arith, head_of e))
cell_apart Unchanged (Binary b) x y fa fb e = absurd (omega (arith, head_of e))
cell_apart (Text a) Null x y fa fb e = absurd (omega (arith, head_of e))
cell_apart (Text a) Unchanged x y fa fb e = absurd (omega (arith, head_of e))
cell_apart (Text a) (Binary b) x y fa fb e = absurd (omega (arith, head_of e))
cell_apart (Binary a) Null x y fa fb e = absurd (omega (arith, head_of e))
cell_apart (Binary a) Unchanged x y fa fb e = absurd (omega (arith, head_of e))
cell_apart (Binary a) (Text b) x y fa fb e = absurd (omega (arith, head_of e))

cells_apart : (a b : List Cell) (x y : List ℕ) → length a ≡ length b → AllByRecursion IsCell a → AllByRecursion IsCell b
    → flat_map cell_spelling a ++ x ≡ flat_map cell_spelling b ++ y → (a ≡ b) × (x ≡ y)
cells_apart [] [] x y len fa fb e = (refl, e)
cells_apart [] (c ∷ b) x y len fa fb e = absurd (omega arith)
cells_apart (c ∷ a) [] x y len fa fb e = absurd (omega arith)
cells_apart (c ∷ a) (d ∷ b) x y len fa fb e =
    let regrouped = λ (c : Cell) (cells : List Cell) (more : List ℕ). ap (λ (l : List ℕ). l ++ more) (flat_map-cons cell_spelling c cells)
    ∙ append_assoc (cell_spelling c) (flat_map cell_spelling cells) more in
    let first = cell_apart c d (flat_map cell_spelling a ++ x) (flat_map cell_spelling b ++ y) fa.0 fb.0
    (sym (regrouped c a x) ∙ e ∙ regrouped d b y) in
    let others = cells_apart a b x y (omega arith) fa.1 fb.1 first.1 in
    (cc (first.0, others.0), others.1)

pub tuples_apart : NoSpellingBeginsAnother
unfolding tuple_spelling
tuples_apart a b x y fa fb e =
    let front = parts_same (to_be_bytes w16 (length a)) (to_be_bytes w16 (length b)) (flat_map cell_spelling a ++ x)
    (flat_map cell_spelling b ++ y) refl e in
    let na : length a ≤ 1600 = fa.width in
    let nb : length b ≤ 1600 = fb.width in
    let len : length a ≡ length b =
    sym (wide16.again (length a) (omega arith)) ∙ ap (λ (l : List ℕ). from_be_bytes w16 l) front.0
    ∙ wide16.again (length b) (omega arith) in
    cells_apart a b x y len fa.each fb.each front.1

-- ---- what is read was spelled so

pub length_takes : (at : At) (x : ℕ × At) → IsBytes at.1 → length_at at ≡ Ok x → Takes at (to_be_bytes w32 x.0) x.1 × (x.0 ≤ 2147483647)
unfolding length_at
length_takes at x fits e =
    let a = bind_ok (number_at w32 at) (λ n. cond (leb n.0 2147483647) (Ok n) (Err (fault.BadLength at.0))) x e in
    let g = when_ok (leb a.0.0 2147483647) (fault.BadLength at.0) a.0 x a.2 in
    let t = number_takes w32 (2 ^ 32) wide32 at a.0 fits a.1 in
    subst (λ (y : ℕ × At). Takes at (to_be_bytes w32 y.0) y.1 × (y.0 ≤ 2147483647)) g.1 (t.0, leb-true _ _ g.0)

pub bytes_take : (n : ℕ) (at : At) (x : List ℕ × At) → IsBytes at.1 → bytes_at n at ≡ Ok x → Takes at x.0 x.1 × (length x.0 ≡ n)
unfolding bytes_at
bytes_take n at x fits e =
    let g = unless_ok (ltb (length at.1) n) (fault.Short at.0) (take n at.1, further n at) x e in
    let long : n ≤ length at.1 = ltb-false _ _ g.0 in
    let len : length (take n at.1) ≡ n = omega (arith, length-take n at.1) in
    let taken : Takes at (take n at.1) (further n at) =
    record { parts = sym (take-append-drop n at.1); place = omega (arith, len); rest_fits = IsBytes-drop n at.1 fits } in
    subst (λ (y : List ℕ × At). Takes at y.0 y.1 × (length y.0 ≡ n)) g.1 (taken, len)

text_takes : (n : ℕ) (at : At) (x : List ℕ × At) → IsBytes at.1 → text_at n at ≡ Ok x
    → Takes at x.0 x.1 × (length x.0 ≡ n) × (is_utf8 x.0 ≡ true)
unfolding text_at
text_takes n at x fits e =
    let a = bind_ok (bytes_at n at) (λ bytes. cond (is_utf8 bytes.0) (Ok bytes) (Err (fault.NotUtf8 at.0))) x e in
    let g = when_ok (is_utf8 a.0.0) (fault.NotUtf8 at.0) a.0 x a.2 in
    let t = bytes_take n at a.0 fits a.1 in
    subst (λ (y : List ℕ × At). Takes at y.0 y.1 × (length y.0 ≡ n) × (is_utf8 y.0 ≡ true)) g.1 (t.0, t.1, g.0)

-- what is taken for a cell
abbrev pub IsTaken : At → Cell × At → Type 0
IsTaken at x = Takes at (cell_spelling x.0) x.1 × IsCell x.0 × IsTextCell x.0

-- the kind, the length and the bytes
counted : (kind place : ℕ) (rest : List ℕ) (n : ℕ × At) (bytes : List ℕ × At) → Takes (place + 1, rest) (to_be_bytes w32 n.0) n.1
    → Takes n.1 bytes.0 bytes.1 → length bytes.0 ≡ n.0
    → Takes (place, kind ∷ rest) (kind ∷ (to_be_bytes w32 (length bytes.0) ++ bytes.0)) bytes.1
counted kind place rest n bytes a b len =
    let both = Takes-then (place + 1, rest) (to_be_bytes w32 n.0) n.1 bytes.0 bytes.1 a b in
    let exact : Takes (place + 1, rest) (to_be_bytes w32 (length bytes.0) ++ bytes.0) bytes.1 =
    subst (λ (k : ℕ). Takes (place + 1, rest) (to_be_bytes w32 k ++ bytes.0) bytes.1) (sym len) both in
    record { parts = ap (λ (l : List ℕ). kind ∷ l) exact.parts; place = omega (arith, exact.place); rest_fits = exact.rest_fits }

text_cell_takes : (place : ℕ) (rest : List ℕ) (x : Cell × At) → IsBytes rest → text_cell_at (place + 1, rest) ≡ Ok x
    → IsTaken (place, 116 ∷ rest) x
unfolding text_cell_at
text_cell_takes place rest x fits e =
    let a = bind_ok (length_at (place + 1, rest)) (λ n. text_at n.0 n.1 >>= λ text. Ok (Text text.0, text.1)) x e in
    let b = bind_ok (text_at a.0.0 a.0.1) (λ text. Ok (Text text.0, text.1)) x a.2 in
    let n = length_takes (place + 1, rest) a.0 fits a.1 in
    let bytes = text_takes a.0.0 a.0.1 b.0 n.0.rest_fits b.1 in
    let made : Cell × At = (Text b.0.0, b.0.1) in
    subst (λ (y : Cell × At). Takes (place, 116 ∷ rest) (cell_spelling y.0) y.1 × IsCell y.0 × IsTextCell y.0) (ok_is made x b.2)
    (counted 116 place rest a.0 b.0 n.0 bytes.0 bytes.1, omega (arith, bytes.1, n.1), bytes.2)

binary_cell_takes : (place : ℕ) (rest : List ℕ) (x : Cell × At) → IsBytes rest → binary_cell_at (place + 1, rest) ≡ Ok x
    → IsTaken (place, 98 ∷ rest) x
unfolding binary_cell_at
binary_cell_takes place rest x fits e =
    let a = bind_ok (length_at (place + 1, rest)) (λ n. bytes_at n.0 n.1 >>= λ bytes. Ok (Binary bytes.0, bytes.1)) x e in
    let b = bind_ok (bytes_at a.0.0 a.0.1) (λ bytes. Ok (Binary bytes.0, bytes.1)) x a.2 in
    let n = length_takes (place + 1, rest) a.0 fits a.1 in
    let bytes = bytes_take a.0.0 a.0.1 b.0 n.0.rest_fits b.1 in
    let made : Cell × At = (Binary b.0.0, b.0.1) in
    subst (λ (y : Cell × At). Takes (place, 98 ∷ rest) (cell_spelling y.0) y.1 × IsCell y.0 × IsTextCell y.0) (ok_is made x b.2)
    (counted 98 place rest a.0 b.0 n.0 bytes.0 bytes.1, omega (arith, bytes.1, n.1), tt)

-- which way a test went
pub chosen : {A : Type 0} (b : Bool) (x y z : A) → cond b x y ≡ z → ((b ≡ true) × (x ≡ z)) ⊎ ((b ≡ false) × (y ≡ z))
chosen true x y z e = inl (refl, e)
chosen false x y z e = inr (refl, e)

plain : (kind place : ℕ) (rest : List ℕ) → IsBytes rest → Takes (place, kind ∷ rest) (kind ∷ []) (place + 1, rest)
plain kind place rest fits = record { parts = refl; place = refl; rest_fits = fits }

of_kind : (kind place : ℕ) (rest : List ℕ) (x : Cell × At) → IsBytes rest → cell_of kind (place, kind ∷ rest) (place + 1, rest) ≡ Ok x
    → IsTaken (place, kind ∷ rest) x
of_kind kind place rest x fits e =
    let here : At = (place, kind ∷ rest) in
    let behind : At = (place + 1, rest) in
    let Goal : ℕ → Cell × At → Type 0 = λ k y. Takes (place, k ∷ rest) (cell_spelling y.0) y.1 × IsCell y.0 × IsTextCell y.0 in
    let bad : Read Cell = Err (fault.BadKind place) in
    let binary : Read Cell = cond (eqb kind 98) (binary_cell_at behind) bad in
    let text : Read Cell = cond (eqb kind 116) (text_cell_at behind) binary in
    let unchanged : Read Cell = cond (eqb kind 117) (Ok (Unchanged, behind)) text in
    elim (chosen (eqb kind 110) (Ok (Null, behind)) unchanged (Ok x) e) [
      | inl null ↦ subst (λ (y : Cell × At). Goal kind y) (ok_is (Null, behind) x null.1)
          (subst (λ (k : ℕ). Goal k (Null, behind)) (sym (eqb-true _ _ null.0)) (plain 110 place rest fits, tt, tt))
      | inr p ↦ elim (chosen (eqb kind 117) (Ok (Unchanged, behind)) text (Ok x) p.1) [
        | inl same ↦ subst (λ (y : Cell × At). Goal kind y) (ok_is (Unchanged, behind) x same.1)
            (subst (λ (k : ℕ). Goal k (Unchanged, behind)) (sym (eqb-true _ _ same.0)) (plain 117 place rest fits, tt, tt))
        | inr q ↦ elim (chosen (eqb kind 116) (text_cell_at behind) binary (Ok x) q.1) [
          | inl t ↦ subst (λ (k : ℕ). Goal k x) (sym (eqb-true _ _ t.0)) (text_cell_takes place rest x fits t.1)
          | inr r ↦ elim (chosen (eqb kind 98) (binary_cell_at behind) bad (Ok x) r.1) [
            | inl b ↦ subst (λ (k : ℕ). Goal k x) (sym (eqb-true _ _ b.0)) (binary_cell_takes place rest x fits b.1)
            | inr s ↦ let never : bad ≡ Ok x = s.1 in absurd cc
          ]
        ]
      ]
    ]

pub cell_takes : (at : At) (x : Cell × At) → IsBytes at.1 → cell_at at ≡ Ok x → IsTaken at x
unfolding cell_at
cell_takes (place, []) x fits e = absurd cc
cell_takes (place, kind ∷ rest) x fits e = of_kind kind place rest x (IsBytes-rest kind rest fits) e

cells_take : (n : ℕ) (at : At) (x : List Cell × At) → IsBytes at.1 → cells_at n at ≡ Ok x
    → Takes at (flat_map cell_spelling x.0) x.1 × (length x.0 ≡ n) × AllByRecursion IsCell x.0 × AllByRecursion IsTextCell x.0
unfolding cells_at
cells_take zero at x fits e =
    subst (λ (y : List Cell × At). Takes at (flat_map cell_spelling y.0) y.1 × (length y.0 ≡ 0) × AllByRecursion IsCell y.0
    × AllByRecursion IsTextCell y.0) (ok_is ([], at) x e) (Takes-none at fits, refl, tt, tt)
cells_take (suc n) at x fits e =
    let a = bind_ok (cell_at at) (λ first. cells_at n first.1 >>= λ others. Ok (first.0 ∷ others.0, others.1)) x e in
    let b = bind_ok (cells_at n a.0.1) (λ others. Ok (a.0.0 ∷ others.0, others.1)) x a.2 in
    let first : Takes at (cell_spelling a.0.0) a.0.1 × IsCell a.0.0 × IsTextCell a.0.0 = cell_takes at a.0 fits a.1 in
    let others = cells_take n a.0.1 b.0 first.0.rest_fits b.1 in
    let both = Takes-then at (cell_spelling a.0.0) a.0.1 (flat_map cell_spelling b.0.0) b.0.1 first.0 others.0 in
    let made : List Cell × At = (a.0.0 ∷ b.0.0, b.0.1) in
    subst (λ (y : List Cell × At). Takes at (flat_map cell_spelling y.0) y.1 × (length y.0 ≡ suc n) × AllByRecursion IsCell y.0
    × AllByRecursion IsTextCell y.0) (ok_is made x b.2)
    (rw flat_map-cons both, ap suc others.1, (first.1, others.2), (first.2, others.3))

pub tuple_takes : ReadTuplesAreSpelled
unfolding tuple_at tuple_spelling
tuple_takes bytes cells place more fits e =
    let x : List Cell × At = (cells, (place, more)) in
    let a = bind_ok (number_at w16 (0, bytes))
    (λ width. cond (leb width.0 1600) (Ok width) (Err (fault.TooManyColumns 0)) >>= λ _few. cells_at width.0 width.1) x e in
    let b = bind_ok (cond (leb a.0.0 1600) (Ok a.0) (Err (fault.TooManyColumns 0))) (λ _few. cells_at a.0.0 a.0.1) x a.2 in
    let narrow : a.0.0 ≤ 1600 = leb-true _ _ (when_ok (leb a.0.0 1600) (fault.TooManyColumns 0) a.0 b.0 b.1).0 in
    let width = number_takes w16 (2 ^ 16) wide16 (0, bytes) a.0 fits a.1 in
    let each = cells_take a.0.0 a.0.1 x width.0.rest_fits b.2 in
    let all = Takes-then (0, bytes) (to_be_bytes w16 a.0.0) a.0.1 (flat_map cell_spelling cells) (place, more) width.0 each.0 in
    let exact : Takes (0, bytes) (to_be_bytes w16 (length cells) ++ flat_map cell_spelling cells) (place, more) =
    subst (λ (k : ℕ). Takes (0, bytes) (to_be_bytes w16 k ++ flat_map cell_spelling cells) (place, more)) (sym each.1) all in
    (record { tuple = record { width = omega (arith, each.1); each = each.2 }; texts = each.3 }, exact.parts, omega (arith, exact.place))
