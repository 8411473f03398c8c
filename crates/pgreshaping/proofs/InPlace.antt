-- Rows are rewritten one after the other, each in its place.
use Rattle.std.proofs.Common.{◌≡◌, ◌≤◌, ◌<◌, ◌^◌, ℕ, List, [], ◌∷◌, ◌++◌, true, false, not}
use Rattle.std.proofs.Common.{cond}
use Rattle.std.proofs.Common.{Option, Some, None, IfSome, refl, sym, ap, subst, ◌∙◌, inl, inr}
use Rattle.std.proofs.Common.{arith}
use Rattle.std.proofs.Common.{true≢false}
use Rattle.std.specs.Prelude.{option_map, if◌then◌else◌}
use Rattle.std.specs.Ordering.{nat_cmp, is_eq, is_lt, ordering_then, ordering_reverse}
use Rattle.std.specs.declared.cmp.Ordering.{Ordering}
use Rattle.std.specs.declared.cmp.Ordering.TheVariants.{Less, Equal, Greater}
use Rattle.std.specs.Cmp.{nat_cmp_total}
use Rattle.std.specs.Cmp.Lexicographic.{slice_cmp, nat_list_cmp_total}
use Rattle.std.specs.FinMap as map
use Rattle.std.specs.FinMap.{get-insert, nat_cmp-IsAntisymmetric, slice_cmp-IsAntisymmetric}
use Rattle.std.proofs.lemmas.Bool.{cases_Bool}
use Rattle.std.proofs.lemmas.Bool.Decides.{nat_tests}
use Rattle.sqlite.specs.Store.{Ghosts}
use Rattle.sqlite.specs.State.{HasCleanDisk}
use Rattle.pgtuple.specs.declared.cell.Cell.{Cell}
use Rattle.pgtuple.specs.Cells.{tuple_spelling}
use Rattle.pgtuple.specs.Limits.{IsWireTuple}
use Rattle.pglogical.specs.declared.message.RelationDef.{RelationDef}
use Rattle.pgrel.specs.Carried.{carried}
use Rattle.pgtables.specs.Kept as stored
use Rattle.pgtables.specs.Shown.{FitsCopies}
use Rattle.pgrows.specs.Rows.{Makes, state, tables_of}
use Rattle.pgrows.specs.Walk.{EachFits, EndsAt, IsNextRow}
use Rattle.pgapply.specs.Value.{Row, Rows, Tables}
use Rattle.pgapply.specs.Apply.{moved}
use Rattle.pgencoded.specs.Spelled.{IsSpelled, AreTupleRows, spelled_row, with_rows}
use Rattle.pgencoded.specs.Acts.{Goes}
use Rattle.pgencoded.proofs.Going.{goes_none, goes_then}
use Rattle.pgencoded.proofs.SpelledRows.{own_row, row_put}
use Rattle.pgreshaping.specs.Carries.{IsKeptRow}
use Rattle.pgreshaping.specs.Rewrites.{AreReadable, HasRewritten, HasRewrittenTo, RewritesAll}
use Rattle.pgreshaping.specs.Rewrites.{RewritesOn, RewritesOne}

abbrev R : List ℕ → List ℕ → Ordering
R = slice_cmp nat_cmp

-- ---- identities in their order

turns : (c p q : Ordering) → is_lt p ≡ not (is_lt q)
    → is_lt (ordering_then c p) ≡ not (is_lt (ordering_then (ordering_reverse c) q))
turns Less p q h = refl
turns Equal p q h = h
turns Greater p q h = refl

above_zero : (c p : Ordering) → is_lt c ≡ false → is_lt p ≡ false → is_lt (ordering_then c p) ≡ false
above_zero Less p off h = absurd (true≢false off)
above_zero Equal p off h = h
above_zero Greater p off h = refl

not_below_zero : (n : ℕ) → is_lt (nat_cmp n 0) ≡ false
not_below_zero n = grind (arith, nat_tests)

not_below_none : (p : List ℕ) → is_lt (R p []) ≡ false
not_below_none [] = refl
not_below_none (x ∷ p) = refl

-- no list is between another and the same with a zero behind it
pub pushed : (p i : List ℕ) → is_lt (R p (i ++ 0 ∷ [])) ≡ not (is_lt (R i p))
pushed [] [] = refl
pushed [] (a ∷ i) = refl
pushed (x ∷ p) [] = above_zero (nat_cmp x 0) (R p []) (not_below_zero x) (not_below_none p)
pushed (x ∷ p) (a ∷ i) =
    turns (nat_cmp x a) (R p (i ++ 0 ∷ [])) (R i p) (pushed p i)
    ∙ ap (λ c. not (is_lt (ordering_then c (R i p)))) (sym (nat_cmp_total.antisymm a x))

back : (p i : List ℕ) (c : Ordering) → R p i ≡ c → R i p ≡ ordering_reverse c
back p i c is = nat_list_cmp_total.antisymm i p ∙ ap ordering_reverse is

lower : (c : Ordering) → is_lt c ≡ true → c ≡ Less
lower Less h = refl
lower Equal h = absurd (true≢false (sym h))
lower Greater h = absurd (true≢false (sym h))

-- one above another that isn't below a third isn't below that either
stays_above : (p i from : List ℕ) → R p i ≡ Greater → is_lt (R i from) ≡ false → is_lt (R p from) ≡ false
stays_above p i from above over = elim (cases_Bool (is_lt (R p from))) [
  | inr over_it ↦ over_it
  | inl below ↦ absurd (true≢false (sym
      (ap is_lt (nat_list_cmp_total.trans i p from (back p i Greater above) (lower (R p from) below))) ∙ over))
]

-- ---- rows

same_some : {A : Type 0} {a b : A} → ◌≡◌ {A = Option A} (Some a) (Some b) → a ≡ b
same_some e = cc

none_of : {A B : Type 0} (f : A → B) (o : Option A) → option_map f o ≡ None → o ≡ None
none_of f None e = refl
none_of f (Some a) e = absurd (cc)

some_of : {A B : Type 0} (f : A → B) (o : Option A) (b : B) → option_map f o ≡ Some b → (a : A) × (o ≡ Some a) × (f a ≡ b)
some_of f None b e = absurd (cc)
some_of f (Some a) b e = (a, refl, same_some e)

module _ (v : Tables) (before def : RelationDef) (start : Rows) where
  abbrev To : List ℕ → stored.Tables → Type 0
  To = HasRewrittenTo v before def start

  abbrev at : List ℕ → Option Row
  at place = map.get start place

  abbrev next_at : List ℕ → Option Row
  next_at place = option_map (moved before def) (map.get start place)

  pub rewrites_none : (t : stored.Tables) → IsSpelled (with_rows v def start) t → To [] t
  rewrites_none t h = record {
    rows = start;
    spelled = h;
    each = λ place. ap (λ b. if b then next_at place else at place) (sym (not_below_none place));
    tuples = λ place row below. absurd (true≢false (sym below ∙ not_below_none place));
  }

  module _ (from : List ℕ) (t : stored.Tables) (h : To from t) where
    -- a row that isn't rewritten yet
    standing : (place : List ℕ) → is_lt (R place from) ≡ false → map.get h.rows place ≡ at place
    standing place over = h.each place ∙ ap (λ b. if b then next_at place else at place) over

    rewritten : (place : List ℕ) → is_lt (R place from) ≡ true → map.get h.rows place ≡ next_at place
    rewritten place below = h.each place ∙ ap (λ b. if b then next_at place else at place) below

    missing : (place : List ℕ) → is_lt (R place from) ≡ false → map.get t.rows (def.oid ∷ place) ≡ None → at place ≡ None
    missing place over none =
        sym (standing place over)
        ∙ none_of spelled_row (map.get h.rows place) (sym (own_row v def h.rows t h.spelled place) ∙ none)

    -- ---- none is left

    pub rewrites_all : EndsAt def.oid from t.rows → HasRewritten v before def start t
    rewrites_all ends = record { rows = h.rows; spelled = h.spelled; each = each; tuples = tuples }
      where
        each : (place : List ℕ) → map.get h.rows place ≡ next_at place
        each place = elim (cases_Bool (is_lt (R place from))) [
          | inl below ↦ rewritten place below
          | inr over ↦
              let none = missing place over (ends place over) in
              standing place over ∙ none ∙ ap (option_map (moved before def)) (sym none)
        ]

        tuples : AreTupleRows h.rows
        tuples place row is =
            let it = some_of (moved before def) (at place) row (sym (each place) ∙ is) in
            let below : is_lt (R place from) ≡ true = elim (cases_Bool (is_lt (R place from))) [
              | inl below ↦ below
              | inr over ↦ absurd (let no = sym (missing place over (ends place over)) ∙ it.1 in cc)
            ] in
            subst (λ (r : Row). IsWireTuple r.cells) it.2 (h.tuples place it.0 below it.1)

    -- ---- the next one

    module _ (ident : List ℕ) (k : stored.Copies) (is : IsNextRow def.oid from t.rows ident k) where
      pub its_row : (row : Row) × (at ident ≡ Some row) × (k ≡ spelled_row row)
      its_row =
          let there = sym (own_row v def h.rows t h.spelled ident) ∙ is.there in
          let it = some_of spelled_row (map.get h.rows ident) k there in
          (it.0, sym (standing ident is.not_below) ∙ it.1, sym it.2)

      -- none stands between
      between : (place : List ℕ) → R place ident ≡ Less → is_lt (R place from) ≡ false → at place ≡ None
      between place below over = missing place over (is.first place over (ap is_lt below))

      module _ (row : Row) (there : at ident ≡ Some row) (tuple : IsWireTuple (carried before def row.cells)) where
        abbrev next : Row
        next = moved before def row

        abbrev put : Rows
        put = map.insert h.rows ident next

        put_at : (place : List ℕ) (c : Ordering) → R place ident ≡ c
            → map.get put place ≡ cond (is_eq c) (Some next) (map.get h.rows place)
        put_at place c e = get-insert nat_list_cmp_total h.rows ident next place
            ∙ ap (λ o. cond (is_eq o) (Some next) (map.get h.rows place)) e

        then_at : (place : List ℕ) (c : Ordering) → R place ident ≡ c
            → is_lt (R place (ident ++ 0 ∷ [])) ≡ not (is_lt (ordering_reverse c))
        then_at place c e = pushed place ident ∙ ap (λ o. not (is_lt o)) (back place ident c e)

        same_place : (place : List ℕ) → R place ident ≡ Equal → place ≡ ident
        same_place place e = slice_cmp-IsAntisymmetric nat_cmp-IsAntisymmetric place ident e

        passed : (place : List ℕ) → R place ident ≡ Less → map.get h.rows place ≡ next_at place
        passed place e = elim (cases_Bool (is_lt (R place from))) [
          | inl below ↦ rewritten place below
          | inr over ↦
              let none = between place e over in
              standing place over ∙ none ∙ ap (option_map (moved before def)) (sym none)
        ]

        behind : (place : List ℕ) (c : Ordering) → R place ident ≡ c
            → map.get put place ≡ (if is_lt (R place (ident ++ 0 ∷ [])) then next_at place else at place)
        behind place Less e =
            put_at place Less e ∙ passed place e ∙ ap (λ b. if b then next_at place else at place) (sym (then_at place Less e))
        behind place Equal e =
            put_at place Equal e ∙ ap (option_map (moved before def)) (sym there ∙ ap at (sym (same_place place e)))
            ∙ ap (λ b. if b then next_at place else at place) (sym (then_at place Equal e))
        behind place Greater e =
            put_at place Greater e ∙ standing place (stays_above place ident from e is.not_below)
            ∙ ap (λ b. if b then next_at place else at place) (sym (then_at place Greater e))

        tuples_behind : (place : List ℕ) (c : Ordering) → R place ident ≡ c → (r : Row)
            → is_lt (R place (ident ++ 0 ∷ [])) ≡ true → at place ≡ Some r → IsWireTuple (carried before def r.cells)
        tuples_behind place Less e r low has = elim (cases_Bool (is_lt (R place from))) [
          | inl below ↦ h.tuples place r below has
          | inr over ↦ absurd (let no = sym (between place e over) ∙ has in cc)
        ]
        tuples_behind place Equal e r low has =
            let one : row ≡ r = same_some (sym there ∙ ap at (sym (same_place place e)) ∙ has) in
            subst (λ (x : Row). IsWireTuple (carried before def x.cells)) one tuple
        tuples_behind place Greater e r low has = absurd (true≢false (sym low ∙ then_at place Greater e))

        pub rewrites_then : (after : stored.Tables) (onward : List ℕ) → after ≡ stored.with_row def.oid ident (spelled_row next) t
            → onward ≡ ident ++ 0 ∷ [] → To onward after
        rewrites_then after onward made pushed_is = subst (λ l. To l after) (sym pushed_is) (record {
          rows = put;
          spelled = subst (IsSpelled (with_rows v def put)) (sym made) (row_put v def h.rows t h.spelled ident next);
          each = λ place. behind place (R place ident) refl;
          tuples = λ place r low has. tuples_behind place (R place ident) refl r low has;
        })

    -- ---- rows that are read

    few_fits : (n : ℕ) → n ≤ 2147483647 → n < 2 ^ 32
    few_fits n few = omega (arith, few)

    pub each_fits : AreReadable before start → EachFits def.oid t
    each_fits readable ident =
        subst (λ o. IfSome o FitsCopies) (sym (own_row v def h.rows t h.spelled ident)) (go (map.get h.rows ident) refl)
      where
        some_fits : (row : Row) → at ident ≡ Some row → FitsCopies (spelled_row row)
        some_fits row is = few_fits row.copies (readable ident row is).few

        go : (o : Option Row) → map.get h.rows ident ≡ o → IfSome (option_map spelled_row o) FitsCopies
        go None e = tt
        go (Some row) e = elim (cases_Bool (is_lt (R ident from))) [
          | inl below ↦
              let it = some_of (moved before def) (at ident) row (sym (rewritten ident below) ∙ e) in
              subst (λ (r : Row). r.copies < 2 ^ 32) it.2 (some_fits it.0 it.1)
          | inr over ↦ some_fits row (sym (standing ident over) ∙ e)
        ]

-- ---- a loop over them

module _ {S : Type 0} (g : Ghosts S) (a : S) (before def : RelationDef) where
  pub rewrites_on_none : RewritesOn g a a before def []
  rewrites_on_none = record { goes = goes_none g a; made = λ clean v start h readable. rewrites_none v before def start (tables_of g a) h }

  module _ (b : S) (from : List ℕ) (so_far : RewritesOn g a b before def from) where
    -- the next row was read, and it is rewritten
    pub rewrites_on : (c d : S) (ident onward : List ℕ) (k : stored.Copies)
        → (HasCleanDisk (state g c) → IsNextRow def.oid from (tables_of g b).rows ident k × Makes g (λ t. t) b c)
        → Goes g b c → (HasCleanDisk (state g d) → RewritesOne g c d before def ident k) → Goes g c d
        → onward ≡ ident ++ 0 ∷ [] → RewritesOn g a d before def onward
    rewrites_on c d ident onward k read goes_read one goes pushed_is = record {
      goes = goes_then g a c d (goes_then g a b c so_far.goes goes_read.keeps goes_read.survives) goes.keeps goes.survives;
      made = λ clean v start h readable.
          let mid : HasCleanDisk (state g c) = omega (arith, goes.survives.clean) in
          let was : HasCleanDisk (state g b) = omega (arith, goes.survives.clean, goes_read.survives.clean) in
          let met = read mid in
          let to = so_far.made was v start h readable in
          let it = its_row v before def start from (tables_of g b) to ident k met.0 in
          let kept : IsKeptRow before it.0 k = subst (IsKeptRow before it.0) (sym it.2) (readable ident it.0 it.1) in
          let step = (one clean).1 it.0 kept in
          rewrites_then v before def start from (tables_of g b) to ident k met.0 it.0 it.1 step.0 (tables_of g d) onward
          (step.1 ∙ ap (stored.with_row def.oid ident (spelled_row (moved before def it.0))) met.1.made) pushed_is;
    }

    -- none is left
    pub rewrites_end : (c : S) → (HasCleanDisk (state g c) → EndsAt def.oid from (tables_of g b).rows × Makes g (λ t. t) b c) → Goes g b c
        → HasCleanDisk (state g c) → RewritesAll g a c before def
    rewrites_end c read goes_read clean =
        let was : HasCleanDisk (state g b) = omega (arith, goes_read.survives.clean) in
        let met = read clean in (
          record { was_open = (so_far.goes.keeps was).commit.was_open met.1.was_open; is_open = met.1.is_open },
          λ v start h readable. subst (HasRewritten v before def start) (sym met.1.made)
              (rewrites_all v before def start from (tables_of g b) (so_far.made was v start h readable) met.0),
        )

    pub fits_on : HasCleanDisk (state g b) → (v : Tables) (start : Rows) → IsSpelled (with_rows v def start) (tables_of g a)
        → AreReadable before start → EachFits def.oid (tables_of g b)
    fits_on was v start h readable =
        each_fits v before def start from (tables_of g b) (so_far.made was v start h readable) readable

    -- the row that was read is one that the store has written
    pub kept_on : HasCleanDisk (state g b) → (ident : List ℕ) (k : stored.Copies) → IsNextRow def.oid from (tables_of g b).rows ident k
        → (v : Tables) (start : Rows) → IsSpelled (with_rows v def start) (tables_of g a) → AreReadable before start
        → (row : Row) × IsKeptRow before row k
    kept_on was ident k met v start h readable =
        let it = its_row v before def start from (tables_of g b) (so_far.made was v start h readable) ident k met in
        (it.0, subst (IsKeptRow before it.0) (sym it.2) (readable ident it.0 it.1))

-- ---- one row

pub rewrites_one : {S : Type 0} (g : Ghosts S) (old new : S) (before def : RelationDef) (place body : List ℕ) (copies : ℕ)
    (kept : stored.Copies) (was next : List Cell) → ((row : Row) → IsKeptRow before row kept → was ≡ row.cells)
    → next ≡ carried before def was → body ≡ tuple_spelling next → copies ≡ kept.copies → IsWireTuple next
    → Makes g (stored.with_row def.oid place (record { body = body; copies = copies })) old new
    → RewritesOne g old new before def place kept
rewrites_one g old new before def place body copies kept was next read is spelled count tuple put = (
  record { was_open = put.was_open; is_open = put.is_open },
  λ row k.
      let cells : next ≡ carried before def row.cells = is ∙ ap (carried before def) (read row k) in
      let body_is : body ≡ tuple_spelling (carried before def row.cells) = spelled ∙ ap tuple_spelling cells in
      let copies_are : copies ≡ row.copies = count ∙ ap (λ (x : stored.Copies). x.copies) k.is in (
        subst IsWireTuple cells tuple,
        put.made ∙ (λ i. stored.with_row def.oid place (record { body = body_is i; copies = copies_are i }) (tables_of g old)),
      ),
)
