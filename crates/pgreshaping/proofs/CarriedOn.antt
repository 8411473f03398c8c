-- Rows that are carried over, one after the other.
use Rattle.std.proofs.Common.{◌≡◌, ◌≢◌, ◌≤◌, ◌<◌, ◌^◌, ℕ, List, [], ◌∷◌, length, Bool, true}
use Rattle.std.proofs.Common.{false, cond, Option, Some, None, IfSome, refl, sym, ap, subst}
use Rattle.std.proofs.Common.{◌∙◌, inl, inr, true≢false, arith}
use Rattle.std.proofs.lemmas.List.{length-map}
use Rattle.std.specs.Prelude.{T, ◌&&◌, option_map}
use Rattle.std.specs.List.{AllByRecursion}
use Rattle.std.specs.Ordering.{nat_cmp, is_eq, is_lt}
use Rattle.std.specs.declared.cmp.Ordering.{Ordering}
use Rattle.std.specs.declared.cmp.Ordering.TheVariants.{Less, Equal, Greater}
use Rattle.std.specs.Cmp.Lexicographic.{slice_cmp, nat_list_cmp_total}
use Rattle.std.specs.FinMap as finite
use Rattle.std.specs.FinMap.{find, is_sorted, entries_sorted, get-entries, get-remove}
use Rattle.std.specs.FinMap.{nat_cmp-IsAntisymmetric, slice_cmp-IsAntisymmetric}
use Rattle.std.specs.FinMap.Entries.{below_all}
use Rattle.std.proofs.lemmas.Bool.{cases_Bool}
use Rattle.std.proofs.lemmas.Cmp.{tied_itself}
use Rattle.sqlite.specs.Store.{Ghosts}
use Rattle.sqlite.specs.State.{HasCleanDisk}
use Rattle.pgtuple.specs.Limits.{IsWireTuple}
use Rattle.pglogical.specs.declared.message.RelationDef.{RelationDef}
use Rattle.pgrel.specs.Identity.{keyed}
use Rattle.pgtables.specs.Kept as stored
use Rattle.pgtables.specs.Shown.{FitsCopies}
use Rattle.pgrows.specs.Rows.{Makes, state, tables_of}
use Rattle.pgrows.specs.Walk.{EachFits, EndsAt, IsNextRow}
use Rattle.pgapply.specs.declared.fault.StoreFault.{StoreFault}
use Rattle.pgapply.specs.Value.{Row, Rows, Table, Tables, IsRow}
use Rattle.pgapply.specs.Apply.{◌>>=◌, carry_row, carry_rows}
use Rattle.pgapply.specs.Stored.{IsFault}
use Rattle.pgapply.proofs.Entries.{each_entry}
use Rattle.pgapply.proofs.KeepsForm.{at_most, same_place}
use Rattle.pgapply.proofs.ChangedShapes.{flags_and_names, carry_none, carry_first}
use Rattle.pgencoded.specs.Spelled.{IsChanging, IsStored, spelled_row, row_in}
use Rattle.pgencoded.specs.Acts.{Goes, MakesOf}
use Rattle.pgencoded.proofs.Going.{goes_none, goes_then}
use Rattle.pgencoded.proofs.Deciding.{fault_first}
use Rattle.pgencoded.proofs.SpelledRows.{same_key}
use Rattle.pgreshaping.specs.Parks.{HasParked}
use Rattle.pgreshaping.specs.Carries.{AreKept, Carried, CarriesAll, CarriesOn, CarriesOne}
use Rattle.pgreshaping.specs.Carries.{IsKeptRow, RefusesToCarry, RefusesToCarryOne, emptied}
use Rattle.pgreshaping.proofs.Parked.{at_own, ends_bare, gone_own, not_below_none, nothing_goes}

abbrev R : List ℕ → List ℕ → Ordering
R = slice_cmp nat_cmp

abbrev Entry : Type 0
Entry = List ℕ × Row

abbrev AreRowsOf : RelationDef → List Entry → Type 0
AreRowsOf before = AllByRecursion (λ (e : Entry). IsKeptRow before e.1 (spelled_row e.1))

-- ---- the rows that are stored, in their order

module _ (v : Tables) (def : RelationDef) (t : stored.Tables) (h : IsStored v t) (table : Table)
    (at : finite.get v def.oid ≡ Some table) (before : RelationDef)
    (same : flags_and_names before.columns ≡ flags_and_names table.definition.columns) where
  same_width : length before.columns ≡ length table.definition.columns
  same_width = sym (length-map before.columns _) ∙ ap length same ∙ length-map table.definition.columns _

  each_kept : (es : List Entry) → AllByRecursion (λ (e : Entry). IsRow table.definition e.0 e.1 × IsWireTuple e.1.cells) es
      → AreRowsOf before es
  each_kept [] all = tt
  each_kept (e ∷ es) all =
      let is = all.0.0 in (
        record {
          is = refl;
          tuple = all.0.1;
          width = is.width ∙ sym same_width;
          sent = is.sent;
          some = is.some;
          few = at_most (keyed table.definition) e.1.copies is.copies;
        },
        each_kept es all.1,
      )

  pub kept_rows : AreKept before def.oid (finite.entries table.rows) t
  kept_rows = record {
    rises = entries_sorted table.rows;
    each = λ place. h.spelled.rows def.oid place ∙ ap (λ o. option_map spelled_row (row_in o place)) at
        ∙ ap (option_map spelled_row) (get-entries table.rows place);
    rows = each_kept (finite.entries table.rows)
        (each_entry nat_list_cmp_total (slice_cmp-IsAntisymmetric nat_cmp-IsAntisymmetric)
        (λ place row. IsRow table.definition place row × IsWireTuple row.cells) table.rows
        (λ place row found. ((h.form def.oid table at).each place row found, (h.spellable def.oid table at).rows place row found)));
  }

-- The relation's rows were parked, and then it got its definition.
module _ (def : RelationDef) (columns : List ℕ) (park : ℕ) (t read parked next : stored.Tables) (same : read ≡ t)
    (there : HasParked def.oid park read parked)
    (put : next ≡ stored.with_definition def.oid
    (record { namespace = def.namespace; name = def.name; letter = def.letter; columns = columns }) parked) where
  abbrev defined : stored.Tables → stored.Tables
  defined u = stored.with_definition def.oid
      (record { namespace = def.namespace; name = def.name; letter = def.letter; columns = columns }) u

  pub begins_emptied : (v : Tables) (start : Rows) → IsChanging v def start (emptied def columns t)
      → IsChanging v def start (stored.without_rows park next)
  begins_emptied v start h = subst (IsChanging v def start)
      (sym (ap (stored.without_rows park) put ∙ ap defined (there.rest ∙ ap (stored.without_rows def.oid) same))) h

  pub kept_aside : (before : RelationDef) (entries : List Entry) → AreKept before def.oid entries t → AreKept before park entries next
  kept_aside before entries kept = record {
    rises = kept.rises;
    each = λ place. ap (λ (u : stored.Tables). finite.get u.rows (park ∷ place)) put ∙ there.there place
        ∙ ap (λ (u : stored.Tables). finite.get u.rows (def.oid ∷ place)) same ∙ kept.each place;
    rows = kept.rows;
  }

-- ---- the first of them

first_of : (a b : Bool) → T (a && b) → T a
first_of true b p = tt
first_of false b p = p

second_of : (a b : Bool) → T (a && b) → T b
second_of true b p = p
second_of false b p = absurd p

lower : (o : Ordering) → T (is_lt o) → is_lt o ≡ true
lower Less p = refl
lower Equal p = absurd p
lower Greater p = absurd p

not_tied : (o : Ordering) → is_lt o ≡ true → is_eq o ≡ false
not_tied Less e = refl
not_tied Equal e = absurd (true≢false (sym e))
not_tied Greater e = absurd (true≢false (sym e))

same_some : {A : Type 0} {a b : A} → ◌≡◌ {A = Option A} (Some a) (Some b) → a ≡ b
same_some e = cc

never : {A B : Type 0} {x : A} (o : Option A) → o ≡ None → o ≡ Some x → B
never o none some = absurd (let no = sym none ∙ some in cc)

itself : (i : List ℕ) → same_key i i ≡ true
itself i = ap is_eq (tied_itself nat_list_cmp_total i)

-- an identity below all others isn't among them
not_among : (i : List ℕ) (es : List Entry) → T (below_all R i es) → find R i es ≡ None
not_among i [] p = refl
not_among i (e ∷ es) p =
    ap (λ b. cond b (Some e.1) (find R i es)) (not_tied (R i e.0) (lower (R i e.0) (first_of (is_lt (R i e.0)) (below_all R i es) p)))
    ∙ not_among i es (second_of (is_lt (R i e.0)) (below_all R i es) p)

-- one among them is above it
above_first : (i j : List ℕ) (es : List Entry) (row : Row) → T (below_all R i es) → find R j es ≡ Some row → is_lt (R i j) ≡ true
above_first i j [] row p found = absurd (let no = found in cc)
above_first i j (e ∷ es) row p found = elim (cases_Bool (same_key j e.0)) [
  | inl tie ↦ ap (λ x. is_lt (R i x)) (same_place j e.0 tie)
      ∙ lower (R i e.0) (first_of (is_lt (R i e.0)) (below_all R i es) p)
  | inr apart ↦ above_first i j es row (second_of (is_lt (R i e.0)) (below_all R i es) p)
      (sym (ap (λ b. cond b (Some e.1) (find R j es)) apart) ∙ found)
]

-- the entries begin with this one, whose row is stored
record Begins (ident : List ℕ) (k : stored.Copies) (left : List Entry) : Type 0 where
  pub row : Row
  pub more : List Entry
  pub left_is : left ≡ (ident, row) ∷ more
  pub row_is : k ≡ spelled_row row

module _ (before : RelationDef) (park : ℕ) where
  none_left : (left : List Entry) (t : stored.Tables) → AreKept before park left t → EndsAt park [] t.rows → left ≡ []
  none_left [] t kept ends = refl
  none_left (e ∷ more) t kept ends = absurd (
      let here : find R e.0 (e ∷ more) ≡ Some e.1 = ap (λ b. cond b (Some e.1) (find R e.0 more)) (itself e.0) in
      let no = sym (ends_bare park t.rows ends e.0) ∙ kept.each e.0 ∙ ap (option_map spelled_row) here in cc)

  begins : (left : List Entry) (t : stored.Tables) → AreKept before park left t → (ident : List ℕ) (k : stored.Copies)
      → IsNextRow park [] t.rows ident k → Begins ident k left
  begins [] t kept ident k is = never (finite.get t.rows (park ∷ ident)) (kept.each ident) is.there
  begins (e ∷ more) t kept ident k is = elim (cases_Bool (same_key ident e.0)) [
    | inl tie ↦
        let same : ident ≡ e.0 = same_place ident e.0 tie in
        let row_is : Some k ≡ Some (spelled_row e.1) = sym is.there ∙ kept.each ident
        ∙ ap (λ b. option_map spelled_row (cond b (Some e.1) (find R ident more))) tie in
        record { row = e.1; more = more; left_is = ap (λ i. (i, e.1) ∷ more) (sym same); row_is = same_some row_is }
    | inr apart ↦ later apart (find R ident more) refl
  ]
    where
      later : same_key ident e.0 ≡ false → (o : Option Row) → find R ident more ≡ o → Begins ident k (e ∷ more)
      later apart None found = never (finite.get t.rows (park ∷ ident))
          (kept.each ident ∙ ap (λ b. option_map spelled_row (cond b (Some e.1) (find R ident more))) apart
          ∙ ap (option_map spelled_row) found)
          is.there
      later apart (Some row) found =
          let below : is_lt (R e.0 ident) ≡ true =
          above_first e.0 ident more row (first_of (below_all R e.0 more) (is_sorted R more) kept.rises) found in
          let here : find R e.0 (e ∷ more) ≡ Some e.1 = ap (λ b. cond b (Some e.1) (find R e.0 more)) (itself e.0) in
          never (finite.get t.rows (park ∷ e.0)) (is.first e.0 (not_below_none e.0) below)
          (kept.each e.0 ∙ ap (option_map spelled_row) here)

  -- it goes
  rest_kept : (ident : List ℕ) (row : Row) (more : List Entry) (t : stored.Tables) → AreKept before park ((ident, row) ∷ more) t
      → AreKept before park more (stored.without_row park ident t)
  rest_kept ident row more t kept = record {
    rises = second_of (below_all R ident more) (is_sorted R more) kept.rises;
    each = λ place. get-remove nat_list_cmp_total t.rows (park ∷ ident) (park ∷ place)
        ∙ ap (λ b. cond b None (finite.get t.rows (park ∷ place))) (at_own park ident place)
        ∙ ap (cond (same_key place ident) None) (kept.each place)
        ∙ go place (same_key place ident) refl;
    rows = kept.rows.1;
  }
    where
      go : (place : List ℕ) (b : Bool) → same_key place ident ≡ b
          → cond b None (option_map spelled_row (cond b (Some row) (find R place more))) ≡ option_map spelled_row (find R place more)
      go place true tie = ap (option_map spelled_row)
          (sym (ap (λ x. find R x more) (same_place place ident tie)
          ∙ not_among ident more (first_of (below_all R ident more) (is_sorted R more) kept.rises)))
      go place false tie = refl

  kept_as : (left : List Entry) (t u : stored.Tables)
      → ((place : List ℕ) → finite.get u.rows (park ∷ place) ≡ finite.get t.rows (park ∷ place))
      → AreKept before park left t → AreKept before park left u
  kept_as left t u same kept = record { rises = kept.rises; each = λ place. same place ∙ kept.each place; rows = kept.rows }

-- ---- rows that are read

few_fits : (n : ℕ) → n ≤ 2147483647 → n < 2 ^ 32
few_fits n few = omega (arith, few)

pub kept_fit : (before : RelationDef) (oid : ℕ) (entries : List Entry) (t : stored.Tables) → AreKept before oid entries t → EachFits oid t
kept_fit before oid entries t kept place =
    subst (λ o. IfSome o FitsCopies) (sym (kept.each place)) (go entries kept.rows)
  where
    go : (es : List Entry) → AreRowsOf before es → IfSome (option_map spelled_row (find R place es)) FitsCopies
    go [] are = tt
    go (e ∷ es) are = elim (same_key place e.0) as
        (λ b. IfSome (option_map spelled_row (cond b (Some e.1) (find R place es))) FitsCopies) [
          | true ↦ few_fits e.1.copies are.0.few
          | false ↦ go es are.1
        ]

-- ---- one row after the other

module _ {S : Type 0} (g : Ghosts S) (a : S) (before def : RelationDef) (park : ℕ) (apart : park ≢ def.oid) where
  pub carries_on_none : CarriesOn g a a before def park
  carries_on_none = record {
    goes = goes_none g a;
    made = λ clean v entries start h kept. record { left = entries; rows = start; parked = kept; same = refl; changing = h };
  }

  module _ (b : S) (so_far : CarriesOn g a b before def park) where
    module _ (v : Tables) (entries : List Entry) (start : Rows) (was : Carried v before def park entries start (tables_of g b))
        (ident : List ℕ) (k : stored.Copies) (is : IsNextRow park [] (tables_of g b).rows ident k) where
      abbrev it : Begins ident k was.left
      it = begins before park was.left (tables_of g b) was.parked ident k is

      now : AreKept before park ((ident, it.row) ∷ it.more) (tables_of g b)
      now = subst (λ l. AreKept before park l (tables_of g b)) it.left_is was.parked

      now_same : carry_rows before def entries start ≡ (carry_row before def it.row was.rows >>= carry_rows before def it.more)
      now_same = was.same ∙ ap (λ l. carry_rows before def l was.rows) it.left_is
          ∙ carry_first before def (ident, it.row) it.more was.rows

      now_kept : IsKeptRow before it.row k
      now_kept = subst (IsKeptRow before it.row) (sym it.row_is) now.rows.0

      carried_then : (c d e : S) → Makes g (λ t. t) b c → CarriesOne g c d before def k
          → Makes g (stored.without_row park ident) d e → Carried v before def park entries start (tables_of g e)
      carried_then c d e read one gone =
          let made = one.made it.row now_kept park apart v was.rows
          (subst (λ t. IsChanging v def was.rows (stored.without_rows park t)) (sym read.made) was.changing) in
          record {
            left = it.more;
            rows = made.0;
            parked = subst (AreKept before park it.more) (sym gone.made)
                (rest_kept before park ident it.row it.more (tables_of g d)
                (kept_as before park ((ident, it.row) ∷ it.more) (tables_of g b) (tables_of g d)
                (λ place. one.beside park apart place ∙ ap (λ (t : stored.Tables). finite.get t.rows (park ∷ place)) read.made) now));
            same = now_same ∙ ap (λ r. r >>= carry_rows before def it.more) made.1;
            changing = subst (IsChanging v def made.0)
                (sym (gone_own park ident k (tables_of g d)) ∙ ap (stored.without_rows park) (sym gone.made)) made.2;
          }

      refused_then : (c : S) (fault : StoreFault) → Makes g (λ t. t) b c → RefusesToCarryOne g c before def k fault
          → IsFault fault (carry_rows before def entries start)
      refused_then c fault read refuses =
          subst (IsFault fault) (sym now_same)
          (fault_first fault (carry_row before def it.row was.rows) (carry_rows before def it.more)
          (refuses it.row now_kept park apart v was.rows
          (subst (λ t. IsChanging v def was.rows (stored.without_rows park t)) (sym read.made) was.changing)))

    -- the next row was read, is carried and goes
    pub carries_on : (c d e : S) (ident : List ℕ) (k : stored.Copies)
        → (HasCleanDisk (state g c) → IsNextRow park [] (tables_of g b).rows ident k × Makes g (λ t. t) b c) → Goes g b c
        → (HasCleanDisk (state g d) → CarriesOne g c d before def k) → Goes g c d
        → (HasCleanDisk (state g e) → Makes g (stored.without_row park ident) d e) → Goes g d e → CarriesOn g a e before def park
    carries_on c d e ident k read goes_read one goes_one gone goes_gone = record {
      goes = goes_then g a d e
          (goes_then g a c d (goes_then g a b c so_far.goes goes_read.keeps goes_read.survives) goes_one.keeps goes_one.survives)
          goes_gone.keeps goes_gone.survives;
      made = λ clean v entries start h kept.
          let third : HasCleanDisk (state g d) = omega (arith, goes_gone.survives.clean) in
          let second : HasCleanDisk (state g c) = omega (arith, goes_gone.survives.clean, goes_one.survives.clean) in
          let first : HasCleanDisk (state g b) =
          omega (arith, goes_gone.survives.clean, goes_one.survives.clean, goes_read.survives.clean) in
          let met = read second in
          carried_then v entries start (so_far.made first v entries start h kept) ident k met.0 c d e met.1 (one third) (gone clean);
    }

    -- a row that is refused, whatever follows it
    pub refuses_on : (c : S) (ident : List ℕ) (k : stored.Copies) (fault : StoreFault)
        → HasCleanDisk (state g c) → IsNextRow park [] (tables_of g b).rows ident k × Makes g (λ t. t) b c → Goes g b c
        → RefusesToCarryOne g c before def k fault → RefusesToCarry g a before def park fault
    refuses_on c ident k fault clean met goes_read refuses v entries start h kept =
        let was : HasCleanDisk (state g b) = omega (arith, goes_read.survives.clean) in
        refused_then v entries start (so_far.made was v entries start h kept) ident k met.0 c fault met.1 refuses

    -- none is left
    pub carries_end : (c : S) → (HasCleanDisk (state g c) → EndsAt park [] (tables_of g b).rows × Makes g (λ t. t) b c) → Goes g b c
        → HasCleanDisk (state g c) → CarriesAll g a c before def park
    carries_end c read goes_read clean =
        let was : HasCleanDisk (state g b) = omega (arith, goes_read.survives.clean) in
        let met = read clean in (
          record { was_open = (so_far.goes.keeps was).commit.was_open met.1.was_open; is_open = met.1.is_open },
          λ v entries start h kept. last v entries start (so_far.made was v entries start h kept) met,
        )
      where
        last : (v : Tables) (entries : List Entry) (start : Rows) → Carried v before def park entries start (tables_of g b)
            → EndsAt park [] (tables_of g b).rows × Makes g (λ t. t) b c
            → MakesOf v def (carry_rows before def entries start) (tables_of g c)
        last v entries start so met =
            let none = none_left before park so.left (tables_of g b) so.parked met.0 in
            let bare = nothing_goes park (tables_of g b) (ends_bare park (tables_of g b).rows met.0) in (
              so.rows,
              so.same ∙ ap (λ l. carry_rows before def l so.rows) none ∙ carry_none before def so.rows,
              subst (IsChanging v def so.rows) (bare ∙ sym met.1.made) so.changing,
            )

    pub carries_fit : HasCleanDisk (state g b) → (v : Tables) (entries : List Entry) (start : Rows)
        → IsChanging v def start (stored.without_rows park (tables_of g a)) → AreKept before park entries (tables_of g a)
        → EachFits park (tables_of g b)
    carries_fit was v entries start h kept =
        let so = so_far.made was v entries start h kept in
        kept_fit before park so.left (tables_of g b) so.parked
