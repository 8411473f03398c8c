-- Rows that were rewritten in their places are those that a change finds.
use Rattle.std.proofs.Common.{◌≡◌, ◌≤◌, ℕ, List, [], ◌∷◌, length, Bool, true, false, cond}
use Rattle.std.proofs.Common.{Option}
use Rattle.std.proofs.Common.{Some, None, Ok, Err, refl, sym, ap, subst, ◌∙◌, inl, inr}
use Rattle.std.proofs.Common.{arith}
use Rattle.std.proofs.Common.{true≢false}
use Rattle.std.specs.Prelude.{T, ◌&&◌, option_map, nat_lt, if◌then◌else◌}
use Rattle.std.specs.List.{AllByRecursion}
use Rattle.std.specs.Ordering.{nat_cmp, eq_by_cmp, is_eq, is_lt}
use Rattle.std.specs.declared.cmp.Ordering.{Ordering}
use Rattle.std.specs.declared.cmp.Ordering.TheVariants.{Less, Equal, Greater}
use Rattle.std.specs.Cmp.Lexicographic.{slice_cmp, nat_list_cmp_total}
use Rattle.std.specs.FinMap as finite
use Rattle.std.specs.FinMap.{find, is_sorted, entries_sorted, get-empty, get-entries, get-insert}
use Rattle.std.specs.FinMap.{same_map}
use Rattle.std.specs.FinMap.{nat_cmp-IsAntisymmetric, slice_cmp-IsAntisymmetric}
use Rattle.std.specs.FinMap.Entries.{below_all}
use Rattle.std.proofs.lemmas.Bool.{cases_Bool}
use Rattle.std.proofs.lemmas.Bool.Decides.{nat_tests}
use Rattle.std.proofs.lemmas.Cmp.{tied_itself}
use Rattle.std.proofs.lemmas.List.{length-map}
use Rattle.pgtuple.specs.Cells.{tuple_spelling}
use Rattle.pglogical.specs.declared.message.RelationDef.{RelationDef}
use Rattle.pglogical.specs.Spelling.{IsDefinition, columns_spelling}
use Rattle.pgrel.specs.Identity.{keyed, same_shape}
use Rattle.pgrel.specs.Carried.{carried}
use Rattle.pgtables.specs.Kept as stored
use Rattle.pgapply.specs.declared.op.Op.{Op}
use Rattle.pgapply.specs.declared.fault.StoreFault.{StoreFault}
use Rattle.pgapply.specs.declared.fault.StoreFault.TheVariants.{Clash}
use Rattle.pgapply.specs.Value.{Row, Rows, Table, Tables, IsRow, identity_key, most_copies}
use Rattle.pgapply.specs.Apply.{◌>>=◌, carry_row, carry_rows, found_rows, is_truncate, joined}
use Rattle.pgapply.specs.Apply.{moved}
use Rattle.pgapply.specs.Stored.{IsFault, IsOwnFault}
use Rattle.pgapply.proofs.ChangedShapes.{carry_alike, carry_first, carry_none, carried_whole}
use Rattle.pgapply.proofs.Entries.{each_entry}
use Rattle.pgapply.proofs.KeepsForm.{at_most, found, same_place}
use Rattle.pgencoded.specs.Spelled.{IsSpelled, IsStored, IsChanging, spelled_definition}
use Rattle.pgencoded.specs.Spelled.{row_in, with_rows}
use Rattle.pgencoded.proofs.Acting.{own_fault}
use Rattle.pgencoded.proofs.SpelledRows.{definition_put}
use Rattle.pgreshaping.specs.Carries.{IsReadAs, flags_and_names}
use Rattle.pgreshaping.specs.Rewrites.{AreReadable, HasRewritten, StaysKnown, redefined}
use Rattle.pgreshaping.proofs.Definitions.{stored_table, found_other}

abbrev R : List ℕ → List ℕ → Ordering
R = slice_cmp nat_cmp

-- ---- entries in their order

first : (a b : Bool) → T (a && b) → T a
first true b p = tt
first false b p = p

second : (a b : Bool) → T (a && b) → T b
second true b p = p
second false b p = absurd p

not_tied : (o : Ordering) → T (is_lt o) → is_eq o ≡ false
not_tied Less p = refl
not_tied Equal p = absurd p
not_tied Greater p = absurd p

-- a place below all others isn't among them
missing : (place : List ℕ) (es : List (List ℕ × Row)) → T (below_all R place es) → find R place es ≡ None
missing place [] p = refl
missing place (e ∷ es) p =
    ap (λ b. cond b (Some e.1) (find R place es)) (not_tied _ (first _ _ p)) ∙ missing place es (second _ _ p)

-- the first that is there
abbrev merged : Option Row → Option Row → Option Row
merged (Some row) other = Some row
merged None other = other

merged_none : (o : Option Row) → o ≡ merged o None
merged_none (Some row) = refl
merged_none None = refl

-- ---- rows that keep their places

module _ (before def : RelationDef) where
  pub record StaysAt (place : List ℕ) (row : Row) : Type 0 where
    pub place_is : identity_key def (carried before def row.cells) ≡ place
    pub one : (keyed def && nat_lt 1 row.copies) ≡ false

  carries_first : (place : List ℕ) (row : Row) (rows : Rows) → StaysAt place row → finite.get rows place ≡ None
      → carry_row before def row rows ≡ Ok (finite.insert rows place (moved before def row))
  carries_first place row rows stays free =
      let key = identity_key def (carried before def row.cells) in
      ap (joined def (moved before def row) rows) (ap (finite.get rows) stays.place_is ∙ free)
      ∙ ap (λ b. if b then Err Clash else Ok (finite.insert rows key (moved before def row))) stays.one
      ∙ ap (λ p. Ok (finite.insert rows p (moved before def row))) stays.place_is

  abbrev found_moved : List ℕ → List (List ℕ × Row) → Option Row
  found_moved place es = option_map (moved before def) (find R place es)

  module _ (e : List ℕ × Row) (es : List (List ℕ × Row)) (low : T (below_all R e.0 es)) (rows : Rows)
      (free : finite.get rows e.0 ≡ None) where
    abbrev put : Rows
    put = finite.insert rows e.0 (moved before def e.1)

    put_at : (place : List ℕ) (b : Bool) → eq_by_cmp R place e.0 ≡ b
        → finite.get put place ≡ cond b (Some (moved before def e.1)) (finite.get rows place)
    put_at place b is = get-insert nat_list_cmp_total rows e.0 (moved before def e.1) place
        ∙ ap (λ c. cond c (Some (moved before def e.1)) (finite.get rows place)) is

    apart_still : ((place : List ℕ) (row : Row) → find R place (e ∷ es) ≡ Some row → finite.get rows place ≡ None)
        → (place : List ℕ) (row : Row) → find R place es ≡ Some row → finite.get put place ≡ None
    apart_still apart place row has = elim (cases_Bool (eq_by_cmp R place e.0)) [
      | inl same ↦ absurd (let none = sym (missing e.0 es low) ∙ ap (λ p. find R p es) (sym (same_place place e.0 same)) ∙ has in cc)
      | inr other ↦ put_at place false other ∙ apart place row (ap (λ b. cond b (Some e.1) (find R place es)) other ∙ has)
    ]

    each_still : (place : List ℕ)
        → merged (finite.get put place) (found_moved place es) ≡ merged (finite.get rows place) (found_moved place (e ∷ es))
    each_still place = elim (cases_Bool (eq_by_cmp R place e.0)) [
      | inl same ↦
          ap (λ o. merged o (found_moved place es)) (put_at place true same)
          ∙ ap (λ o. merged o (Some (moved before def e.1))) (sym free ∙ ap (finite.get rows) (sym (same_place place e.0 same)))
          ∙ ap (λ b. merged (finite.get rows place) (option_map (moved before def) (cond b (Some e.1) (find R place es)))) (sym same)
      | inr other ↦
          ap (λ o. merged o (found_moved place es)) (put_at place false other)
          ∙ ap (λ b. merged (finite.get rows place) (option_map (moved before def) (cond b (Some e.1) (find R place es)))) (sym other)
    ]

  -- they are put beside those of other places
  carries_each : (es : List (List ℕ × Row)) → T (is_sorted R es) → AllByRecursion (λ (e : List ℕ × Row). StaysAt e.0 e.1) es
      → (rows : Rows) → ((place : List ℕ) (row : Row) → find R place es ≡ Some row → finite.get rows place ≡ None)
      → (next : Rows) × (carry_rows before def es rows ≡ Ok next)
      × ((place : List ℕ) → finite.get next place ≡ merged (finite.get rows place) (found_moved place es))
  carries_each [] rises stay rows apart = (rows, carry_none before def rows, λ place. merged_none (finite.get rows place))
  carries_each (e ∷ es) rises stay rows apart =
      let own : eq_by_cmp R e.0 e.0 ≡ true = ap is_eq (tied_itself nat_list_cmp_total e.0) in
      let free : finite.get rows e.0 ≡ None = apart e.0 e.1 (ap (λ b. cond b (Some e.1) (find R e.0 es)) own) in
      let low = first _ _ rises in
      let later = carries_each es (second _ _ rises) stay.1 (put e es low rows free) (apart_still e es low rows free apart) in (
        later.0,
        carry_first before def e es rows
            ∙ ap (λ r. r >>= carry_rows before def es) (carries_first e.0 e.1 rows stay.0 free) ∙ later.1,
        λ place. later.2 place ∙ each_still e es low rows free place,
      )

  pub carries_in_place : (start : Rows) → AllByRecursion (λ (e : List ℕ × Row). StaysAt e.0 e.1) (finite.entries start) → (rows : Rows)
      → ((place : List ℕ) → finite.get rows place ≡ option_map (moved before def) (finite.get start place))
      → carry_rows before def (finite.entries start) finite.empty ≡ Ok rows
  carries_in_place start stay rows each =
      let it = carries_each (finite.entries start) (entries_sorted start) stay finite.empty (λ place row has. get-empty R place) in
      it.1 ∙ ap Ok (same_map nat_list_cmp_total (slice_cmp-IsAntisymmetric nat_cmp-IsAntisymmetric) it.0 rows (λ place.
      it.2 place ∙ ap (λ o. merged o (found_moved place (finite.entries start))) (get-empty R place)
      ∙ ap (option_map (moved before def)) (sym (get-entries start place)) ∙ sym (each place)))

one_copy : (k l : Bool) (n : ℕ) → l ≡ true → n ≤ (if l then 1 else most_copies) → (k && nat_lt 1 n) ≡ false
one_copy true true n is few = let less : n ≤ 1 = few in grind (arith, nat_tests)
one_copy false l n is few = refl
one_copy true false n is few = absurd (true≢false (sym is))

module _ (v : Tables) (def : RelationDef) (t : stored.Tables) (h : IsStored v t) (there : stored.Definition)
    (at : finite.get t.defined def.oid ≡ Some there)
    (shaped : (old : RelationDef) → IsDefinition old → there ≡ spelled_definition old → false ≡ same_shape old def) (op : Op)
    (stays : is_truncate op ≡ false) (columns : List ℕ) (are : columns ≡ columns_spelling def.columns) (before : RelationDef)
    (read : IsReadAs there def before)
    (known : (old : RelationDef) → IsDefinition old → there ≡ spelled_definition old → StaysKnown old before def) where
  abbrev table : Table
  table = (stored_table v def t h there at).0

  its_definition : IsDefinition table.definition
  its_definition = (h.spellable def.oid table (stored_table v def t h there at).1).definition

  same_columns : flags_and_names before.columns ≡ flags_and_names table.definition.columns
  same_columns = read.columns table.definition its_definition (stored_table v def t h there at).2

  same_width : length before.columns ≡ length table.definition.columns
  same_width = sym (length-map before.columns _) ∙ ap length same_columns ∙ length-map table.definition.columns _

  stays_known : StaysKnown table.definition before def
  stays_known = known table.definition its_definition (stored_table v def t h there at).2

  form : (place : List ℕ) (row : Row) → finite.get table.rows place ≡ Some row → IsRow table.definition place row
  form = (h.form def.oid table (stored_table v def t h there at).1).each

  stay_at : AllByRecursion (λ (e : List ℕ × Row). StaysAt before def e.0 e.1) (finite.entries table.rows)
  stay_at = each_entry nat_list_cmp_total (slice_cmp-IsAntisymmetric nat_cmp-IsAntisymmetric) (StaysAt before def) table.rows
      (λ place row is.
      let it = form place row is in
      record {
        place_is = ap tuple_spelling (stays_known.known row.cells it.width) ∙ sym it.known;
        one = one_copy (keyed def) (keyed table.definition) row.copies stays_known.was_keyed it.copies;
      })

  pub readable : AreReadable before table.rows
  readable place row is =
      let it = form place row is in
      record {
        is = refl;
        tuple = (h.spellable def.oid table (stored_table v def t h there at).1).rows place row is;
        width = it.width ∙ sym same_width;
        sent = it.sent;
        some = it.some;
        few = at_most (keyed table.definition) row.copies it.copies;
      }

  pub spelled_first : IsSpelled (with_rows v def table.rows) (redefined def columns t)
  spelled_first = subst (λ c. IsSpelled (with_rows v def table.rows) (redefined def c t)) (sym are)
      (definition_put v def table.rows t h.spelled (λ place. ap (λ o. row_in o place) (stored_table v def t h there at).1))

  pub rewritten_finds : (next : stored.Tables)
      → ((start : Rows) → IsSpelled (with_rows v def start) (redefined def columns t) → AreReadable before start
      → HasRewritten v before def start next)
      → (rows : Rows) × (found_rows (finite.get v def.oid) def op ≡ Ok rows) × IsChanging v def rows next
  rewritten_finds next rewrites =
      let made = rewrites table.rows spelled_first readable in
      let finds : found_rows (finite.get v def.oid) def op ≡ Ok made.rows =
      found_other v def t h there at shaped op ∙ carried_whole table def op stays
      ∙ sym (carry_alike before table.definition def same_columns (finite.entries table.rows) finite.empty)
      ∙ carries_in_place before def table.rows stay_at made.rows made.each in (
        made.rows,
        finds,
        record {
          spelled = made.spelled;
          form = found (finite.get v def.oid) def op made.rows (λ table at. (h.form def.oid table at).each) finds;
          tuples = made.tuples;
        },
      )

  pub rewritten_refuses : (e : StoreFault)
      → ((start : Rows) → IsSpelled (with_rows v def start) (redefined def columns t) → AreReadable before start → IsOwnFault e)
      → IsFault e (found_rows (finite.get v def.oid) def op)
  rewritten_refuses e refuses = own_fault e _ (refuses table.rows spelled_first readable)
