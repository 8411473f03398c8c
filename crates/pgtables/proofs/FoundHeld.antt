-- The rows that were read and accepted are those of `held`.
use Rattle.std.proofs.Common.{◌≡◌, ◌≢◌, inl, inr, ℕ, ℤ, ◌<ℤ◌, Bool, true, false, List, [], ◌∷◌}
use Rattle.std.proofs.Common.{◌++◌, drop, Option, Some, None, Ok, Result, IsTrue, IfSome, refl, sym}
use Rattle.std.proofs.Common.{ap, subst, ◌∙◌, true≢false, arith, ◌⊎◌}
use Rattle.std.specs.Prelude.{MatchOption, is_some}
use Rattle.std.specs.Borrow.{Bor}
use Rattle.std.specs.Ordering.{is_eq}
use Rattle.std.specs.FinMap.{get, slice_cmp-IsAntisymmetric, nat_cmp-IsAntisymmetric}
use Rattle.std.specs.FinMap.{int_cmp-IsAntisymmetric}
use Rattle.std.specs.Cmp.{int_chain}
use Rattle.std.proofs.lemmas.Bool.{cases_Bool, and_parts, and_from}
use Rattle.std.proofs.lemmas.Cmp.{nat_list_cmp_total, int_cmp_total, tied_itself}
use Rattle.sqlite.specs.declared.types.Value.TheVariants.{Null, Int}
use Rattle.sqlite.specs.Order.{Row, column, bytes}
use Rattle.sqlite.specs.Tree.{Trees, rowid}
use Rattle.sqlite.specs.Query.{IsAnswer}
use Rattle.sqlite.specs.declared.error.Error.{Error}
use Rattle.sqlite.specs.declared.Rows.{Rows}
use Rattle.sqlite.specs.Effect.{Database, IsDatabase}
use Rattle.sqlite.specs.Held.{Held, state}
use Rattle.sqlite.specs.Next.{HasMoved}
use Rattle.sqlite.specs.State.{State, HasCleanDisk, Shown}
use Rattle.sqlite.specs.Store.{Ghosts}
use Rattle.sqlite_catalog.specs.Listing.{IsSound}
use Rattle.sqlite_catalog.proofs.AlterLemmas.{keys_are_unique}
use Rattle.sqlite_rules.specs.Edit.{id_in}
use Rattle.sqlite_rules.specs.Lists.{Has}
use Rattle.sqlite_rules.proofs.ListLemmas.{all_has, some_from}
use Rattle.sqlite_schema.specs.declared.schema.Constraint.TheVariants.{Datatype, NotNull}
use Rattle.sqlite_schema.specs.declared.schema.Kind.TheVariants as kind
use Rattle.sqlite_schema.specs.Rules.{agree, are_typed, are_present, clashes, differ, is_of}
use Rattle.sqlite_value.specs.Keys.{plain}
use Rattle.sqlite.specs.Schema.{Schema}
use Rattle.pgtables.specs.Schema.{held_table}
use Rattle.pgtables.specs.declared.remains.Remains.{Remains}
use Rattle.pgtables.specs.Remains.{IsPresent, remaining}
use Rattle.pgtables.proofs.Remaining.{over, held_listed}
use Rattle.pgtables.specs.Kept.{AreHeld, AreKeyed, Copies, IfServing, held_row, key_in, copies_in}
use Rattle.pgtables.specs.Kept.{number_in, tables_in, tables_of}
use Rattle.pgtables.specs.Opened.{AreAccepted, IsRowAccepted}
use Rattle.pgtables.proofs.Agreeing.{agree_same, ints_differ}
use Rattle.pgtables.proofs.HeldRows.{Formed, the_map}
use Rattle.pgtables.proofs.Maps.{equal, got_row, row_missing}
use Rattle.pgtables.proofs.FoundTexts.{by_rowid, rows_text, rows_shown, rows_command}
use Rattle.pgtables.proofs.FoundTexts.{rows_read_only, rows_read}
use Rattle.pgtables.proofs.ReadSteps.{HasRead, answers, whole}
use Rattle.pgtables.proofs.Steps.{bare}
use Rattle.pgtables.proofs.FoundRows.{number, IsRising, ascends_on, has_on, once, same_number}
use Rattle.pgtables.proofs.FoundRows.{in_answer, tree_apart, never, after, some}

-- ---- a row of `held` has five columns

typed_held : (schema : Schema) (db : Trees) → Has schema.tables held_table → IsSound schema db → (r : Row) → Has (db 1) r
    → are_typed None 0 held_table.columns (drop 1 r) ≡ true
typed_held schema db listed sound r h =
    (and_parts _ _ (all_has _ (db 1) r (all_has _ schema.tables held_table (sound.obeys.rules Datatype) listed) h)).0

present_held : (schema : Schema) (db : Trees) → Has schema.tables held_table → IsSound schema db → (r : Row) → Has (db 1) r
    → are_present None 0 held_table.columns r ≡ true
present_held schema db listed sound r h = all_has _ (db 1) r (all_has _ schema.tables held_table (sound.obeys.rules NotNull) listed) h

abbrev five : Row → Row
five r = column r 0 ∷ column r 1 ∷ column r 2 ∷ column r 3 ∷ column r 4 ∷ []

is_five : (r : Row) → are_typed None 0 held_table.columns (drop 1 r) ≡ true → are_present None 0 held_table.columns r ≡ true → r ≡ five r
is_five [] typed present = absurd (never present)
is_five (a ∷ []) typed present = absurd (never present)
is_five (a ∷ b ∷ []) typed present = absurd (after (some b) never present)
is_five (a ∷ b ∷ c ∷ []) typed present = absurd (after (some b) (after (some c) never) present)
is_five (a ∷ b ∷ c ∷ d ∷ []) typed present = absurd (after (some b) (after (some c) (after (some d) never)) present)
is_five (a ∷ b ∷ c ∷ d ∷ e ∷ []) typed present = refl
is_five (a ∷ b ∷ c ∷ d ∷ e ∷ f ∷ r) typed present =
    absurd (after (is_of kind.Integer b) (after (is_of kind.Blob c) (after (is_of kind.Blob d) (after (is_of kind.Integer e) never))) typed)

-- ---- the rows so far

-- their rowids are up to the last
abbrev AreUpTo : Option ℤ → List Row → Type 0
AreUpTo last given = (x : Row) → Has given x → MatchOption last ⊥ (λ m. (number x ≡ m) ⊎ (number x <ℤ m))

pub record ArePassed {C : Type 0} (accepts : C → ℕ → List ℕ → Copies → Type 0) (check : C) (last : Option ℤ)
    (given : List Row) : Type 0 where
  pub each : (x : Row) → Has given x → (id : ℤ) × IsRowAccepted accepts check x id
  pub rises : IsRising given
  pub low : AreUpTo last given

module _ {C : Type 0} (accepts : C → ℕ → List ℕ → Copies → Type 0) (check : C) where
  pub none_passed : ArePassed accepts check None []
  none_passed = record { each = λ x none. absurd none; rises = tt; low = λ x none. none }

  passes_on : (last : Option ℤ) (x : Row) (id : ℤ) → IsRowAccepted accepts check x id → IfSome last (λ before. before <ℤ id)
      → (given : List Row) → ArePassed accepts check last given → ArePassed accepts check (Some id) (given ++ x ∷ [])
  passes_on last x id one behind given so_far = record {
    each = λ y h. elim (has_on given x y h)
        [ inl was ↦ so_far.each y was | inr is ↦ (id, subst (λ z. IsRowAccepted accepts check z id) (sym is) one) ];
    rises = ascends_on _ given x so_far.rises (λ y h. subst (λ n. number y <ℤ n) (sym at) (above last (number y) (so_far.low y h) behind));
    low = λ y h. elim (has_on given x y h)
        [ inl was ↦ inr (above last (number y) (so_far.low y was) behind) | inr is ↦ inl (ap number is ∙ at) ];
  }
    where
      at : number x ≡ id
      at = ap id_in one.id_is

      above : (last : Option ℤ) (n : ℤ) → MatchOption last ⊥ (λ m. (n ≡ m) ⊎ (n <ℤ m)) → IfSome last (λ before. before <ℤ id) → n <ℤ id
      above None n none b = absurd none
      above (Some m) n (inl is) b = subst (λ k. k <ℤ id) (sym is) b
      above (Some m) n (inr less) b = int_chain n m id less b

  pub found_on : (last found : Option ℤ) (x : Row) → is_some found ≡ true → IfSome found (IsRowAccepted accepts check x)
      → IfSome found (λ id. IfSome last (λ before. before <ℤ id)) → (given : List Row) → ArePassed accepts check last given
      → ArePassed accepts check found (given ++ x ∷ [])
  found_on last None x some one behind = absurd (true≢false (sym some))
  found_on last (Some id) x some one behind = passes_on last x id one behind

-- ---- all rows

module _ {C : Type 0} (accepts : C → ℕ → List ℕ → Copies → Type 0) (check : C) (schema : Schema) (db : Trees)
    (listed : Has schema.tables held_table) (sound : IsSound schema db) (rows : List Row) (a : IsAnswer (by_rowid 1 rows_shown) db [] rows)
    (each : (x : Row) → Has rows x → (id : ℤ) × IsRowAccepted accepts check x id) (up : IsRising rows) where
  five_is : (r : Row) → Has (db 1) r → r ≡ five r
  five_is r h = is_five r (typed_held schema db listed sound r h) (present_held schema db listed sound r h)

  read_of : (r : Row) (h : Has (db 1) r) → (id : ℤ) × IsRowAccepted accepts check (five r) id
  read_of r h = each (five r) (in_answer db 1 _ rows a r h)

  row_is : (r : Row) (h : Has (db 1) r) → let it = read_of r h in r ≡ held_row (Int it.0) it.1.oid it.1.ident it.1.kept
  row_is r h = let it = (read_of r h).1 in
      five_is r h ∙ (λ i. it.id_is i ∷ it.oid_is i ∷ it.ident_is i ∷ it.body_is i ∷ it.copies_are i ∷ [])

  formed : (r : Row) → Has (db 1) r → Formed r
  formed r h = subst Formed (sym (row_is r h)) refl

  numbered : (r s : Row) → Has (db 1) r → Has (db 1) s → number r ≡ number s → r ≡ s
  numbered r s hr hs e = five_is r hr ∙ once rows up (five r) (five s) (in_answer db 1 _ rows a r hr) (in_answer db 1 _ rows a s hs) e
      ∙ sym (five_is s hs)

  keyed : AreKeyed key_in (db 1)
  keyed r s hr hs e = elim (cases_Bool (same_number (number r) (number s))) [
    | inl tie ↦ numbered r s hr hs (int_cmp-IsAntisymmetric (number r) (number s) (equal _ tie))
    | inr other ↦
        let unique : clashes plain (1 ∷ 2 ∷ []) (db 1) s ≡ false =
        keys_are_unique schema db held_table 0 (1 ∷ 2 ∷ []) s sound listed refl hs in
        let agrees : agree plain (1 ∷ 2 ∷ []) r (1 ∷ 2 ∷ []) s ≡ true =
        subst (λ x. agree plain (1 ∷ 2 ∷ []) x (1 ∷ 2 ∷ []) s ≡ true) (sym (formed r hr))
        (subst (λ x. agree plain (1 ∷ 2 ∷ []) (held_row (Int (number r)) (number_in (column r 1)) (bytes (column r 2)) (copies_in r))
        (1 ∷ 2 ∷ []) x ≡ true) (sym (formed s hs))
        (agree_same (Int (number r)) (Int (number s)) _ _ _ _ (copies_in r) (copies_in s) e)) in
        let apart : number r ≢ number s =
        λ is. true≢false (sym (ap (same_number (number r)) (sym is) ∙ ap is_eq (tied_itself int_cmp_total (number r))) ∙ other) in
        let differs : differ (rowid r) (rowid s) ≡ true =
        ap (λ v. differ v (rowid s)) (ap rowid (formed r hr)) ∙ ap (differ (Int (number r))) (ap rowid (formed s hs))
        ∙ ints_differ (number r) (number s) apart in
        absurd (true≢false (sym (some_from _ (db 1) r hr (and_from _ _ agrees differs)) ∙ unique))
  ]

  abbrev got : (q : List ℕ) (kept : Copies) → get (the_map (db 1)) q ≡ Some kept
      → (r : Row) × Has (db 1) r × (key_in r ≡ q) × (copies_in r ≡ kept)
  got = got_row nat_list_cmp_total (slice_cmp-IsAntisymmetric nat_cmp-IsAntisymmetric) key_in copies_in (db 1)

  pub held_found : AreHeld (db 1) × AreAccepted accepts check (tables_in db)
  held_found = (
    record {
      formed = formed;
      rowids = λ r s hr hs e. numbered r s hr hs (ap id_in e);
      keyed = keyed;
      table = tree_apart db 1 _ rows a up;
    },
    record {
      each = λ oid ident kept h.
          let r = got (oid ∷ ident) kept h in
          let it = (read_of r.0 r.1).1 in
          let keys : it.oid ∷ it.ident ≡ oid ∷ ident = sym (ap key_in (row_is r.0 r.1)) ∙ r.2 in
          let copies : it.kept ≡ kept = sym (ap copies_in (row_is r.0 r.1)) ∙ r.3 in
          let at_oid : it.oid ≡ oid = cc in
          let at_ident : it.ident ≡ ident = cc in
          subst (accepts check oid ident) copies
          (subst (λ i. accepts check oid i it.kept) at_ident (subst (λ o. accepts check o it.ident it.kept) at_oid it.accepted));
      keyed = row_missing nat_list_cmp_total (slice_cmp-IsAntisymmetric nat_cmp-IsAntisymmetric) key_in copies_in (db 1) [] (λ r h e. cc);
    },
  )

-- ---- the query, where the table is present

module _ {C : Type 0} (accepts : C → ℕ → List ℕ → Copies → Type 0) (check : C) where
  shown_found : (d h p : Bool) → h ≡ true → (old new : State) (rows : List Row) → old.now.schema ≡ over d h p → IsDatabase old.now
      → Shown rows_text [] old new rows
      → ((x : Row) → Has rows x → (id : ℤ) × IsRowAccepted accepts check x id) → IsRising rows
      → AreHeld (old.now.trees 1) × AreAccepted accepts check (tables_in old.now.trees)
  shown_found d false p present old new rows ours sound shown each up = absurd (true≢false (sym present))
  shown_found d true p present old new rows ours sound shown each up =
      let plan = rows_read d p in
      let read = answers rows_text rows_read_only (over d true p) rows_command plan.0 plan.1.0 plan.1.1 old new rows ours shown in
      let answer = subst (λ t. IsAnswer (by_rowid 1 rows_shown) t [] rows) (bare old.now.trees) (read.answer Null) in
      held_found accepts check (over d true p) old.now.trees (held_listed d p) (subst (λ s. IsSound s old.now.trees) ours sound) rows answer
      each up

  module _ {S : Type 0} (g : Ghosts S) where
    pub rows_found : (old : Held S) (mid new : Rows S g) (last : Option ℤ)
        (so_far : HasRead rows_text rows_read_only g (ArePassed accepts check last) old mid.conn.now)
        (result : Result (Option (Bor Row)) Error) (moved : HasMoved g mid result new)
        → result ≡ Ok None → HasCleanDisk (state g new.conn.now)
        → IfServing g old (IsPresent (λ left. left.has_rows) (state g old).now.schema)
        → (IsTrue (state g old).is_open → IsDatabase (state g old).now)
        → AreHeld ((state g old).now.trees 1) × AreAccepted accepts check (tables_of g old)
    rows_found old mid new last so_far result moved is clean ours sound =
        let it = whole rows_text rows_read_only g (ArePassed accepts check last) old mid new so_far result moved is clean in
        let was_open = it.3.0.was_open in
        let early : HasCleanDisk (state g old) = omega (arith, so_far.survives.clean, moved.survives.clean) in
        let stood = ours early was_open in
        let left = stood.left in
        let now : (state g mid.conn.now).now ≡ (state g old).now = it.3.0.now_is in
        let schema = ap (λ (d : Database). d.schema) now ∙ stood.is in
        let found = shown_found left.has_definitions left.has_rows left.has_position stood.present (state g mid.conn.now)
        (state g new.conn.now) it.0 schema (subst IsDatabase (sym now) (sound was_open)) it.1 it.2.each it.2.rises in
        subst (λ (d : Database). AreHeld (d.trees 1) × AreAccepted accepts check (tables_in d.trees)) now found

-- where `held` isn't present, there are none
module _ {C : Type 0} (accepts : C → ℕ → List ℕ → Copies → Type 0) (check : C) where
  no_row : (q : List ℕ) → get (the_map []) q ≡ None
  no_row q = row_missing nat_list_cmp_total (slice_cmp-IsAntisymmetric nat_cmp-IsAntisymmetric) key_in copies_in [] q
      (λ r none. absurd none)

  none_at : (d h p : Bool) → h ≡ false → (db : Trees) → let t =
      remaining (record { has_definitions = d; has_rows = h; has_position = p }) db in
      AreHeld (t 1) × AreAccepted accepts check (tables_in t)
  none_at d true p gone db = absurd (true≢false gone)
  none_at d false p gone db = (
    record { formed = λ r none. absurd none; rowids = λ r s none. absurd none; keyed = λ r s none. absurd none; table = tt },
    record { each = λ oid ident kept h. absurd (let none : None ≡ Some kept = sym (no_row (oid ∷ ident)) ∙ h in cc); keyed = no_row [] },
  )

  pub none_found : (left : Remains) (db : Trees) → left.has_rows ≡ false
      → AreHeld (remaining left db 1) × AreAccepted accepts check (tables_in (remaining left db))
  none_found left db gone = none_at left.has_definitions left.has_rows left.has_position gone db
