-- The definitions that were read are those of `rel`.
use Rattle.std.proofs.Common.{◌≡◌, inl, inr, ℕ, ◌<◌, ◌≤◌, ◌<ℤ◌, pos, Bool, true, false, List, []}
use Rattle.std.proofs.Common.{◌∷◌, ◌++◌, map, drop, Option, Some, None, refl, sym, ap, subst}
use Rattle.std.proofs.Common.{subst₂, ◌∙◌, arith, true≢false, nat_cmp, Less, lt-ltb}
use Rattle.std.specs.Prelude.{T, ◌&&◌, MatchOption, IfSome}
use Rattle.std.specs.List.{AllByRecursion, AllZip}
use Rattle.std.specs.Cmp.{nat_cmp_is}
use Rattle.std.specs.Int.Signed.{lt_z_yes}
use Rattle.std.specs.Ordering.{is_lt}
use Rattle.std.specs.FinMap.{get, find, is_sorted, nat_cmp-IsAntisymmetric}
use Rattle.std.specs.FinMap.Entries.{below_all}
use Rattle.std.proofs.lemmas.Bool.{and_parts}
use Rattle.std.proofs.lemmas.Cmp.{nat_cmp_total}
use Rattle.sqlite.specs.declared.types.Value.TheVariants.{Null}
use Rattle.sqlite.specs.Order.{Row, column}
use Rattle.sqlite.specs.Tree.{Trees, IsAscending}
use Rattle.sqlite.specs.Query.{IsAnswer}
use Rattle.sqlite.specs.Effect.{IsDatabase}
use Rattle.sqlite.specs.State.{State, Shown}
use Rattle.sqlite_catalog.specs.Listing.{IsSound}
use Rattle.sqlite_rules.specs.Edit.{id_in}
use Rattle.sqlite_rules.specs.Lists.{Has}
use Rattle.sqlite_rules.proofs.ListLemmas.{all_has}
use Rattle.sqlite_schema.specs.declared.schema.Constraint.TheVariants.{Datatype, NotNull}
use Rattle.sqlite_schema.specs.declared.schema.Kind.TheVariants as kind
use Rattle.sqlite_schema.specs.Rules.{are_typed, are_present, is_of}
use Rattle.sqlite_sql.specs.Ops.{is_null}
use Rattle.sqlite.specs.Schema.{Schema}
use Rattle.pgtables.specs.Schema.{rel}
use Rattle.pgtables.specs.declared.remains.Remains.{Remains}
use Rattle.pgtables.specs.Remains.{IsPresent, remaining}
use Rattle.pgtables.proofs.Remaining.{over}
use Rattle.pgtables.specs.Kept.{AreDefined, AreKeyed, Definition, definition_in, oid_in, rel_row}
use Rattle.pgtables.specs.Kept.{tables_in}
use Rattle.pgtables.specs.Opened.{AreDefinitionsRead, IsDefinitionRead, ListsDefinitions}
use Rattle.pgtables.proofs.Maps.{alike, got_row, row_got, row_missing}
use Rattle.pgtables.proofs.Sorted.{entry_some, entry_has}
use Rattle.pgtables.proofs.Steps.{bare}
use Rattle.pgtables.proofs.FoundTexts.{by_rowid, definitions_text, definitions_shown}
use Rattle.pgtables.proofs.FoundTexts.{definitions_command, definitions_read_only, definitions_read}
use Rattle.pgtables.proofs.FoundRows.{number, IsRising, ascends_on, has_on, in_answer, from_tree}
use Rattle.pgtables.proofs.FoundRows.{tree_apart, never, after, some, null_is}
use Rattle.pgtables.proofs.ReadSteps.{answers, zip_on}

-- the OIDs so far are up to the last
abbrev pub AreUpTo : Option ℕ → List (ℕ × Definition) → Type 0
AreUpTo last all = (e : ℕ × Definition) → Has all e → MatchOption last ⊥ (λ m. e.0 ≤ m)

pub definition_on : (rows : List Row) (all : List (ℕ × Definition)) (last : Option ℕ) (r : Row) (oid : ℕ) (d : Definition)
    → AreDefinitionsRead rows all → AreUpTo last all → IsDefinitionRead r oid d → IfSome last (λ m. m < oid)
    → AreDefinitionsRead (rows ++ r ∷ []) (all ++ (oid, d) ∷ []) × AreUpTo (Some oid) (all ++ (oid, d) ∷ [])
definition_on rows all last r oid d so_far low one behind = (
  record {
    each = zip_on _ rows all r (oid, d) so_far.each one;
    rises = ascends_on _ all (oid, d) so_far.rises (λ e h. below last (low e h) behind);
  },
  λ e h. elim (has_on all (oid, d) e h) [
    | inl was ↦ (let less : e.0 < oid = below last (low e was) behind in omega arith)
    | inr is ↦ omega
        (arith, ap (λ (x : ℕ × Definition). x.0) is)
  ],
)
  where
    below : {n : ℕ} (last : Option ℕ) → MatchOption last ⊥ (λ m. n ≤ m) → IfSome last (λ m. m < oid) → n < oid
    below None none b = absurd none
    below (Some m) up b = omega (arith, up, b)

-- ---- places in two lists

zip_from : {A B : Type 0} (R : A → B → Type 0) (xs : List A) (ys : List B) (x : A) → AllZip R xs ys → Has xs x → (y : B) × Has ys y × R x y
zip_from R [] ys x h none = absurd none
zip_from R (z ∷ xs) [] x h there = absurd h
zip_from R (z ∷ xs) (w ∷ ys) x h (inl is) = (w, inl refl, subst (λ k. R k w) (sym is) h.0)
zip_from R (z ∷ xs) (w ∷ ys) x h (inr later) = let it = zip_from R xs ys x h.1 later in (it.0, inr it.1, it.2)

zip_into : {A B : Type 0} (R : A → B → Type 0) (xs : List A) (ys : List B) (y : B) → AllZip R xs ys → Has ys y → (x : A) × Has xs x × R x y
zip_into R [] [] y h none = absurd none
zip_into R [] (w ∷ ys) y h there = absurd h
zip_into R (z ∷ xs) [] y h none = absurd none
zip_into R (z ∷ xs) (w ∷ ys) y h (inl is) = (z, inl refl, subst (λ k. R z k) (sym is) h.0)
zip_into R (z ∷ xs) (w ∷ ys) y h (inr later) = let it = zip_into R xs ys y h.1 later in (it.0, inr it.1, it.2)

-- ---- OIDs that rise

abbrev Entry : Type 0
Entry = ℕ × Definition

abbrev AreRising : List Entry → Type 0
AreRising = IsAscending (λ a b. a.0 < b.0)

entries_once : (all : List Entry) → AreRising all → (d e : Entry) → Has all d → Has all e → d.0 ≡ e.0 → d ≡ e
entries_once [] up d e hd he same = absurd hd
entries_once (f ∷ all) up d e (inl p) (inl q) same = p ∙ sym q
entries_once (f ∷ all) up d e (inl p) (inr q) same = absurd (omega (arith, all_has _ all e up.0 q, ap (λ (x : Entry). x.0) p, same))
entries_once (f ∷ all) up d e (inr p) (inl q) same = absurd (omega (arith, all_has _ all d up.0 p, ap (λ (x : Entry). x.0) q, same))
entries_once (f ∷ all) up d e (inr p) (inr q) same = entries_once all up.1 d e p q same

both : (a b : Bool) → T a → T b → T (a && b)
both true b p q = q
both false b p q = p

entries_sorted : (all : List Entry) → AreRising all → T (is_sorted nat_cmp all)
entries_sorted [] up = tt
entries_sorted (e ∷ all) up = both _ _ (below all up.0) (entries_sorted all up.1)
  where
    lower : (m n : ℕ) → m < n → T (is_lt (nat_cmp m n))
    lower m n h = subst T (ap is_lt (nat_cmp_is m n Less h)) tt

    below : (all : List Entry) → AllByRecursion (λ f. e.0 < f.0) all → T (below_all nat_cmp e.0 all)
    below [] each = tt
    below (f ∷ all) each = both _ _ (lower e.0 f.0 each.0) (below all each.1)

rows_rise : (rows : List Row) (all : List Entry) → AllZip (λ r e. IsDefinitionRead r e.0 e.1) rows all → AreRising all → IsRising rows
rows_rise [] [] each up = tt
rows_rise [] (e ∷ all) each up = absurd each
rows_rise (r ∷ rows) [] each up = absurd each
rows_rise (r ∷ rows) (e ∷ all) each up = (higher rows all each.1 up.0, rows_rise rows all each.1 up.1)
  where
    numbers : (m n : ℕ) → m < n → pos m <ℤ pos n
    numbers m n h = lt_z_yes (subst T (sym (lt-ltb m n h)) tt)

    higher : (rows : List Row) (all : List Entry) → AllZip (λ r e. IsDefinitionRead r e.0 e.1) rows all
        → AllByRecursion (λ f. e.0 < f.0) all → AllByRecursion (λ s. number r <ℤ number s) rows
    higher [] [] zipped above = tt
    higher [] (f ∷ all) zipped above = absurd zipped
    higher (s ∷ rows) [] zipped above = absurd zipped
    higher (s ∷ rows) (f ∷ all) zipped above = (
      subst₂ (λ a b. a <ℤ b) (sym (ap id_in each.0.oid_is)) (sym (ap id_in zipped.0.oid_is)) (numbers e.0 f.0 above.0),
      higher rows all zipped.1 above.1,
    )

-- ---- a row of `rel` has six columns

typed_rel : (schema : Schema) (db : Trees) → Has schema.tables rel → IsSound schema db → (r : Row) → Has (db 0) r
    → are_typed (Some 0) 0 rel.columns (drop 1 r) ≡ true
typed_rel schema db listed sound r h =
    (and_parts _ _ (all_has _ (db 0) r (all_has _ schema.tables rel (sound.obeys.rules Datatype) listed) h)).0

present_rel : (schema : Schema) (db : Trees) → Has schema.tables rel → IsSound schema db → (r : Row) → Has (db 0) r
    → are_present (Some 0) 0 rel.columns r ≡ true
present_rel schema db listed sound r h = all_has _ (db 0) r (all_has _ schema.tables rel (sound.obeys.rules NotNull) listed) h

-- the row of which a query shows these columns
abbrev row_of : Row → Row
row_of x = column x 0 ∷ Null ∷ column x 1 ∷ column x 2 ∷ column x 3 ∷ column x 4 ∷ []

abbrev shown_of : Row → Row
shown_of r = column r 0 ∷ column r 2 ∷ column r 3 ∷ column r 4 ∷ column r 5 ∷ []

is_six : (r : Row) → are_typed (Some 0) 0 rel.columns (drop 1 r) ≡ true → are_present (Some 0) 0 rel.columns r ≡ true
    → r ≡ row_of (shown_of r)
is_six [] typed present = absurd (never present)
is_six (a ∷ []) typed present = absurd (never present)
is_six (a ∷ b ∷ []) typed present = absurd (never present)
is_six (a ∷ b ∷ c ∷ []) typed present = absurd (after (some c) never present)
is_six (a ∷ b ∷ c ∷ d ∷ []) typed present = absurd (after (some c) (after (some d) never) present)
is_six (a ∷ b ∷ c ∷ d ∷ e ∷ []) typed present = absurd (after (some c) (after (some d) (after (some e) never)) present)
is_six (a ∷ b ∷ c ∷ d ∷ e ∷ f ∷ []) typed present = ap (λ v. a ∷ v ∷ c ∷ d ∷ e ∷ f ∷ []) (null_is b (and_parts _ _ typed).0)
is_six (a ∷ b ∷ c ∷ d ∷ e ∷ f ∷ g ∷ r) typed present =
    absurd (after (is_null b)
    (after (is_of kind.Text c) (after (is_of kind.Text d) (after (is_of kind.Integer e) (after (is_of kind.Blob f) never)))) typed)

-- ---- all definitions

module _ (schema : Schema) (db : Trees) (listed : Has schema.tables rel) (sound : IsSound schema db) (rows : List Row)
    (a : IsAnswer (by_rowid 0 definitions_shown) db [] rows) (all : List Entry) (read : AreDefinitionsRead rows all) where
  up : IsRising rows
  up = rows_rise rows all read.each read.rises

  six_is : (r : Row) → Has (db 0) r → r ≡ row_of (shown_of r)
  six_is r h = is_six r (typed_rel schema db listed sound r h) (present_rel schema db listed sound r h)

  entry_of : (r : Row) → Has (db 0) r → (e : Entry) × Has all e × (r ≡ rel_row e.0 e.1)
  entry_of r h =
      let it = zip_from _ rows all (shown_of r) read.each (in_answer db 0 _ rows a r h) in
      let one = it.2 in
      (it.0, it.1, six_is r h ∙ (λ i. one.oid_is i ∷ Null ∷ one.namespace_is i ∷ one.name_is i ∷ one.letter_is i ∷ one.columns_are i ∷ []))

  row_at : (e : Entry) → Has all e → (r : Row) × Has (db 0) r × (r ≡ rel_row e.0 e.1)
  row_at e h =
      let x = zip_into _ rows all e read.each h in
      let r = from_tree db 0 _ rows a x.0 x.1 in
      let one : IsDefinitionRead (shown_of r.0) e.0 e.1 = subst (λ s. IsDefinitionRead s e.0 e.1) r.2 x.2 in (
        r.0,
        r.1,
        six_is r.0 r.1
            ∙ (λ i. one.oid_is i ∷ Null ∷ one.namespace_is i ∷ one.name_is i ∷ one.letter_is i ∷ one.columns_are i ∷ []),
      )

  keyed : AreKeyed oid_in (db 0)
  keyed r s hr hs e =
      let d = entry_of r hr in
      let f = entry_of s hs in
      let same : d.0 ≡ f.0 = entries_once all read.rises d.0 f.0 d.1 f.1 (sym (ap oid_in d.2) ∙ e ∙ ap oid_in f.2) in
      d.2 ∙ ap (λ (x : Entry). rel_row x.0 x.1) same ∙ sym f.2

  pub definitions_found : AreDefined (db 0) × ListsDefinitions (tables_in db) all
  definitions_found = (
    record {
      formed = λ r h. subst (λ s. s ≡ rel_row (oid_in s) (definition_in s)) (sym (entry_of r h).2) refl;
      keyed = keyed;
      table = tree_apart db 0 _ rows a up;
    },
    record {
      rises = entries_sorted all read.rises;
      each = λ q. ap (find nat_cmp q) (sym (as_pairs all)) ∙ alike _ _
          (λ v h.
          let e = entry_some nat_cmp_total nat_cmp-IsAntisymmetric (λ (x : Entry). x.0) (λ x. x.1) all q v h in
          let r = row_at e.0 e.1 in
          let at : oid_in r.0 ≡ q = ap oid_in r.2 ∙ e.2 in
          let is : definition_in r.0 ≡ v = ap definition_in r.2 ∙ e.3 in
          ap (get (tables_in db).defined) (sym at) ∙ row_got nat_cmp_total nat_cmp-IsAntisymmetric oid_in definition_in (db 0) r.0 keyed r.1
          ∙ ap Some is)
          (λ v h.
          let r = got_row nat_cmp_total nat_cmp-IsAntisymmetric oid_in definition_in (db 0) q v h in
          let e = entry_of r.0 r.1 in
          let at : e.0.0 ≡ q = sym (ap oid_in e.2) ∙ r.2 in
          let is : e.0.1 ≡ v = sym (ap definition_in e.2) ∙ r.3 in
          let one = entry_has nat_cmp_total nat_cmp-IsAntisymmetric (λ (x : Entry). x.0) (λ x. x.1) all e.0
          (λ y hy same. entries_once all read.rises y e.0 hy e.1 same) e.1 in
          ap (λ k. find nat_cmp k (map (λ x. (x.0, x.1)) all)) (sym at) ∙ one ∙ ap Some is);
    },
  )
    where
      as_pairs : (all : List Entry) → map (λ x. (x.0, x.1)) all ≡ all
      as_pairs [] = refl
      as_pairs (e ∷ all) = ap (λ l. e ∷ l) (as_pairs all)

-- ---- the query, where the table is present

shown_found : (d h p : Bool) → d ≡ true → (old new : State) (rows : List Row) (all : List Entry) → old.now.schema ≡ over d h p
    → IsDatabase old.now → Shown definitions_text [] old new rows → AreDefinitionsRead rows all
    → AreDefined (old.now.trees 0) × ListsDefinitions (tables_in old.now.trees) all
shown_found false h p present old new rows all ours sound shown read = absurd (true≢false (sym present))
shown_found true h p present old new rows all ours sound shown read =
    let plan = definitions_read h p in
    let answered = answers definitions_text definitions_read_only (over true h p) definitions_command plan.0 plan.1.0 plan.1.1 old new rows
    ours shown in
    let answer = subst (λ t. IsAnswer (by_rowid 0 definitions_shown) t [] rows) (bare old.now.trees) (answered.answer Null) in
    definitions_found (over true h p) old.now.trees (inl refl) (subst (λ s. IsSound s old.now.trees) ours sound) rows answer all read

pub all_found : (old new : State) (rows : List Row) (all : List Entry) → IsPresent (λ left. left.has_definitions) old.now.schema
    → IsDatabase old.now → Shown definitions_text [] old new rows → AreDefinitionsRead rows all
    → AreDefined (old.now.trees 0) × ListsDefinitions (tables_in old.now.trees) all
all_found old new rows all stood sound shown read =
    shown_found stood.left.has_definitions stood.left.has_rows stood.left.has_position stood.present old new rows all stood.is sound shown
    read

-- where `rel` isn't present, there are none
none_at : (d h p : Bool) → d ≡ false → (db : Trees) → let t =
    remaining (record { has_definitions = d; has_rows = h; has_position = p }) db in AreDefined (t 0) × ListsDefinitions (tables_in t) []
none_at true h p gone db = absurd (true≢false gone)
none_at false h p gone db = (
  record { formed = λ r none. absurd none; keyed = λ r s none. absurd none; table = tt },
  record {
    rises = tt;
    each = λ q.
        sym (row_missing nat_cmp_total nat_cmp-IsAntisymmetric oid_in definition_in [] q (λ r none. absurd none));
  },
)

pub none_found : (left : Remains) (db : Trees) (all : List Entry) → left.has_definitions ≡ false → all ≡ []
    → AreDefined (remaining left db 0) × ListsDefinitions (tables_in (remaining left db)) all
none_found left db all gone empty =
    subst (λ es. AreDefined (remaining left db 0) × ListsDefinitions (tables_in (remaining left db)) es) (sym empty)
    (none_at left.has_definitions left.has_rows left.has_position gone db)
