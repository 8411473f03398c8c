-- The value of tables whose definitions and rows were checked.
use Rattle.std.proofs.Common.{◌≡◌, ◌≤◌, Result, Ok, Err, true≢false, length, drop, not, append-nil}
use Rattle.std.proofs.Common.{ℕ, List, [], ◌∷◌, ◌++◌, Bool, true, false, cond, Option, Some, None}
use Rattle.std.proofs.Common.{refl, sym, ap, subst, ◌∙◌, inl, inr, map, T, take, zero, suc, arith}
use Rattle.std.specs.Prelude.{option_map, ◌&&◌, if◌then◌else◌, ⊤, is_ok}
use Rattle.std.specs.Ordering.{nat_cmp, eq_by_cmp, is_lt}
use Rattle.std.specs.Cmp.{nat_cmp_total}
use Rattle.std.specs.Cmp.Lexicographic.{slice_cmp, nat_list_cmp_total}
use Rattle.std.specs.FinMap as finite
use Rattle.std.specs.FinMap.{get-from_entries, get-entries, get-empty, get-insert, entries, find}
use Rattle.std.specs.FinMap.{is_sorted}
use Rattle.std.specs.FinMap.Entries.{find-append, below_all}
use Rattle.std.proofs.lemmas.Bool.{cases_Bool, eqb-true, not-false}
use Rattle.std.proofs.lemmas.Cmp.{tied_itself}
use Rattle.pgtuple.specs.declared.cell.Cell.{Cell}
use Rattle.pgtuple.specs.Cells.{tuple_spelling}
use Rattle.pgtuple.specs.Limits.{IsWireTuple}
use Rattle.pgtuple.specs.Reading.{tuple_at}
use Rattle.pgtuple.specs.Spelled.{spelled_cells, cells_read}
use Rattle.pglogical.specs.declared.message.RelationDef.{RelationDef}
use Rattle.pgtables.specs.Kept as stored
use Rattle.pgtables.specs.Opened.{ListsDefinitions}
use Rattle.pgrel.specs.declared.fault.RelFault.{RelFault}
use Rattle.pgrel.specs.Identity.{keyed, checked_insert, has_width, has_unchanged}
use Rattle.pgapply.specs.Value.{Row, Rows, Table, Tables, IsRow, IsTable, identity_key, most_copies}
use Rattle.pgapply.proofs.KeepsForm.{same_number, same_some, refused}
use Rattle.pgencoded.specs.Spelled.{IsGivable, IsStored, IsSpellable, spelled_definition}
use Rattle.pgencoded.specs.Spelled.{spelled_row, row_in}
use Rattle.pgencoded.proofs.SpelledRows.{same_key, key_parts}
use Rattle.pgadopt.specs.Adopted.{Definitions, IsDefinitionOf, AreDefinitionsOf, IsRowOf}
use Rattle.pgadopt.specs.Adopted.{IsKnownRow, row_of}

-- ---- the rows of one relation

own_entry : ℕ → List ℕ → stored.Copies → List (List ℕ × Row) → List (List ℕ × Row)
own_entry oid [] kept rest = rest
own_entry oid (o ∷ place) kept rest = cond (eq_by_cmp nat_cmp oid o) ((place, row_of kept) ∷ rest) rest

own_entries : ℕ → List (List ℕ × stored.Copies) → List (List ℕ × Row)
own_entries oid [] = []
own_entries oid (e ∷ es) = own_entry oid e.0 e.1 (own_entries oid es)

-- what is found behind one more row
find_next : (a b : Bool) (p : List ℕ) (kept : stored.Copies) (place : List ℕ) (rest : List (List ℕ × Row)) (o : Option stored.Copies)
    → same_key place p ≡ b → find (slice_cmp nat_cmp) place rest ≡ option_map row_of o
    → find (slice_cmp nat_cmp) place (cond a ((p, row_of kept) ∷ rest) rest) ≡ option_map row_of (cond (a && b) (Some kept) o)
find_next true true p kept place rest o is h = ap (λ b. cond b (Some (row_of kept)) (find (slice_cmp nat_cmp) place rest)) is
find_next true false p kept place rest o is h = ap (λ b. cond b (Some (row_of kept)) (find (slice_cmp nat_cmp) place rest)) is ∙ h
find_next false b p kept place rest o is h = h

find_own : (oid : ℕ) (place : List ℕ) (es : List (List ℕ × stored.Copies))
    → find (slice_cmp nat_cmp) place (own_entries oid es) ≡ option_map row_of (find (slice_cmp nat_cmp) (oid ∷ place) es)
unfolding own_entry own_entries
find_own oid place [] = refl
find_own oid place (([], kept) ∷ es) = find_own oid place es
find_own oid place ((o ∷ p, kept) ∷ es) =
    find_next (eq_by_cmp nat_cmp oid o) (same_key place p) p kept place (own_entries oid es) (find (slice_cmp nat_cmp) (oid ∷ place) es)
    refl (find_own oid place es)
    ∙ sym (ap (λ b. option_map row_of (cond b (Some kept) (find (slice_cmp nat_cmp) (oid ∷ place) es))) (key_parts oid o place p))

own_rows : finite.FinMap (slice_cmp nat_cmp) stored.Copies → ℕ → Rows
own_rows rows oid = finite.from_entries (own_entries oid (entries rows))

got_row : (rows : finite.FinMap (slice_cmp nat_cmp) stored.Copies) (oid : ℕ) (place : List ℕ)
    → finite.get (own_rows rows oid) place ≡ option_map row_of (finite.get rows (oid ∷ place))
unfolding own_rows
got_row rows oid place =
    get-from_entries nat_list_cmp_total (own_entries oid (entries rows)) place ∙ find_own oid place (entries rows)
    ∙ ap (option_map row_of) (sym (get-entries rows (oid ∷ place)))

-- ---- the tables

abbrev table_of : finite.FinMap (slice_cmp nat_cmp) stored.Copies → ℕ → RelationDef → Table
table_of rows oid def = record { definition = def; rows = own_rows rows oid }

abbrev table_entries : finite.FinMap (slice_cmp nat_cmp) stored.Copies → List (ℕ × RelationDef) → List (ℕ × Table)
table_entries rows es = map (λ e. (e.0, table_of rows e.0 e.1)) es

find_table : (rows : finite.FinMap (slice_cmp nat_cmp) stored.Copies) (oid : ℕ) (es : List (ℕ × RelationDef))
    → find nat_cmp oid (table_entries rows es) ≡ option_map (table_of rows oid) (find nat_cmp oid es)
find_table rows oid [] = refl
find_table rows oid (e ∷ es) = elim (cases_Bool (eq_by_cmp nat_cmp oid e.0)) [
  | inl here ↦
      ap (λ b. cond b (Some (table_of rows e.0 e.1)) (find nat_cmp oid (table_entries rows es))) here
      ∙ ap (λ o. Some (table_of rows o e.1)) (sym (same_number oid e.0 here))
      ∙ ap (λ b. option_map (table_of rows oid) (cond b (Some e.1) (find nat_cmp oid es))) (sym here)
  | inr there ↦
      ap (λ b. cond b (Some (table_of rows e.0 e.1)) (find nat_cmp oid (table_entries rows es))) there ∙ find_table rows oid es
      ∙ ap (λ b. option_map (table_of rows oid) (cond b (Some e.1) (find nat_cmp oid es))) (sym there)
]

pub tables_from : Definitions → finite.FinMap (slice_cmp nat_cmp) stored.Copies → Tables
tables_from known rows = finite.from_entries (table_entries rows (entries known))

got_table : (known : Definitions) (rows : finite.FinMap (slice_cmp nat_cmp) stored.Copies) (oid : ℕ)
    → finite.get (tables_from known rows) oid ≡ option_map (table_of rows oid) (finite.get known oid)
unfolding tables_from
got_table known rows oid =
    get-from_entries nat_cmp_total (table_entries rows (entries known)) oid ∙ find_table rows oid (entries known)
    ∙ ap (option_map (table_of rows oid)) (sym (get-entries known oid))

-- what is mapped was there
mapped : {A B : Type 0} (f : A → B) (o : Option A) (b : B) → option_map f o ≡ Some b → (a : A) × (o ≡ Some a) × (f a ≡ b)
mapped f None b e = absurd (cc)
mapped f (Some a) b e = (a, refl, same_some e)

module _ (t : stored.Tables) (found : List (ℕ × stored.Definition)) (known : Definitions) (are : AreDefinitionsOf found known)
    (lists : ListsDefinitions t found)
    (accepted : (oid : ℕ) (place : List ℕ) (kept : stored.Copies) → finite.get t.rows (oid ∷ place) ≡ Some kept
    → IsKnownRow known oid place kept) (keyed : finite.get t.rows [] ≡ None) where
  abbrev the_value : Tables
  the_value = tables_from known t.rows

  defined_is : (oid : ℕ) → finite.get t.defined oid
      ≡ option_map (λ (table : Table). spelled_definition table.definition) (finite.get the_value oid)
  defined_is oid = sym (lists.each oid) ∙ are.each oid ∙ go (finite.get known oid)
      ∙ ap (option_map (λ (table : Table). spelled_definition table.definition)) (sym (got_table known t.rows oid))
    where
      go : (o : Option RelationDef)
          → option_map spelled_definition o
          ≡ option_map (λ (table : Table). spelled_definition table.definition) (option_map (table_of t.rows oid) o)
      go None = refl
      go (Some def) = refl

  row_is : (oid : ℕ) (place : List ℕ) → finite.get t.rows (oid ∷ place) ≡ option_map spelled_row (row_in (finite.get the_value oid) place)
  row_is oid place = go (finite.get t.rows (oid ∷ place)) refl (finite.get known oid) refl
      ∙ ap (λ o. option_map spelled_row (row_in o place)) (sym (got_table known t.rows oid))
    where
      go : (o : Option stored.Copies) → finite.get t.rows (oid ∷ place) ≡ o → (d : Option RelationDef) → finite.get known oid ≡ d
          → o ≡ option_map spelled_row (row_in (option_map (table_of t.rows oid) d) place)
      go None e None is = refl
      go None e (Some def) is = sym (ap (option_map spelled_row) (got_row t.rows oid place ∙ ap (option_map row_of) e))
      go (Some kept) e None is = absurd (let no = sym is ∙ (accepted oid place kept e).1 in cc)
      go (Some kept) e (Some def) is =
          let row = (accepted oid place kept e).2 in
          (λ i. Some (record { body = row.spelled i; copies = kept.copies }))
          ∙ sym (ap (option_map spelled_row) (got_row t.rows oid place ∙ ap (option_map row_of) e))

  row_fits : (oid : ℕ) (def : RelationDef) → finite.get known oid ≡ Some def → (place : List ℕ) (row : Row)
      → finite.get (own_rows t.rows oid) place ≡ Some row → IsRow def place row × IsWireTuple row.cells
  row_fits oid def is place row at =
      let there = mapped row_of (finite.get t.rows (oid ∷ place)) row (sym (got_row t.rows oid place) ∙ at) in
      let it = accepted oid place there.0 there.1 in
      let same : it.0 ≡ def = same_some (sym it.1 ∙ is) in (
        subst (λ r. IsRow def place r) there.2 (subst (λ d. IsRow d place (row_of there.0)) same it.2.row),
        subst (λ (r : Row). IsWireTuple r.cells) there.2 it.2.tuple,
      )

  table_there : (oid : ℕ) (table : Table) → finite.get the_value oid ≡ Some table
      → (def : RelationDef) × (finite.get known oid ≡ Some def) × (table_of t.rows oid def ≡ table)
  table_there oid table at = mapped (table_of t.rows oid) (finite.get known oid) table (sym (got_table known t.rows oid) ∙ at)

  pub value_stands : IsStored (tables_from known t.rows) t
  value_stands = record {
    spelled = record { defined = defined_is; rows = row_is; keyed = keyed };
    form = λ oid table at.
        let it = table_there oid table at in
        subst (IsTable oid) it.2
        (record { same_oid = (are.fit oid it.0 it.1).0; each = λ place row there. (row_fits oid it.0 it.1 place row there).0 });
    spellable = λ oid table at.
        let it = table_there oid table at in
        subst IsSpellable it.2 (record {
          definition = (are.fit oid it.0 it.1).1.definition;
          readable = (are.fit oid it.0 it.1).1.readable;
          rows = λ place row there. (row_fits oid it.0 it.1 place row there).1;
        });
  }

-- ---- the definitions, one after another

pub none_known : AreDefinitionsOf [] finite.empty
none_known = record {
  each = λ oid. ap (option_map spelled_definition) (sym (get-empty nat_cmp oid));
  fit = λ oid def at. absurd (let none = sym (get-empty nat_cmp oid) ∙ at in cc);
}

pub known_then : (es : List (ℕ × stored.Definition)) (known : Definitions) (oid : ℕ) (there : stored.Definition) (def : RelationDef)
    → AreDefinitionsOf es known → find nat_cmp oid es ≡ None → IsDefinitionOf oid there def
    → AreDefinitionsOf (es ++ (oid, there) ∷ []) (finite.insert known def.oid def)
known_then es known oid there def are none is = record {
  each = λ q. find-append nat_cmp nat_cmp_total es oid there q none ∙ both q (eq_by_cmp nat_cmp q oid)
      ∙ ap (option_map spelled_definition) (sym (inserted q));
  fit = λ q d at. elim (cases_Bool (eq_by_cmp nat_cmp q oid)) [
    | inl here ↦
        let same : def ≡ d = same_some (sym (inserted q ∙ ap (λ b. cond b (Some def) (finite.get known q)) here) ∙ at) in
        subst (λ (d : RelationDef). (d.oid ≡ q) × IsGivable d) same
        (is.same_oid ∙ sym (same_number q oid here), record { definition = is.definition; readable = is.readable })
    | inr other ↦ are.fit q d (sym (inserted q ∙ ap (λ b. cond b (Some def) (finite.get known q)) other) ∙ at)
  ];
}
  where
    inserted : (q : ℕ) → finite.get (finite.insert known def.oid def) q ≡ cond (eq_by_cmp nat_cmp q oid) (Some def) (finite.get known q)
    inserted q = get-insert nat_cmp_total known def.oid def q
        ∙ ap (λ o. cond (eq_by_cmp nat_cmp q o) (Some def) (finite.get known q)) is.same_oid

    both : (q : ℕ) (b : Bool)
        → cond b (Some there) (find nat_cmp q es) ≡ option_map spelled_definition (cond b (Some def) (finite.get known q))
    both q true = ap (λ d. Some d) (sym is.spelled)
    both q false = are.each q

both_left : (a b : Bool) → T (a && b) → T a
both_left true b h = tt
both_left false b h = absurd h

both_right : (a b : Bool) → T (a && b) → T b
both_right true b h = h
both_right false b h = absurd h

module _ {X : Type 0} where
  below_next : (k : ℕ) (es more : List (ℕ × X)) (x : ℕ × X) → T (below_all nat_cmp k ((es ++ x ∷ []) ++ more)) → T (is_lt (nat_cmp k x.0))
  below_next k [] more x h = both_left (is_lt (nat_cmp k x.0)) (below_all nat_cmp k more) h
  below_next k (e ∷ es) more x h =
      below_next k es more x (both_right (is_lt (nat_cmp k e.0)) (below_all nat_cmp k ((es ++ x ∷ []) ++ more)) h)

  -- where the OIDs rise, the next one is new
  pub none_before : (es more : List (ℕ × X)) (x : ℕ × X) → T (is_sorted nat_cmp ((es ++ x ∷ []) ++ more)) → find nat_cmp x.0 es ≡ None
  none_before [] more x h = refl
  none_before (e ∷ es) more x h =
      let less = below_next e.0 es more x
      (both_left (below_all nat_cmp e.0 ((es ++ x ∷ []) ++ more)) (is_sorted nat_cmp ((es ++ x ∷ []) ++ more)) h) in
      let rest = none_before es more x
      (both_right (below_all nat_cmp e.0 ((es ++ x ∷ []) ++ more)) (is_sorted nat_cmp ((es ++ x ∷ []) ++ more)) h) in
      elim (cases_Bool (eq_by_cmp nat_cmp x.0 e.0)) [
        | inl here ↦ absurd (subst (λ o. T (is_lt o)) (ap (nat_cmp e.0) (same_number x.0 e.0 here) ∙ tied_itself nat_cmp_total e.0) less)
        | inr other ↦ ap (λ b. cond b (Some e.1) (find nat_cmp x.0 es)) other ∙ rest
      ]

-- ---- a row that is checked

pub passed : (r : Result ⊤ RelFault) → is_ok r ≡ true → r ≡ Ok tt
passed (Ok u) e = refl
passed (Err e) wrong = absurd (true≢false (sym wrong))

pub within : (b : Bool) (copies most : ℕ) → copies ≤ most → most ≡ (if b then 1 else most_copies) → copies ≤ (if b then 1 else most_copies)
within b copies most few is = subst (λ n. copies ≤ n) is few

-- bytes of which all were read
all_read : (body : List ℕ) (len : ℕ) → len ≡ length body → drop len body ≡ []
all_read body len e = ap (λ n. drop n body) e ∙ drop_whole body
  where
    drop_whole : (xs : List ℕ) → drop (length xs) xs ≡ []
    drop_whole [] = refl
    drop_whole (x ∷ xs) = drop_whole xs

pub row_stands : (def : RelationDef) (place body : List ℕ) (copies : ℕ) (cells : List Cell) (len : ℕ)
    → tuple_at body ≡ Ok (cells, (len, drop len body)) → IsWireTuple cells → body ≡ tuple_spelling cells ++ drop len body
    → len ≡ length body
    → checked_insert def cells ≡ Ok tt → 1 ≤ copies → copies ≤ (if keyed def then 1 else most_copies) → place ≡ identity_key def cells
    → IsRowOf def place (record { body = body; copies = copies })
row_stands def place body copies cells len read fits begins whole checked some few known =
    let is : spelled_cells body ≡ cells = ap cells_read read in
    let spelled : body ≡ tuple_spelling cells =
    begins ∙ ap (λ rest. tuple_spelling cells ++ rest) (all_read body len whole) ∙ append-nil (tuple_spelling cells) in
    let wide = refused (not (has_width def cells)) _ _ _ checked in
    let sent = refused (has_unchanged cells) _ _ _ wide.1 in
    record {
      tuple = subst IsWireTuple (sym is) fits;
      spelled = spelled ∙ ap tuple_spelling (sym is);
      row = subst (λ cs. IsRow def place (record { cells = cs; copies = copies })) (sym is) (record {
        width = eqb-true (length cells) (length def.columns) (not-false _ wide.0);
        known = known;
        sent = sent.0;
        some = some;
        copies = few;
      });
    }

-- a front as long as the list is all of it
pub take_whole : {A : Type 0} (n : ℕ) (xs : List A) → length xs ≤ n → take n xs ≡ xs
take_whole zero [] h = refl
take_whole zero (x ∷ xs) h = absurd (omega arith)
take_whole (suc n) [] h = refl
take_whole (suc n) (x ∷ xs) h = ap (λ l. x ∷ l) (take_whole n xs (omega arith))
