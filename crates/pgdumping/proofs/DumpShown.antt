-- The rows that are read from the dump of the tables are the dump of the value.
use Rattle.std.proofs.Common.{◌≡◌, ◌<◌, ◌^◌, ℕ, pos, Option, List, [], ◌∷◌, ◌++◌, map, Some, Result}
use Rattle.std.proofs.Common.{Ok, Err, IfOk, refl, sym, ap, subst, ◌∙◌, inl, inr}
use Rattle.std.specs.Prelude.{◌≢◌, Bool, IfErr, None, true, MatchOption, option_map, unwrap_or}
use Rattle.std.specs.List.{flat_map, AllByRecursion, AllZip}
use Rattle.std.specs.Cmp.{nat_cmp_total}
use Rattle.std.specs.Cmp.Lexicographic.{nat_list_cmp_total}
use Rattle.std.specs.FinMap as finite
use Rattle.sqlite.specs.declared.types.Value.TheVariants.{Int, Text, Blob}
use Rattle.sqlite.specs.Order as sql
use Rattle.sqlite_rules.specs.Lists as sets
use Rattle.sqlite_rules.proofs.ListLemmas.{all_has}
use Rattle.pgtuple.specs.declared.cell.Cell.{Cell}
use Rattle.pgtuple.specs.Limits.{IsWireTuple}
use Rattle.pgtuple.specs.Reading.{Read}
use Rattle.pgtables.specs.Kept as stored
use Rattle.pgtables.specs.DumpOrder.{dump_of, shown_at, no_definition}
use Rattle.pgapply.specs.declared.rows.DumpRow.{DumpRow}
use Rattle.pgapply.specs.declared.fault.StoreFault.{StoreFault}
use Rattle.pgapply.specs.declared.fault.StoreFault.TheVariants.{NotAStore}
use Rattle.pgapply.specs.Stored.{IsOwnFault}
use Rattle.pgapply.proofs.KeepsForm.{same_some}
use Rattle.pgencoded.specs.SqlFault.{IsRefusal}
use Rattle.pgtuple.specs.Cells.{tuple_spelling}
use Rattle.pgapply.specs.Value.{Row, Table, Tables, IsTable}
use Rattle.pgencoded.specs.Spelled.{IsReadable, IsSpellable, IsStored, AreTupleRows}
use Rattle.pgencoded.specs.Spelled.{spelled_definition}
use Rattle.pgapply.specs.Dump.{dump, dump_row, table_dump, shown_namespace}
use Rattle.pgencoded.proofs.Formed.{encoded_read, few_copies}
use Rattle.pgdumping.specs.DumpRead.{IsLeft, IsReadFrom, IsWritten}
use Rattle.pgdumping.proofs.DumpNested.{Has, placed, placed_rows, entries_are, entry_got}

abbrev Pairs : Type 0
Pairs = List (List ℕ × Row)

map_joined : {A B : Type 0} (f : A → B) (xs ys : List A) → map f (xs ++ ys) ≡ map f xs ++ map f ys
map_joined f [] ys = refl
map_joined f (x ∷ xs) ys = ap (λ l. f x ∷ l) (map_joined f xs ys)

same_text : {a b : List ℕ} → Text a ≡ Text b → a ≡ b
same_text e = cc

same_number : {a b : ℕ} → Int (pos a) ≡ Int (pos b) → a ≡ b
same_number e = cc

same_row : (a b : DumpRow) → a.oid ≡ b.oid → a.namespace ≡ b.namespace → a.name ≡ b.name → a.cells ≡ b.cells → a.copies ≡ b.copies → a ≡ b
same_row a b p q r s u = λ i. record { oid = p i; namespace = q i; name = r i; cells = s i; copies = u i }

same_bytes : {a b : List ℕ} → Blob a ≡ Blob b → a ≡ b
same_bytes e = cc

zip_joined : {A B : Type 0} (R : A → B → Type 0) (xs : List A) (ys : List B) (zs : List A) (ws : List B) → AllZip R xs ys → AllZip R zs ws
    → AllZip R (xs ++ zs) (ys ++ ws)
zip_joined R [] [] zs ws h k = k
zip_joined R [] (y ∷ ys) zs ws h k = absurd h
zip_joined R (x ∷ xs) [] zs ws h k = absurd h
zip_joined R (x ∷ xs) (y ∷ ys) zs ws h k = (h.0, zip_joined R xs ys zs ws h.1 k)

-- what stands beside the rest of a list
zip_rest : {A B : Type 0} (R : A → B → Type 0) (xs zs : List A) (ys : List B) → AllZip R (xs ++ zs) ys → (ws : List B) × AllZip R zs ws
zip_rest R [] zs ys h = (ys, h)
zip_rest R (x ∷ xs) zs [] h = absurd h
zip_rest R (x ∷ xs) zs (y ∷ ys) h = zip_rest R xs zs ys h.1

-- a tuple has one encoding
one_tuple : (cells others : List Cell) → IsWireTuple cells → IsWireTuple others → tuple_spelling cells ≡ tuple_spelling others
    → cells ≡ others
one_tuple cells others fits also same =
    ap cells_read (sym (encoded_read cells (tuple_spelling cells) fits refl) ∙ encoded_read others (tuple_spelling cells) also same)
  where
    cells_read : Read (List Cell) → List Cell
    cells_read (Ok at) = at.0
    cells_read (Err f) = []

module _ (t : stored.Tables) where
  abbrev shown : List ℕ × stored.Copies → sql.Row
  shown e = shown_at t e.0 e.1

  -- a row is read from what is shown of it
  row_read : (oid : ℕ) (table : Table) → finite.get t.defined oid ≡ Some (spelled_definition table.definition) → (e : List ℕ × Row)
      → IsWireTuple e.1.cells
      → (r : DumpRow) → IsReadFrom (shown (placed oid e)) r → r ≡ dump_row oid table e
  row_read oid table defined e tuple r h =
      let named = ap (λ d. unwrap_or d no_definition) defined in
      same_row r (dump_row oid table e) (sym (same_number h.oid))
      (h.namespace.2 ∙ ap shown_namespace (sym (same_text h.namespace.1) ∙ ap (λ (d : stored.Definition). d.namespace) named))
      (sym (same_text h.name) ∙ ap (λ (d : stored.Definition). d.name) named)
      (h.cells e.1.cells tuple refl)
      (sym (same_number h.copies))

  -- the rows of one relation, with what comes behind them
  table_read : (oid : ℕ) (table : Table) → finite.get t.defined oid ≡ Some (spelled_definition table.definition) → (rs : Pairs)
      → ((e : List ℕ × Row) → Has rs e → IsWireTuple e.1.cells)
      → (rest : List sql.Row) (rows : List DumpRow) → AllZip IsReadFrom (map shown (map (placed oid) rs) ++ rest) rows
      → (more : List DumpRow) × (rows ≡ map (dump_row oid table) rs ++ more) × AllZip IsReadFrom rest more
  table_read oid table defined [] tuples rest rows h = (rows, refl, h)
  table_read oid table defined (e ∷ rs) tuples rest [] h = absurd h
  table_read oid table defined (e ∷ rs) tuples rest (r ∷ rows) h =
      let later = table_read oid table defined rs (λ x has. tuples x (inr has)) rest rows h.1 in
      (later.0, λ i. row_read oid table defined e (tuples e (inl refl)) r h.0 i ∷ later.1 i, later.2)

  all_read : (es : List (ℕ × Table))
      → ((e : ℕ × Table) → Has es e → (finite.get t.defined e.0 ≡ Some (spelled_definition e.1.definition)) × AreTupleRows e.1.rows)
      → (rows : List DumpRow) → AllZip IsReadFrom (map shown (flat_map placed_rows es)) rows → rows ≡ flat_map table_dump es
  all_read [] each [] h = refl
  all_read [] each (r ∷ rows) h = absurd h
  all_read (e ∷ es) each rows h =
      let own = each e (inl refl) in
      let front = table_read e.0 e.1 own.0 (finite.entries e.1.rows) (λ x has. own.1 x.0 x.1 (entry_got nat_list_cmp_total e.1.rows x has))
      (map shown (flat_map placed_rows es)) rows
      (subst (λ l. AllZip IsReadFrom l rows) (map_joined shown (placed_rows e) (flat_map placed_rows es)) h) in
      front.1 ∙ ap (λ l. table_dump e ++ l) (all_read es (λ x has. each x (inr has)) front.0 front.2)

  -- ---- what is shown of a row is read as it

  row_is_read : (oid : ℕ) (table : Table) → finite.get t.defined oid ≡ Some (spelled_definition table.definition) → (e : List ℕ × Row)
      → IsWireTuple e.1.cells → IsReadFrom (shown (placed oid e)) (dump_row oid table e)
  row_is_read oid table defined e tuple =
      let named = ap (λ d. unwrap_or d no_definition) defined in
      record {
        oid = refl;
        namespace = (table.definition.namespace, ap (λ (d : stored.Definition). Text d.namespace) named, refl);
        name = ap (λ (d : stored.Definition). Text d.name) named;
        cells = λ cells fits same. one_tuple e.1.cells cells tuple fits (same_bytes same);
        copies = refl;
      }

  table_is_read : (oid : ℕ) (table : Table) → finite.get t.defined oid ≡ Some (spelled_definition table.definition) → (rs : Pairs)
      → ((e : List ℕ × Row) → Has rs e → IsWireTuple e.1.cells)
      → (rest : List sql.Row) (more : List DumpRow) → AllZip IsReadFrom rest more
      → AllZip IsReadFrom (map shown (map (placed oid) rs) ++ rest) (map (dump_row oid table) rs ++ more)
  table_is_read oid table defined [] tuples rest more h = h
  table_is_read oid table defined (e ∷ rs) tuples rest more h =
      (row_is_read oid table defined e (tuples e (inl refl)), table_is_read oid table defined rs (λ x has. tuples x (inr has)) rest more h)

  all_is_read : (es : List (ℕ × Table))
      → ((e : ℕ × Table) → Has es e → (finite.get t.defined e.0 ≡ Some (spelled_definition e.1.definition)) × AreTupleRows e.1.rows)
      → AllZip IsReadFrom (map shown (flat_map placed_rows es)) (flat_map table_dump es)
  all_is_read [] each = tt
  all_is_read (e ∷ es) each =
      let own = each e (inl refl) in
      subst (λ l. AllZip IsReadFrom l (table_dump e ++ flat_map table_dump es))
      (sym (map_joined shown (placed_rows e) (flat_map placed_rows es)))
      (table_is_read e.0 e.1 own.0 (finite.entries e.1.rows) (λ x has. own.1 x.0 x.1 (entry_got nat_list_cmp_total e.1.rows x has))
      (map shown (flat_map placed_rows es)) (flat_map table_dump es) (all_is_read es (λ x has. each x (inr has))))

  -- ---- they can be read

  row_written : (oid : ℕ) (table : Table) → finite.get t.defined oid ≡ Some (spelled_definition table.definition) → oid < 2 ^ 32
      → IsReadable table.definition → (e : List ℕ × Row) → IsWireTuple e.1.cells → e.1.copies < 2 ^ 32 → IsWritten (shown (placed oid e))
  row_written oid table defined fits readable e tuple few = record {
    oid = oid;
    namespace = table.definition.namespace;
    name = table.definition.name;
    cells = e.1.cells;
    copies = e.1.copies;
    is = ap (λ (o : Option stored.Definition). let d = unwrap_or o no_definition in
        Int (pos oid) ∷ Text d.namespace ∷ Text d.name ∷ Blob (tuple_spelling e.1.cells) ∷ Int (pos e.1.copies) ∷ []) defined;
    oid_fits = fits;
    namespace_is_text = readable.namespace;
    name_is_text = readable.name;
    tuple = tuple;
    copies_fit = few;
  }

  table_written : (oid : ℕ) (table : Table) → finite.get t.defined oid ≡ Some (spelled_definition table.definition) → oid < 2 ^ 32
      → IsReadable table.definition → (rs : Pairs) → ((e : List ℕ × Row) → Has rs e → IsWireTuple e.1.cells × (e.1.copies < 2 ^ 32))
      → (rest : List sql.Row) → AllByRecursion IsWritten rest → AllByRecursion IsWritten (map shown (map (placed oid) rs) ++ rest)
  table_written oid table defined fits readable [] each rest all = all
  table_written oid table defined fits readable (e ∷ rs) each rest all =
      let own = each e (inl refl) in (
        row_written oid table defined fits readable e own.0 own.1,
        table_written oid table defined fits readable rs (λ x has. each x (inr has)) rest all,
      )

  tables_written : (es : List (ℕ × Table))
      → ((e : ℕ × Table) → Has es e
      → (finite.get t.defined e.0 ≡ Some (spelled_definition e.1.definition)) × IsTable e.0 e.1 × IsSpellable e.1)
      → AllByRecursion IsWritten (map shown (flat_map placed_rows es))
  tables_written [] each = tt
  tables_written (e ∷ es) each =
      let own = each e (inl refl) in
      let fits : e.0 < 2 ^ 32 = subst (λ oid. oid < 2 ^ 32) own.1.same_oid own.2.readable.oid in
      subst (AllByRecursion IsWritten) (sym (map_joined shown (placed_rows e) (flat_map placed_rows es)))
      (table_written e.0 e.1 own.0 fits own.2.readable (finite.entries e.1.rows) (λ x has.
      let got = entry_got nat_list_cmp_total e.1.rows x has in
      (own.2.rows x.0 x.1 got, few_copies e.1.definition x.1.copies (own.1.each x.0 x.1 got).copies))
      (map shown (flat_map placed_rows es)) (tables_written es (λ x has. each x (inr has))))

pub dump_read : (v : Tables) (t : stored.Tables) → IsStored v t → (rows : List DumpRow) → AllZip IsReadFrom (dump_of t) rows → rows ≡ dump v
dump_read v t h rows read =
    all_read t (finite.entries v)
    (λ e has. let got = entry_got nat_cmp_total v e has in (
      h.spelled.defined e.0 ∙ ap (option_map (λ (table : Table). spelled_definition table.definition)) got,
      (h.spellable e.0 e.1 got).rows,
    ))
    rows (subst (λ es. AllZip IsReadFrom (map (shown t) es) rows) (entries_are v t h.spelled) read)

dump_is_read : (v : Tables) (t : stored.Tables) → IsStored v t → AllZip IsReadFrom (dump_of t) (dump v)
dump_is_read v t h =
    subst (λ es. AllZip IsReadFrom (map (shown t) es) (dump v)) (sym (entries_are v t h.spelled))
    (all_is_read t (finite.entries v)
    (λ e has. let got = entry_got nat_cmp_total v e has in (
      h.spelled.defined e.0 ∙ ap (option_map (λ (table : Table). spelled_definition table.definition)) got,
      (h.spellable e.0 e.1 got).rows,
    )))

-- rows that are read from a front of what is shown are a front of the dump
pub front_read : (v : Tables) (t : stored.Tables) → IsStored v t → (done left : List sql.Row) → dump_of t ≡ done ++ left
    → (rows : List DumpRow) → AllZip IsReadFrom done rows
    → (more : List DumpRow) × (dump v ≡ rows ++ more)
front_read v t h done left is rows read =
    let rest = zip_rest IsReadFrom done left (dump v) (subst (λ l. AllZip IsReadFrom l (dump v)) is (dump_is_read v t h)) in (
      rest.0,
      sym (dump_read v t h (rows ++ rest.0)
          (subst (λ l. AllZip IsReadFrom l (rows ++ rest.0)) (sym is) (zip_joined IsReadFrom done rows left rest.0 read rest.1))),
    )

pub all_written : (v : Tables) (t : stored.Tables) → IsStored v t → AllByRecursion IsWritten (dump_of t)
all_written v t h =
    subst (λ es. AllByRecursion IsWritten (map (shown t) es)) (sym (entries_are v t h.spelled))
    (tables_written t (finite.entries v) (λ e has.
    let got = entry_got nat_cmp_total v e has in (
      h.spelled.defined e.0 ∙ ap (option_map (λ (table : Table). spelled_definition table.definition)) got,
      h.form e.0 e.1 got,
      h.spellable e.0 e.1 got,
    )))

-- ---- how reading ended

pub if_all : (r : Result Bool StoreFault) {Q : Type 0} → (r ≡ Ok true → Q) → IfOk r (λ all. all ≡ true → Q)
if_all (Ok b) goes = λ is. goes (ap Ok is)
if_all (Err e) goes = tt

pub if_told : (r : Result Bool StoreFault) {P : StoreFault → Type 0} → IfErr r IsRefusal → IfErr r P
    → ((fault : StoreFault) → IsRefusal fault → P fault → IsOwnFault fault) → IfErr r IsOwnFault
if_told (Ok b) refusal told goes = tt
if_told (Err fault) refusal told goes = goes fault refusal told

pub some_cause : (told : Option StoreFault) (A : Type 0) {B : StoreFault → Type 0} → told ≢ None → MatchOption told A B
    → (cause : StoreFault) × (told ≡ Some cause) × B cause
some_cause None A some h = absurd (some refl)
some_cause (Some cause) A some h = (cause, refl, h)

-- the fault of a row that isn't read, where each row is one that a store writes
pub own_of_left : {fault : StoreFault} {told : Option StoreFault} (rows : List sql.Row) → AllByRecursion IsWritten rows
    → ((row : sql.Row) × sets.Has rows row × ((cause : StoreFault) × (told ≡ Some cause) × IsLeft row cause))
    → IsRefusal fault → (fault ≡ NotAStore → told ≡ Some NotAStore) → IsOwnFault fault
own_of_left rows all at (inl own) malformed = own
own_of_left {fault = fault} rows all at (inr is) malformed =
    let same : at.2.0 ≡ NotAStore = same_some (sym at.2.1 ∙ malformed is) in
    elim (subst (IsLeft at.0) same at.2.2) [
      | inl memory ↦ absurd (cc)
      | inr unwritten ↦ absurd (unwritten.1 (all_has IsWritten _ at.0 all at.1))
    ]
