-- The definition that a relation has, and the rows that a change finds under it.
use Rattle.std.proofs.Common.{◌≡◌, ℕ, List, [], ◌∷◌, Bool, true, false, Option, Some, None, Ok}
use Rattle.std.proofs.Common.{refl, sym, ap, subst, ◌∙◌, inl, inr}
use Rattle.std.specs.Prelude.{option_map, ◌==◌, ◌||◌, ◌&&◌, if◌then◌else◌, ◌≢◌}
use Rattle.std.specs.List.{AllByRecursion}
use Rattle.std.specs.Ordering.{nat_cmp}
use Rattle.std.specs.Cmp.Lexicographic.{slice_cmp, pointwise}
use Rattle.std.specs.FinMap as map
use Rattle.std.specs.FinMap.{get-empty}
use Rattle.std.proofs.lemmas.Bool.{cases_Bool, eqb-true}
use Rattle.pgtuple.specs.Limits.{IsWireTuple}
use Rattle.pglogical.specs.declared.message.Column.{Column}
use Rattle.pglogical.specs.declared.message.RelationDef.{RelationDef}
use Rattle.pglogical.specs.Spelling.{IsText, IsColumn, AreColumns, IsDefinition, columns_spelling}
use Rattle.pgrel.specs.Identity.{shape, same_shape, same_column}
use Rattle.pgrel.proofs.Shapes.{shapes_decide}
use Rattle.pgtables.specs.Kept as stored
use Rattle.pgapply.specs.declared.op.Op.{Op}
use Rattle.pgapply.specs.Value.{Row, Rows, Table, Tables}
use Rattle.pgapply.specs.Apply.{found_rows, carried_for}
use Rattle.pgencoded.specs.Spelled.{IsStored, IsChanging, AreTupleRows, spelled_definition, row_in}
use Rattle.pgencoded.proofs.SpelledRows.{definition_put, definition_stands, rows_gone}
use Rattle.pgencoded.proofs.Acting.{tuples_none}
use Rattle.pgreshaping.specs.Carries.{IsReadAs, emptied, flags_and_names}
use Rattle.pgapply.proofs.ChangedShapes.{found_changed}
use Rattle.pgapply.proofs.KeepsForm.{found, no_rows, same_some}
use Rattle.pgreshaping.proofs.ColumnSpellings.{columns_shape, one_shape}

-- ---- shapes

bools_alike : (a b : Bool) → (a ≡ true → b ≡ true) → (b ≡ true → a ≡ true) → a ≡ b
bools_alike true b there back = sym (there refl)
bools_alike false true there back = back refl
bools_alike false false there back = refl

pub shape_as : (a b def : RelationDef) → shape a ≡ shape b → same_shape a def ≡ same_shape b def
shape_as a b def e = bools_alike (same_shape a def) (same_shape b def)
    (λ h. (shapes_decide b def).1 (sym e ∙ (shapes_decide a def).0 h)) (λ h. (shapes_decide a def).1 (e ∙ (shapes_decide b def).0 h))

pub own_shape : (def : RelationDef) → same_shape def def ≡ true
own_shape def = (shapes_decide def def).1 refl

names_of : (columns : List Column) → AllByRecursion IsColumn columns → AllByRecursion (λ (c : Column). IsText c.name) columns
names_of [] h = tt
names_of (c ∷ columns) h = (h.0.0.plain, names_of columns h.1)

-- ---- the rows that are found

-- the rows that are found are those that are stored
abbrev pub AreAsStored : Tables → RelationDef → Rows → Type 0
AreAsStored v def rows = (place : List ℕ) → row_in (map.get v def.oid) place ≡ map.get rows place

module _ (v : Tables) (def : RelationDef) (t : stored.Tables) (h : IsStored v t) where
  found_tuples : (rows : Rows) → AreAsStored v def rows → AreTupleRows rows
  found_tuples rows same place row at = go (map.get v def.oid) refl (same place ∙ at)
    where
      go : (there : Option Table) → map.get v def.oid ≡ there → row_in (map.get v def.oid) place ≡ Some row → IsWireTuple row.cells
      go None is at = absurd (let none = sym (ap (λ table. row_in table place) is) ∙ at in cc)
      go (Some table) is at = (h.spellable def.oid table is).rows place row (sym (ap (λ table. row_in table place) is) ∙ at)

  -- the relation has the definition now
  pub given : (op : Op) (rows : Rows) → found_rows (map.get v def.oid) def op ≡ Ok rows → AreAsStored v def rows
      → IsChanging v def rows (stored.with_definition def.oid (spelled_definition def) t)
  given op rows e same = record {
    spelled = definition_put v def rows t h.spelled same;
    form = found (map.get v def.oid) def op rows (λ table at. (h.form def.oid table at).each) e;
    tuples = found_tuples rows same;
  }

  -- or had it
  pub given_before : (op : Op) (rows : Rows) → found_rows (map.get v def.oid) def op ≡ Ok rows → AreAsStored v def rows
      → map.get t.defined def.oid ≡ Some (spelled_definition def) → IsChanging v def rows t
  given_before op rows e same stands = record {
    spelled = definition_stands v def rows t h.spelled same stands;
    form = found (map.get v def.oid) def op rows (λ table at. (h.form def.oid table at).each) e;
    tuples = found_tuples rows same;
  }

  -- no definition is stored, so there are no rows
  pub found_nothing : (op : Op) → map.get t.defined def.oid ≡ None
      → (rows : Rows) × (found_rows (map.get v def.oid) def op ≡ Ok rows) × AreAsStored v def rows
  found_nothing op none = let it = go (map.get v def.oid) (sym (h.spelled.defined def.oid) ∙ none) in (map.empty, it.0, it.1)
    where
      go : (there : Option Table) → option_map (λ (table : Table). spelled_definition table.definition) there ≡ None
          → (found_rows there def op ≡ Ok map.empty)
          × ((place : List ℕ) → row_in there place ≡ map.get (map.empty {X = Row} {R = slice_cmp nat_cmp}) place)
      go None e = (refl, λ place. sym (get-empty (slice_cmp nat_cmp) place))
      go (Some table) e = absurd (cc)

  -- the table whose definition is stored
  pub stored_table : (there : stored.Definition) → map.get t.defined def.oid ≡ Some there
      → (table : Table) × (map.get v def.oid ≡ Some table) × (there ≡ spelled_definition table.definition)
  stored_table there at = go (map.get v def.oid) refl
    where
      go : (o : Option Table) → map.get v def.oid ≡ o → (table : Table) × (o ≡ Some table) × (there ≡ spelled_definition table.definition)
      go None is = absurd (let no =
          sym (h.spelled.defined def.oid ∙ ap (option_map (λ (table : Table). spelled_definition table.definition)) is) ∙ at in cc)
      go (Some table) is = (
        table,
        refl,
        same_some (sym at ∙ h.spelled.defined def.oid ∙ ap (option_map (λ (table : Table). spelled_definition table.definition)) is),
      )

  found_by : (op : Op) (table : Table) → map.get v def.oid ≡ Some table
      → (same_shape table.definition def || map.len table.rows == 0) ≡ true → found_rows (map.get v def.oid) def op ≡ Ok table.rows
  found_by op table is ok = ap (λ there. found_rows there def op) is ∙ ap (λ b. if b then Ok table.rows else carried_for table def op) ok

  -- a definition of one shape
  pub found_shape : (op : Op) (there : stored.Definition) → map.get t.defined def.oid ≡ Some there
      → ((old : RelationDef) → IsDefinition old → there ≡ spelled_definition old → true ≡ same_shape old def)
      → (rows : Rows) × (found_rows (map.get v def.oid) def op ≡ Ok rows) × AreAsStored v def rows
  found_shape op there at shaped =
      let it = stored_table there at in
      let same = shaped it.0.definition (h.spellable def.oid it.0 it.1).definition it.2 in
      (it.0.rows, found_by op it.0 it.1 (ap (λ b. b || map.len it.0.rows == 0) (sym same)), λ place. ap (λ table. row_in table place) it.1)

  -- one of another shape: the rows are carried over
  module _ (there : stored.Definition) (at : map.get t.defined def.oid ≡ Some there)
      (shaped : (old : RelationDef) → IsDefinition old → there ≡ spelled_definition old → false ≡ same_shape old def) where
    abbrev the_table : Table
    the_table = (stored_table there at).0

    pub found_other : (op : Op) → found_rows (map.get v def.oid) def op ≡ carried_for the_table def op
    found_other op =
        let it = stored_table there at in
        ap (λ o. found_rows o def op) it.1
        ∙ found_changed it.0 def op (sym (shaped it.0.definition (h.spellable def.oid it.0 it.1).definition it.2))

  -- the relation has the definition, and no rows yet
  pub emptied_first : (after : stored.Tables) (columns : List ℕ) → columns ≡ columns_spelling def.columns → after ≡ emptied def columns t
      → (there : stored.Definition) → map.get t.defined def.oid ≡ Some there → IsChanging v def map.empty after
  emptied_first after columns are is there at =
      let it = stored_table there at in
      let put = definition_put v def it.0.rows t h.spelled (λ place. ap (λ table. row_in table place) it.1) in
      subst (IsChanging v def map.empty) (sym (is ∙ ap (λ c. emptied def c t) are)) (record {
        spelled = rows_gone v def it.0.rows (stored.with_definition def.oid (spelled_definition def) t) put;
        form = no_rows def;
        tuples = tuples_none;
      })

  -- a definition that is stored word for word has the shape
  pub found_same : (op : Op) → IsDefinition def → map.get t.defined def.oid ≡ Some (spelled_definition def)
      → (rows : Rows) × (found_rows (map.get v def.oid) def op ≡ Ok rows) × AreAsStored v def rows
  found_same op definition at = found_shape op (spelled_definition def) at (λ old is e.
      sym ((shapes_decide old def).1
      (one_shape old def is definition (sym (ap (λ (d : stored.Definition). d.letter) e))
      (sym (ap (λ (d : stored.Definition). d.columns) e)))))

-- the shape of columns that were read
pub columns_read : (columns : List Column) (old : RelationDef) → IsDefinition old → AreColumns columns
    → columns_spelling columns ≡ columns_spelling old.columns → flags_and_names columns ≡ flags_and_names old.columns
columns_read columns old is are spelled = columns_shape columns old.columns (names_of columns are.1) is.names spelled

pub read_shape : (there : stored.Definition) (before old def : RelationDef) → IsReadAs there def before → IsDefinition old
    → there ≡ spelled_definition old → old.letter ≡ def.letter → same_shape before def ≡ same_shape old def
read_shape there before old def read is e letter = shape_as before old def (λ i. ((read.letter ∙ sym letter) i, read.columns old is e i))

pub other_letter : (old def : RelationDef) → old.letter ≢ def.letter → false ≡ same_shape old def
other_letter old def apart = elim (cases_Bool (old.letter == def.letter)) [
  | inl same ↦ absurd (apart (eqb-true old.letter def.letter same))
  | inr other ↦ sym (ap (λ b. b && pointwise same_column old.columns def.columns) other)
]
