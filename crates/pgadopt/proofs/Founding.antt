-- A connection whose tables were read and checked, and what is stored in them.
use Rattle.std.proofs.Common.{◌≡◌, ◌<◌, ◌^◌, ◌⊎◌, IsTrue, inl, inr, false, ℕ, List, [], ◌∷◌, Bool}
use Rattle.std.proofs.Common.{Option, Some, None, cond, true, true≢false, refl, sym, ap, subst, ◌∙◌}
use Rattle.std.proofs.Common.{map, length, arith}
use Rattle.std.specs.Prelude.{◌&&◌, is_some, option_map, slice_get, unwrap_or}
use Rattle.std.specs.Int.{w64, to_be_bytes, from_be_bytes}
use Rattle.std.proofs.lemmas.Nat.{from_be_bytes-to_be_bytes_8}
use Rattle.std.specs.Ordering.{nat_cmp, is_eq}
use Rattle.std.specs.Cmp.{IsTotalOrder, nat_cmp_total}
use Rattle.std.specs.Cmp.Lexicographic.{slice_cmp, nat_list_cmp_total}
use Rattle.std.specs.FinMap as finite
use Rattle.std.specs.FinMap.{find, get-empty, get-from_entries}
use Rattle.std.proofs.lemmas.Cmp.{tied_itself}
use Rattle.sqlite.specs.Order as order
use Rattle.sqlite.specs.Order.{column, bytes}
use Rattle.sqlite.specs.Tree.{Trees}
use Rattle.sqlite.specs.Effect.{Database, IsDatabase}
use Rattle.sqlite.specs.Store.{Ghosts}
use Rattle.sqlite.specs.Held.{Held, state}
use Rattle.sqlite.specs.State.{HasCleanDisk, Survives}
use Rattle.sqlite.specs.Schema.{Schema}
use Rattle.sqlite.specs.Table.{Table}
use Rattle.sqlite.proofs.StateLemmas.{survives_then}
use Rattle.pgtables.specs.Schema.{no_schema, store_schema}
use Rattle.pgtables.specs.Kept as stored
use Rattle.pgtables.specs.Kept.{AreDefined, AreHeld, map_by, pos_row, tables_in, tables_of, oid_in}
use Rattle.pgtables.specs.Kept.{key_in, definition_in, copies_in, no_tables, with_place}
use Rattle.pgtables.specs.declared.remains.Remains.{Remains}
use Rattle.pgtables.specs.Remains.{remaining, schema_of, rows_if}
use Rattle.pgtables.specs.Opened.{AreAccepted, ListsDefinitions}
use Rattle.pgapply.specs.Stored.{Stored}
use Rattle.pgapply.specs.Value.{Tables}
use Rattle.pgencoded.specs.Spelled.{IsStored, spelled_definition}
use Rattle.pgencoded.specs.DatabaseValue.{AreOf, IsPlaceOf, IsValueOf, LeavesAdopted}
use Rattle.pgencoded.specs.DatabaseValue.{nothing_stored}
use Rattle.pgadopt.specs.Adopted.{AreDefinitionsOf, AreRead, AreRemade, Definitions, Founds}
use Rattle.pgadopt.specs.Adopted.{HasRemade, IsKnownRow, IsPlaceRead, LeavesRemade, Stands}
use Rattle.pgadopt.specs.Adopted.{is_whole, with_definitions}
use Rattle.pgadopt.proofs.Adopted.{tables_from, value_stands}
use Rattle.pgadopt.proofs.Remade.{got_definitions, got_no_row}
use Rattle.pgadopt.proofs.Beginning.{no_value}

not_both : {X A : Type 0} {x : X} → ◌≡◌ {A = Option X} None (Some x) → A
not_both e = absurd cc

-- no row where nothing is found
none_there : {K X : Type 0} {R : K → K → _} (total : IsTotalOrder R) (key : order.Row → K) (val : order.Row → X) (rows : List order.Row)
    → ((q : K) → finite.get (map_by {R = R} key val rows) q ≡ None) → rows ≡ []
none_there total key val [] none = refl
none_there {R = R} total key val (r ∷ rows) none =
    let there : finite.get (map_by {R = R} key val (r ∷ rows)) (key r) ≡ Some (val r) =
    get-from_entries total (map (λ r. (key r, val r)) (r ∷ rows)) (key r)
    ∙ ap (λ o. cond (is_eq o) (Some (val r)) (find R (key r) (map (λ r. (key r, val r)) rows))) (tied_itself total (key r)) in
    not_both (sym (none (key r)) ∙ there)

-- nothing is found where there is no row
none_found : {K X : Type 0} {R : K → K → _} (total : IsTotalOrder R) (key : order.Row → K) (val : order.Row → X) (rows : List order.Row)
    → rows ≡ [] → (q : K) → finite.get (map_by {R = R} key val rows) q ≡ None
none_found {R = R} total key val rows empty q = ap (λ rows. finite.get (map_by {R = R} key val rows) q) empty ∙ get-from_entries total [] q

gone : (b : Bool) (rows : List order.Row) → b ≡ false → rows_if b rows ≡ []
gone b rows is = ap (λ b. rows_if b rows) is

pub same_position : (a b : ℕ) → a < 2 ^ 64 → b < 2 ^ 64 → to_be_bytes w64 a ≡ to_be_bytes w64 b → a ≡ b
same_position a b fits also e = sym (from_be_bytes-to_be_bytes_8 a fits) ∙ ap (from_be_bytes w64) e ∙ from_be_bytes-to_be_bytes_8 b also

pub not_some : (o : Option ℕ) → is_some o ≡ false → o ≡ None
not_some None is = refl
not_some (Some n) is = absurd (true≢false is)

pub whole_placed : (left : Remains) → is_whole left ≡ true → IsTrue left.has_position
whole_placed left whole = go left.has_definitions left.has_rows left.has_position whole
  where
    go : (d h p : Bool) → (d && (h && p)) ≡ true → IsTrue p
    go true true p is = is
    go true false p is = absurd (true≢false (sym is))
    go false h p is = absurd (true≢false (sym is))

-- ---- which tables there are

has_tree : ℕ → List Table → Bool
has_tree tree [] = false
has_tree tree (t ∷ ts) = cond (nat_is t.tree tree) true (has_tree tree ts)
  where
    nat_is : ℕ → ℕ → Bool
    nat_is a b = is_eq (nat_cmp a b)

remains_in : Schema → Remains
remains_in schema = record
    { has_definitions = has_tree 0 schema.tables; has_rows = has_tree 1 schema.tables; has_position = has_tree 3 schema.tables }

told : (d h p : Bool) → let left : Remains = record { has_definitions = d; has_rows = h; has_position = p } in
    remains_in (schema_of left) ≡ left
unfolding remains_in has_tree
told true true true = refl
told true true false = refl
told true false true = refl
told true false false = refl
told false true true = refl
told false true false = refl
told false false true = refl
told false false false = refl

pub same_left : (a b : Remains) → schema_of a ≡ schema_of b → a ≡ b
same_left a b is = sym (told a.has_definitions a.has_rows a.has_position) ∙ ap remains_in is
    ∙ told b.has_definitions b.has_rows b.has_position

-- ---- what was read

module _ (left : Remains) (d : Database) (definitions : List (ℕ × stored.Definition)) (found : Option ℕ)
    (read : AreRead left d.trees definitions found) where
  abbrev left_tables : stored.Tables
  left_tables = tables_in (remaining left d.trees)

  abbrev pub read_value : Stored
  read_value = record { tables = tables_from read.known left_tables.rows; position = unwrap_or found 0 }

  nothing_listed : definitions ≡ [] → (oid : ℕ) → find nat_cmp oid definitions ≡ None
  nothing_listed empty oid = ap (find nat_cmp oid) empty

  -- where there is no definition, there is no row
  no_row : ((oid : ℕ) → find nat_cmp oid definitions ≡ None) → (key : List ℕ) → finite.get left_tables.rows key ≡ None
  no_row none [] = read.rows.keyed
  no_row none (oid ∷ place) = go (finite.get left_tables.rows (oid ∷ place)) refl
    where
      unknown : option_map spelled_definition (finite.get read.known oid) ≡ None
      unknown = sym (read.are.each oid) ∙ none oid

      go : (o : Option stored.Copies) → finite.get left_tables.rows (oid ∷ place) ≡ o → finite.get left_tables.rows (oid ∷ place) ≡ None
      go None e = e
      go (Some kept) e = not_both (sym unknown ∙ ap (option_map spelled_definition) (read.rows.each oid place kept e).1)

  -- nor where a table is missing, or the position
  pub no_rows : (found ≡ None) ⊎ (is_whole left ≡ false) → (key : List ℕ) → finite.get left_tables.rows key ≡ None
  no_rows (inl none) = no_row (nothing_listed (read.bare none))
  no_rows (inr some) = go left.has_definitions refl left.has_rows refl left.has_position refl
    where
      unplaced : (o : Option ℕ) → found ≡ o → IsPlaceRead o (remaining left d.trees 3) → left.has_position ≡ false → (key : List ℕ)
          → finite.get left_tables.rows key ≡ None
      unplaced None is at p = no_row (nothing_listed (read.bare is))
      unplaced (Some position) is at p = absurd (let no = sym (gone left.has_position (d.trees 3) p) ∙ at.0 in cc)

      go : (a : Bool) → left.has_definitions ≡ a → (b : Bool) → left.has_rows ≡ b → (c : Bool) → left.has_position ≡ c → (key : List ℕ)
          → finite.get left_tables.rows key ≡ None
      go false a b is c at = no_row
          (λ oid. read.lists.each oid
          ∙ none_found nat_cmp_total oid_in definition_in (remaining left d.trees 0) (gone left.has_definitions (d.trees 0) a) oid)
      go true a false is c at =
          none_found nat_list_cmp_total key_in copies_in (remaining left d.trees 1) (gone left.has_rows (d.trees 1) is)
      go true a true is false at = unplaced found refl read.place at
      go true a true is true at = absurd (let whole : is_whole left ≡ true = (λ i. a i && (is i && at i)) in true≢false (sym whole ∙ some))

  pub read_stored : IsStored read_value.tables left_tables
  read_stored = value_stands left_tables definitions read.known read.are read.lists read.rows.each read.rows.keyed

  read_place : IsPlaceOf read_value.position (remaining left d.trees)
  read_place = go found refl read.place
    where
      go : (o : Option ℕ) → found ≡ o → IsPlaceRead o (remaining left d.trees 3) → IsPlaceOf (unwrap_or o 0) (remaining left d.trees)
      go None is at = inr (
        at,
        none_there nat_cmp_total oid_in definition_in (remaining left d.trees 0)
            (λ oid. sym (read.lists.each oid) ∙ nothing_listed (read.bare is) oid),
        refl,
      )
      go (Some position) is at = inl at.0

  pub read_range : read_value.position < 2 ^ 64
  read_range = go found read.place
    where
      go : (o : Option ℕ) → IsPlaceRead o (remaining left d.trees 3) → unwrap_or o 0 < 2 ^ 64
      go None at = omega arith
      go (Some position) at = at.1

  module _ (schema : d.schema ≡ schema_of left) where
    pub read_is : IsValueOf read_value d
    read_is = record {
      left = left;
      schema = schema;
      defined = read.defined;
      held = read.held;
      stored = read_stored;
      place = read_place;
      range = read_range;
    }

    -- whatever value the database has, it was read
    pub is_read : (v : Stored) → IsValueOf v d → IsStored v.tables left_tables × (v.position ≡ read_value.position)
    is_read v is =
        let same : is.left ≡ left = same_left is.left left (sym is.schema ∙ schema) in (
          subst (λ l. IsStored v.tables (tables_in (remaining l d.trees))) same is.stored,
          go found read.place (subst (λ l. IsPlaceOf v.position (remaining l d.trees)) same is.place),
        )
      where
        go : (o : Option ℕ) → IsPlaceRead o (remaining left d.trees 3) → IsPlaceOf v.position (remaining left d.trees)
            → v.position ≡ unwrap_or o 0
        go None at (inl there) = absurd (let no = sym at ∙ there in cc)
        go None at (inr none) = none.2
        go (Some position) at (inl there) =
            same_position v.position position is.range at.1
            (ap (λ rows. bytes (column (unwrap_or (slice_get rows 0) []) 2)) (sym there ∙ at.0))
        go (Some position) at (inr none) = absurd (let no = sym none.0 ∙ at.0 in cc)

  -- the tables that are made of it have the same value
  pub remade_stored : (v : Tables) (t : stored.Tables) → (found ≡ None) ⊎ (is_whole left ≡ false)
      → t ≡ with_place (to_be_bytes w64 read_value.position) (with_definitions definitions no_tables) → IsStored v left_tables
      → IsStored v t
  remade_stored v t none is has = subst (IsStored v) (sym is) (record {
    spelled = record {
      defined = λ oid. got_definitions definitions read.lists.rises oid ∙ read.lists.each oid ∙ has.spelled.defined oid;
      rows = λ oid place. got_no_row definitions (oid ∷ place) ∙ sym (no_rows none (oid ∷ place)) ∙ has.spelled.rows oid place;
      keyed = got_no_row definitions [];
    };
    form = has.form;
    spellable = has.spellable;
  })

-- three calls that change nothing read the definitions, the rows and the position
module _ {S : Type 0} (g : Ghosts S) (first second third : Held S) (one : (state g second).now ≡ (state g first).now)
    (two : (state g third).now ≡ (state g second).now) (left : Remains)
    (definitions : List (ℕ × stored.Definition)) (known : Definitions) (are : AreDefinitionsOf definitions known) where
  pub were_read : AreDefined (remaining left (state g first).now.trees 0)
      → ListsDefinitions (tables_in (remaining left (state g first).now.trees)) definitions
      → AreHeld (remaining left (state g second).now.trees 1)
      → AreAccepted IsKnownRow known (tables_in (remaining left (state g second).now.trees)) → (found : Option ℕ)
      → IsPlaceRead found (remaining left (state g third).now.trees 3) → (found ≡ None → definitions ≡ [])
      → AreRead left (state g first).now.trees definitions found
  were_read defined lists held rows found place bare = record {
    known = known;
    are = are;
    defined = defined;
    lists = lists;
    held = subst (λ (d : Database). AreHeld (remaining left d.trees 1)) one held;
    rows = subst (λ (d : Database). AreAccepted IsKnownRow known (tables_in (remaining left d.trees))) one rows;
    place = subst (λ (d : Database). IsPlaceRead found (remaining left d.trees 3)) (two ∙ one) place;
    bare = bare;
  }

-- ---- what was there is what is there

-- a database without tables holds nothing
bare_value : (d : Database) → d.schema ≡ no_schema → IsValueOf nothing_stored d
bare_value d schema =
    let none : Remains = record { has_definitions = false; has_rows = false; has_position = false } in
    record {
      left = none;
      schema = schema;
      defined = record { formed = λ r has. absurd has; keyed = λ r s has. absurd has; table = tt };
      held = record { formed = λ r has. absurd has; rowids = λ r s has. absurd has; keyed = λ r s has. absurd has; table = tt };
      stored = record {
        spelled = record {
          defined = λ oid. none_found nat_cmp_total oid_in definition_in [] refl oid ∙ sym (get-empty nat_cmp oid)
              ∙ no_value.spelled.defined oid;
          rows = λ oid place. none_found nat_list_cmp_total key_in copies_in [] refl (oid ∷ place)
              ∙ sym (get-empty (slice_cmp nat_cmp) (oid ∷ place)) ∙ no_value.spelled.rows oid place;
          keyed = none_found nat_list_cmp_total key_in copies_in [] refl [];
        };
        form = no_value.form;
        spellable = no_value.spellable;
      };
      place = inr (refl, refl, refl);
      range = omega arith;
    }

-- trees of a store hold its value
pub whole_value : (d : Database) (v : Stored) → d.schema ≡ store_schema → AreOf v d.trees → IsValueOf v d
whole_value d v schema are = record {
  left = record { has_definitions = true; has_rows = true; has_position = true };
  schema = schema;
  defined = are.kept.defined;
  held = are.kept.held;
  stored = are.stored;
  place = inl (are.kept.place ∙ ap (λ place. pos_row place ∷ []) are.position);
  range = are.range;
}

module _ {S : Type 0} (g : Ghosts S) (old new : Held S) (position : ℕ) where
  -- it is enough to say what becomes of the value
  founds : IsTrue (state g new).is_open → Stands g new position
      → ((v : Stored) → AreOf v (state g old).now.trees → (state g old).now.schema ≡ store_schema)
      → ((v : Stored) → IsValueOf v (state g old).now → IsStored v.tables (tables_of g new) × (v.position ≡ position))
      → (v : Stored) × IsValueOf v (state g old).now → Founds g old new position
  founds still stands sees value known = record {
    is_open = still;
    stands = stands;
    stood = λ v are. value v (whole_value (state g old).now v (sees v are) are);
    bare = λ none. value nothing_stored (bare_value (state g old).now none);
    value = value;
    known = known;
  }

module _ {S : Type 0} (g : Ghosts S) (old mid new : Held S) (left : Remains) (definitions : List (ℕ × stored.Definition)) (found : Option ℕ)
    (read : AreRead left (state g old).now.trees definitions found) (schema : (state g old).now.schema ≡ schema_of left)
    (sees : (v : Stored) → AreOf v (state g old).now.trees → (state g old).now.schema ≡ store_schema) where
  abbrev the_value : Stored
  the_value = read_value left (state g old).now definitions found read

  abbrev all_there : Remains
  all_there = record { has_definitions = true; has_rows = true; has_position = true }

  whole_is : (d h p : Bool) → (d && (h && p)) ≡ true
      → ◌≡◌ {A = Remains} (record { has_definitions = d; has_rows = h; has_position = p }) all_there
  whole_is true true true is = refl
  whole_is true true false is = absurd (true≢false (sym is))
  whole_is true false p is = absurd (true≢false (sym is))
  whole_is false h p is = absurd (true≢false (sym is))

  place_there : (o : Option ℕ) → is_some o ≡ true → IsPlaceRead o ((state g old).now.trees 3)
      → (state g old).now.trees 3 ≡ pos_row (to_be_bytes w64 (unwrap_or o 0)) ∷ []
  place_there None is at = absurd (true≢false (sym is))
  place_there (Some position) is at = at.0

  -- nothing was to be written
  pub stands_founds : is_some found ≡ true → is_whole left ≡ true → IsDatabase (state g old).now → IsTrue (state g new).is_open
      → (state g new).now ≡ (state g old).now → Founds g old new the_value.position
  stands_founds some whole sound still same =
      let all : left ≡ all_there = whole_is left.has_definitions left.has_rows left.has_position whole in
      let at = place_there found some (subst (λ l. IsPlaceRead found (remaining l (state g old).now.trees 3)) all read.place) in
      let place : (tables_of g old).place ≡ to_be_bytes w64 the_value.position =
      ap (λ rows. bytes (column (unwrap_or (slice_get rows 0) []) 2)) at in
      let kept : stored.IsKept (state g old).now = record {
        schema = schema ∙ ap schema_of all;
        sound = sound;
        defined = subst (λ l. AreDefined (remaining l (state g old).now.trees 0)) all read.defined;
        held = subst (λ l. AreHeld (remaining l (state g old).now.trees 1)) all read.held;
        place = at ∙ ap (λ b. pos_row b ∷ []) (sym place);
      } in
      let moved : (v : Tables) → IsStored v (tables_in (remaining left (state g old).now.trees)) → IsStored v (tables_of g new) = λ v has.
      subst (λ (d : Database). IsStored v (tables_in d.trees)) (sym same)
      (subst (λ l. IsStored v (tables_in (remaining l (state g old).now.trees))) all has) in
      founds g old new the_value.position still (record {
        kept = subst stored.IsKept (sym same) kept;
        place = ap (λ (d : Database). (tables_in d.trees).place) same ∙ place;
        range = read_range left (state g old).now definitions found read;
        stored = (the_value.tables, moved the_value.tables (read_stored left (state g old).now definitions found read));
      }) sees (λ v is. let it = is_read left (state g old).now definitions found read schema v is in (moved v.tables it.0, it.1))
      (the_value, read_is left (state g old).now definitions found read schema)

  module _ (none : (found ≡ None) ⊎ (is_whole left ≡ false)) where
    -- the tables were made anew
    pub remade_founds : HasRemade g definitions the_value.position mid new → Founds g old new the_value.position
    remade_founds made =
        let moved : (v : Tables) → IsStored v (tables_in (remaining left (state g old).now.trees)) → IsStored v (tables_of g new) = λ v has.
        remade_stored left (state g old).now definitions found read v (tables_of g new) none made.tables has in
        founds g old new the_value.position made.is_open (record {
          kept = made.kept;
          place = ap (λ (t : stored.Tables). t.place) made.tables;
          range = read_range left (state g old).now definitions found read;
          stored = (the_value.tables, moved the_value.tables (read_stored left (state g old).now definitions found read));
        }) sees (λ v is. let it = is_read left (state g old).now definitions found read schema v is in (moved v.tables it.0, it.1))
        (the_value, read_is left (state g old).now definitions found read schema)

    pub remade_adopted : (db : Trees) → AreRemade definitions the_value.position db → LeavesAdopted g old db
    remade_adopted db made = (
      the_value,
      read_is left (state g old).now definitions found read schema,
      record {
        kept = made.kept;
        stored = remade_stored left (state g old).now definitions found read the_value.tables (tables_in db) none made.tables
            (read_stored left (state g old).now definitions found read);
        position = ap (λ (t : stored.Tables). t.place) made.tables;
        range = read_range left (state g old).now definitions found read;
      },
    )

-- what a crash leaves of reading and then making the tables anew
pub adopted_left : {S : Type 0} (g : Ghosts S) (old mid new : Held S) (definitions : List (ℕ × stored.Definition)) (position : ℕ)
    → Survives (state g old) (state g mid) (λ _. ⊥)
    → Survives (state g mid) (state g new) (LeavesRemade g definitions position mid)
    → (HasCleanDisk (state g mid) → IsTrue (state g mid).is_open → (db : Trees) → AreRemade definitions position db
    → LeavesAdopted g old db)
    → Survives (state g old) (state g new) (LeavesAdopted g old)
adopted_left g old mid new definitions position one two leaves =
    survives_then (state g old) (state g mid) (state g new) _ _ _ (λ _ db none. absurd none)
    (λ clean db made. leaves (omega (arith, two.clean, clean)) made.0 db made.1) one two

pub no_items : {A : Type 0} (xs : List A) → length xs ≡ 0 → xs ≡ []
no_items [] e = refl
no_items (x ∷ xs) e = absurd (omega arith)
