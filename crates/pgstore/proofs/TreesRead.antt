-- The store in trees that were just opened, and what is stored in the files in which they were
-- found.
use Rattle.std.proofs.Common.{◌≡◌, ◌<◌, ◌^◌, inl, inr, IsTrue, Result, Ok, Err, IfOk, IfErr, IfSome}
use Rattle.std.proofs.Common.{Option, None, ℕ, false, List, [], ◌∷◌, Some, refl, sym, ap, subst}
use Rattle.std.proofs.Common.{◌∙◌}
use Rattle.std.specs.Prelude.{slice_get, unwrap_or}
use Rattle.std.specs.Int.{w64, to_be_bytes}
use Rattle.sqlite.specs.Effect.{Database, IsDatabase}
use Rattle.sqlite.specs.ExecCalls.{OnlyReads}
use Rattle.sqlite.specs.Files.{AreFoundIn, HoldsDatabase}
use Rattle.sqlite.specs.Held as connection
use Rattle.sqlite.specs.Held.{Held}
use Rattle.sqlite.specs.Order.{Row, column, bytes}
use Rattle.sqlite.specs.Recovery.{Image}
use Rattle.sqlite.specs.Schema.{Schema}
use Rattle.sqlite.specs.Start.{FindsIn}
use Rattle.sqlite.specs.State.{IsLive, Opens}
use Rattle.sqlite.specs.Steps.{IsFresh}
use Rattle.sqlite.specs.Store.{Ghosts}
use Rattle.sqlite.specs.Tree.{Trees}
use Rattle.sqlite.specs.View.{View, IsClean}
use Rattle.sqlite_trees.specs.Objects.{catalog_tree}
use Rattle.pgmemory.proofs.Unused.{schema_is_empty}
use Rattle.pgtables.specs.Schema.{store_schema}
use Rattle.pgtables.specs.Kept as stored
use Rattle.pgtables.specs.Kept.{IsKept, pos_row, tables_in}
use Rattle.pgtables.specs.Remains.{remaining}
use Rattle.pgopening.specs.Found.{AreOpened, StillHolds}
use Rattle.pgverify.proofs.Sound as sound
use Rattle.pgadopt.specs.Adopted.{Definitions}
use Rattle.pgrows.specs.Rows.{database, state}
use Rattle.pgrows.proofs.Found.{open_of}
use Rattle.pgapply.specs.Stored.{Stored}
use Rattle.pgencoded.specs.Acts.{committed_of}
use Rattle.pgencoded.specs.Spelled.{IsStored}
use Rattle.pgencoded.specs.DatabaseValue.{AreOf, IsPlaceOf, IsValueOf}
use Rattle.pgadopt.specs.Outlined.{AreOutlined, AreStore, all_there}
use Rattle.pgadopt.proofs.Founding.{read_stored, read_value, same_left, same_position, whole_value}
use Rattle.pgstore.specs.Reopened.{AreAsLeft, HoldsContent, StaysAsFound}
use Rattle.pgstore.specs.StoreValue.{Group, IsStore, StoreValue}
use Rattle.pgstore.specs.Trees.{HaveValue, IsJustOpened}
use Rattle.pgstore.proofs.Reopened.{same_database}
use Rattle.pgstore.proofs.Stores.{IsSettled, crash_leaves, open_keeps}

-- reading leaves them as they were opened
pub fresh_still : (old new : View) → OnlyReads old new → IsFresh old → IsFresh new
fresh_still old new same fresh =
    subst IsFresh (sym same) (record { sound = fresh.sound; numbered = fresh.numbered; clean = fresh.clean; unmarked = fresh.unmarked })

-- trees that list the tables of a store aren't empty
listed_not_empty : (db : Trees) → IsDatabase (database db) → db catalog_tree ≡ [] → {A : Type 0} → A
listed_not_empty db sound none = absurd (let no = ap (λ (s : Schema). s.tables) (schema_is_empty store_schema db none sound) in cc)

-- trees of which each row was read have a value
pub read_have : (db : Trees) (position : ℕ) → AreStore db position → HaveValue db position
read_have db position it = (
  read_value all_there (database db) it.definitions (Some position) it.read,
  record {
    kept = it.kept;
    stored = read_stored all_there (database db) it.definitions (Some position) it.read;
    position = ap (λ (rows : List Row). bytes (column (unwrap_or (slice_get rows 0) []) 2)) it.read.place.0;
    range = it.read.place.1;
  },
  refl,
)

-- and those that are as a run left them, by the position that was read
pub left_have : (v : View) (known : Definitions) (position : ℕ) → AreOutlined v known position → AreAsLeft v.trees
    → HaveValue v.trees position
left_have v known position it left =
    let has = left it.listed.lists in
    let place = ap (λ (rows : List Row). bytes (column (unwrap_or (slice_get rows 0) []) 2)) it.place in
    (has.0, has.1, same_position has.0.position position has.1.range it.range (sym has.1.position ∙ place))

-- whatever value a database with all tables has, it is stored in them, and has the same position
one_value : (db : Trees) (v w : Stored) → AreOf v db → IsValueOf w (database db)
    → IsStored w.tables (tables_in db) × (w.position ≡ v.position)
one_value db v w are is =
    let same : is.left ≡ all_there = same_left is.left all_there (sym is.schema) in (
      subst (λ l. IsStored w.tables (tables_in (remaining l db))) same is.stored,
      go (subst (λ l. IsPlaceOf w.position (remaining l db)) same is.place),
    )
  where
    placed : db 3 ≡ pos_row (to_be_bytes w64 v.position) ∷ []
    placed = are.kept.place ∙ ap (λ place. pos_row place ∷ []) are.position

    go : IsPlaceOf w.position db → w.position ≡ v.position
    go (inl there) =
        same_position w.position v.position is.range are.range
        (ap (λ (rows : List Row). bytes (column (unwrap_or (slice_get rows 0) []) 2)) (sym there ∙ placed))
    go (inr none) = absurd (let no = sym none.0 ∙ placed in cc)

module _ {S : Type 0} (g : Ghosts S) (s : S) (position : ℕ) (range : position < 2 ^ 64) (fresh : IsJustOpened g s)
    (are : IsClean (g.view s) → HaveValue (g.view s).trees position) where
  abbrev db : Trees
  db = (g.view s).trees

  committed_is : IsClean (g.view s) → committed_of g s ≡ tables_in db
  committed_is clean = ap tables_in (sym (fresh clean).clean)

  kept : IsClean (g.view s) → IsKept (state g s).committed
  kept clean = subst (λ (t : Trees). IsKept (database t)) (fresh clean).clean (are clean).1.kept

  stored_is : (clean : IsClean (g.view s)) → IsStored (are clean).0.tables (committed_of g s)
  stored_is clean = subst (IsStored (are clean).0.tables) (sym (committed_is clean)) (are clean).1.stored

  placed : IsClean (g.view s) → (committed_of g s).place ≡ to_be_bytes w64 position
  placed clean = ap (λ (t : stored.Tables). t.place) (committed_is clean) ∙ (are clean).1.position ∙ ap (to_be_bytes w64) (are clean).2

  module _ (law : IsSettled g) (shut : (g.view s).is_open ≡ false → IsTrue (g.view s).is_broken) where
    pub trees_open : IsClean (g.view s) → IsTrue (g.view s).is_open
    trees_open clean = open_of (g.view s) shut (fresh clean).sound

    pub trees_store : IsStore g s position
    trees_store = record {
      kept = λ clean still. kept clean;
      range = range;
      same = λ clean still. placed clean;
      stored = λ clean still. ((are clean).0.tables, stored_is clean);
      crash = crash_leaves g law s;
      keeps = λ clean.
          let v : Stored = record { tables = (are clean).0.tables; position = position } in
          (v, open_keeps g s v law (trees_open clean) (kept clean) (stored_is clean) (placed clean) range);
    }

  -- whatever value the database has, the store holds it
  pub trees_hold : (group : Group) (content : Image) → IsClean (g.view s) → AreOpened content (g.view s)
      → HoldsContent g content (record { rows = s; position = position; group = group })
  trees_hold group content clean opened =
      let it = are clean in
      let now = database db in
      let seen : (other : Trees) → HoldsDatabase content other → db ≡ other = opened.sole store_schema it.1.kept.sound in
      record {
        stood = λ other holds is_database v is.
            let same = same_database now other it.1.kept.sound is_database (seen other.trees holds) in
            let one = one_value db it.0 v it.1 (subst (IsValueOf v) (sym same) is) in
            record { stored = subst (IsStored v.tables) (sym (committed_is clean)) one.0; position = one.1 ∙ it.2 };
        empty = λ is. elim is [
          | inl nothing ↦ absurd (opened.something nothing)
          | inr bare ↦ listed_not_empty db it.1.kept.sound (ap (λ (t : Trees). t catalog_tree) (seen bare.0 bare.1) ∙ bare.2.1)
        ];
        known = λ other holds is_database. (
          it.0,
          subst (IsValueOf it.0) (same_database now other it.1.kept.sound is_database (seen other.trees holds))
              (whole_value now it.0 refl it.1),
        );
      }

-- a connection over the trees finds what they were opened of
pub over_finds : {S : Type 0} (g : Ghosts S) (opened : S) (conn : Held S) (content : Image)
    → (connection.state g conn).now.trees ≡ (g.view opened).trees → Opens (connection.state g conn) → IsLive (connection.state g conn)
    → AreOpened content (g.view opened) → FindsIn content (connection.state g conn)
over_finds g opened conn content trees opens live are =
    let now = (connection.state g conn).now in
    let same : (connection.state g conn).committed.trees ≡ (g.view opened).trees =
    sym (ap (λ (d : Database). d.trees) opens.clean) ∙ trees in
    let sound = subst (λ (t : Trees). IsDatabase (record { schema = now.schema; trees = t })) trees (live opens.is_open).0 in
    record { holds = λ db h. same ∙ are.sole now.schema sound db h; reads = subst (AreFoundIn content) (sym same) are.found }

-- reading leaves them as they were opened
pub opened_still : (old new : View) (content : Image) → OnlyReads old new → AreOpened content old → AreOpened content new
opened_still old new content same are =
    subst (AreOpened content) (sym same)
    (record {
      fresh = subst IsFresh same (fresh_still old new same are.fresh);
      found = are.found;
      something = are.something;
      sole = are.sole;
    })

-- ---- files that were handed back

-- a store that holds what they hold now holds what they held
pub still_holds : {S : Type 0} (g : Ghosts S) (old new : Image) (s : StoreValue S) → StillHolds old new → HoldsContent g new s
    → HoldsContent g old s
still_holds g old new s still holds = record {
  stood = λ db held. holds.stood db (still.database db.trees held);
  empty = λ is. holds.empty
      (elim is [ inl nothing ↦ inl (still.nothing nothing) | inr bare ↦ inr (bare.0, still.database bare.0 bare.1, bare.2) ]);
  known = λ db held. holds.known db (still.database db.trees held);
}

pub still_stays : {S : Type 0} (g : Ghosts S) (old new : Image) (conn : Held S) → StillHolds old new → StaysAsFound g new conn
    → StaysAsFound g old conn
still_stays g old new conn still stays = record {
  seen = λ clean is_open db held. stays.seen clean is_open db (still.database db held);
  left = λ clean db held. stays.left clean db (still.database db held);
}

-- ---- results

pub if_ok : {A E : Type 0} (r : Result A E) (P Q : A → Type 0) → ((a : A) → P a → Q a) → IfOk r P → IfOk r Q
if_ok (Ok a) P Q go h = go a h
if_ok (Err e) P Q go h = tt

pub if_err : {A E : Type 0} (r : Result A E) (P Q : E → Type 0) → ((e : E) → P e → Q e) → IfErr r P → IfErr r Q
if_err (Ok a) P Q go h = tt
if_err (Err e) P Q go h = go e h

pub if_some : {A : Type 0} (o : Option A) (P Q : A → Type 0) → ((a : A) → P a → Q a) → IfSome o P → IfSome o Q
if_some None P Q go h = tt
if_some (Some a) P Q go h = go a h

-- what holds of it if something does
pub if_all : {A : Type 0} (o : Option A) (C : Type 0) (P : A → Type 0) → (C → IfSome o P) → IfSome o (λ a. C → P a)
if_all None C P h = tt
if_all (Some a) C P h = h

pub both_ok : {A E : Type 0} (r : Result A E) (P Q R : A → Type 0) → ((a : A) → P a → Q a → R a) → IfOk r P → IfOk r Q → IfOk r R
both_ok (Ok a) P Q R go p q = go a p q
both_ok (Err e) P Q R go p q = tt

pub both_back : {A E B : Type 0} (r : Result A (E × Option B)) (P Q R : B → Type 0) → ((b : B) → P b → Q b → R b)
    → IfErr r (λ e. IfSome e.1 P) → IfErr r (λ e. IfSome e.1 Q) → IfErr r (λ e. IfSome e.1 R)
both_back (Ok a) P Q R go p q = tt
both_back (Err (e, None)) P Q R go p q = tt
both_back (Err (e, Some b)) P Q R go p q = go b p q
