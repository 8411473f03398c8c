-- A store opened on what a crash left holds what was left.
use Rattle.std.proofs.Common.{◌≡◌, ◌⊎◌, [], inl, inr, false, refl, sym, ap, subst, ◌∙◌}
use Rattle.std.proofs.Math.Logic.{∥∥₁_map}
use Rattle.sqlite_disk.specs.declared.Disk as disk
use Rattle.sqlite_disk.specs.declared.Files.{Files}
use Rattle.sqlite_store.specs.declared.store.FileStore.{FileStore}
use Rattle.sqlite.specs.Effect.{Database, IsDatabase}
use Rattle.sqlite.specs.Files.{over_files, HoldsDatabase}
use Rattle.sqlite.specs.Held.{Held, state}
use Rattle.sqlite.specs.State.{Survives}
use Rattle.sqlite.specs.Recovery.{Image}
use Rattle.sqlite.specs.WalFiles.{outcomes}
use Rattle.sqlite.specs.Store.{Ghosts}
use Rattle.sqlite.specs.Tree.{Trees}
use Rattle.sqlite_trees.specs.Objects.{catalog_tree}
use Rattle.pgmemory.proofs.Unused.{nothing_is_empty, schema_is_empty}
use Rattle.pgtables.specs.Schema.{store_schema}
use Rattle.pgtables.proofs.Listed.{schema_once}
use Rattle.pgtables.specs.Kept as stored
use Rattle.pgtables.specs.Kept.{IfServing}
use Rattle.pgrows.specs.Rows as rows
use Rattle.pgencoded.specs.Acts.{committed_of}
use Rattle.pgapply.specs.Value.{Tables}
use Rattle.pgapply.specs.Stored.{Stored}
use Rattle.pgencoded.specs.Spelled.{IsStored}
use Rattle.pgencoded.specs.DatabaseValue.{AreOf, IsValueOf, LeavesAdopted, nothing_stored}
use Rattle.pgadopt.proofs.Founding.{whole_value}
use Rattle.pgstore.specs.StoreValue.{Holds, StoreValue}
use Rattle.pgstore.specs.Reopened.{AdoptedHoldsContent, ClosedIsReopened, HoldsContent}
use Rattle.pgstore.specs.Reopened.{IsCopiedTo, LeftIsReopened, RefusedStaysAsFound, Reopens}
use Rattle.pgstore.specs.Reopened.{ReopensNothingOlder, ReopensTheSame}
use Rattle.pgstore.proofs.Stores.{IsSettled}

-- two databases with the same trees are one
pub same_database : (a b : Database) → IsDatabase a → IsDatabase b → a.trees ≡ b.trees → a ≡ b
same_database a b one two trees =
    let schema : a.schema ≡ b.schema =
    schema_once (a.trees catalog_tree) a.schema b.schema one.lists
    (subst (λ (t : Trees). IsDatabase (record { schema = b.schema; trees = t })) (sym trees) two).lists in
    λ i. record { schema = schema i; trees = trees i }

pub adopted_holds : {S : Type 0} (g : Ghosts S) → AdoptedHoldsContent g
adopted_holds g content conn s finds opens live adopts =
    let now = (state g conn).now in
    let sound : IsDatabase now = (live opens.is_open).0 in
    let seen : (db : Trees) → HoldsDatabase content db → now.trees ≡ db =
    λ db holds. ap (λ (d : Database). d.trees) opens.clean ∙ finds.holds db holds in
    let none : now.trees catalog_tree ≡ [] → Holds g s nothing_stored =
    λ none. adopts.bare (schema_is_empty now.schema now.trees none sound) in
    record {
      stood = λ db holds is_database v is.
          adopts.value v (subst (IsValueOf v) (sym (same_database now db sound is_database (seen db.trees holds))) is);
      empty = λ is. elim is [
        | inl nothing ↦ none (ap (λ (d : Database). d.trees catalog_tree) opens.clean
            ∙ (nothing_is_empty content (state g conn).committed.trees nothing finds.reads).1)
        | inr bare ↦ none (ap (λ (t : Trees). t catalog_tree) (seen bare.0 bare.1) ∙ bare.2.1)
      ];
      known = λ db holds is_database. (
        adopts.known.0,
        subst (IsValueOf adopts.known.0) (same_database now db sound is_database (seen db.trees holds)) adopts.known.1,
      );
    }

-- a connection of which no store was made
pub refused_stays : {S : Type 0} (g : Ghosts S) → IsSettled g → (opened conn : Held S)
    → Survives (state g opened) (state g conn) (LeavesAdopted g opened)
    → IfServing g conn ((state g opened).in_transaction ≡ false → (state g conn).now ≡ (state g opened).now)
    → RefusedStaysAsFound g opened conn
refused_stays g law opened conn survives same content finds opens =
    let trees : (state g opened).now.trees ≡ (state g opened).committed.trees = ap (λ (d : Database). d.trees) opens.clean in
    record {
      seen = λ clean still db holds. ap (λ (d : Database). d.trees) (same clean still opens.autocommit) ∙ trees ∙ finds.holds db holds;
      left = λ clean db holds other may. elim (survives.crash clean other may) [
        | inl was ↦ inl (law opened.store other opens.is_open was ∙ finds.holds db holds)
        | inr made ↦ inr ((state g opened).now, trees ∙ finds.holds db holds, made.0, made.1, made.2)
      ];
    }

-- of a database with all tables
pub holds_stored : {S : Type 0} (g : Ghosts S) (content : Image) (s : StoreValue S) → HoldsContent g content s → (db : Trees)
    → HoldsDatabase content db → (v : Stored) → AreOf v db → Holds g s v
holds_stored g content s it db holds v are =
    it.stood (record { schema = store_schema; trees = db }) holds are.kept.sound v
    (whole_value (record { schema = store_schema; trees = db }) v refl are)

-- two values of one store are stored alike
pub same_stored : (v w : Tables) (t u : stored.Tables) → IsStored v t → IsStored w t → IsStored v u → IsStored w u
same_stored v w t u at is there = record {
  spelled = record {
    defined = λ oid. there.spelled.defined oid ∙ sym (at.spelled.defined oid) ∙ is.spelled.defined oid;
    rows = λ oid place. there.spelled.rows oid place ∙ sym (at.spelled.rows oid place) ∙ is.spelled.rows oid place;
    keyed = there.spelled.keyed;
  };
  form = is.form;
  spellable = is.spellable;
}

module _ {S T : Type 0} (g : Ghosts S) (h : Ghosts T) where
  pub reopens_same : ReopensTheSame g h
  reopens_same old new v contains again w holds =
      let there = again.opened v (contains.left again.db again.left) in
      record {
        stored = same_stored v.tables w.tables (committed_of g old.rows) (committed_of h new.rows) contains.holds.stored holds.stored
            there.stored;
        position = holds.position ∙ sym contains.holds.position ∙ there.position;
      }

  pub reopens_no_older : ReopensNothingOlder g h
  reopens_no_older old new v keeps again =
      let it = keeps.left again.db again.left in
      (it.0, again.opened it.0 it.1, it.2, λ same. again.opened v (it.3 same))

pub left_is_reopened : {D S : Type 0} (g : disk.Ghosts D) (h : Ghosts S) → LeftIsReopened g h
left_is_reopened g h old new content left holds = ∥∥₁_map (left.stopped left.honest content left.left) (λ it.
    let r : Reopens over_files h old new = record { db = it.0; left = it.1; opened = holds_stored h content new holds it.0 it.2 } in r)

-- the files of a store that was closed hold its database, also without the log
pub still_held : {D : Type 0} (g : disk.Ghosts D) (old : StoreValue (FileStore D g)) (files : Files D) (left content : Image)
    → IsCopiedTo old files → outcomes g files.log files.db left → (content ≡ left) ⊎ (content ≡ record left { log = [] })
    → ∥ HoldsDatabase content (rows.state over_files old.rows).committed.trees ∥₁
still_held g old files left content copied out which =
    let db = (rows.state over_files old.rows).committed.trees in
    let alone = copied.left left out in
    elim which [
      | inl same ↦ subst (λ (i : Image). ∥ HoldsDatabase i db ∥₁) (sym same) alone.both
      | inr gone ↦ subst (λ (i : Image). ∥ HoldsDatabase i db ∥₁) (sym gone) alone.alone
    ]

pub closed_is_reopened : {D S : Type 0} (g : disk.Ghosts D) (h : Ghosts S) → ClosedIsReopened g h
closed_is_reopened g h old new files left content copied out which holds v held =
    let db = (rows.state over_files old.rows).committed.trees in
    ∥∥₁_map (still_held g old files left content copied out which) (λ there.
    holds_stored h content new holds db there v (copied.holds v held))
