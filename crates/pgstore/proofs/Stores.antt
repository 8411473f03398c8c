-- What a store contains, when it is made and when a commit is taken.
use Rattle.std.proofs.Common.{◌≡◌, ◌≤◌, ◌<◌, ◌^◌, inl, inr, ℕ, false, List, Ok, IsTrue}
use Rattle.std.proofs.Common.{refl, sym, ap, subst, ◌∙◌, arith}
use Rattle.std.specs.Int.{w64, to_be_bytes}
use Rattle.std.specs.FinMap as map
use Rattle.sqlite.specs.Tree.{Trees}
use Rattle.sqlite.specs.Effect.{Database}
use Rattle.sqlite.specs.Store.{Ghosts}
use Rattle.sqlite.specs.View.{doubt}
use Rattle.sqlite.specs.Held as connection
use Rattle.sqlite.specs.Held.{AreDatabases, Held}
use Rattle.sqlite.specs.State.{HasCleanDisk, KeepsCommit, Survives}
use Rattle.sqlite.proofs.StateLemmas.{survives_weaker}
use Rattle.pglogical.specs.declared.message.RelationDef.{RelationDef}
use Rattle.pgtables.specs.Schema.{store_schema}
use Rattle.pgtables.specs.Kept as stored
use Rattle.pgtables.specs.Kept.{tables_in}
use Rattle.pgrows.specs.Rows.{IfServing, database, state}
use Rattle.pgapply.specs.declared.op.Op.{Op}
use Rattle.pgapply.specs.declared.fault.StoreFault.{StoreFault}
use Rattle.pgapply.specs.Works.{change_values}
use Rattle.pgapply.specs.Apply.{Change, fold_changes}
use Rattle.pgapply.specs.Stored.{Stored, IsFault}
use Rattle.pgapply.specs.Tallies.{nothing_taken}
use Rattle.pgencoded.specs.Spelled.{IsStored}
use Rattle.pgencoded.specs.Acts.{HasTaken, LeavesTaken, RefusesToFold, committed_of}
use Rattle.pgencoded.specs.DatabaseValue.{AreOf, HasMade, nothing_stored}
use Rattle.pgadopt.proofs.Beginning.{no_value}
use Rattle.pgstore.specs.StoreValue.{Group, IsAtLeast, Keeps, IsStore, Serves}
use Rattle.pgstore.specs.StoreValue.{Holds, Contains, Takes, Stays, RefusesWork, LeavesWork}

-- nothing is staged, and nothing was taken
abbrev pub at_rest : Group
at_rest = record { reach = 0; is_lost = false; tally = nothing_taken; stages_tally = nothing_taken }

-- ---- a crash between calls

-- while a store is open, a crash leaves the last commit and nothing else
abbrev pub IsSettled : {S : Type 0} → Ghosts S → Type 0
IsSettled {S} g = (s : S) (db : Trees) → IsTrue (g.view s).is_open → g.recovers s db → db ≡ (g.view s).committed

module _ {S : Type 0} (g : Ghosts S) (law : IsSettled g) (rows : S) where
  pub crash_leaves : IfServing g rows ((db : Trees) → (state g rows).may_leave db → db ≡ (state g rows).committed.trees)
  crash_leaves clean still db may = law rows db still may

-- what a store contains is left
pub contains : {S : Type 0} (g : Ghosts S) (rows : S) (position : ℕ) (group : Group) → IsStore g rows position
    → Serves g (record { rows = rows; position = position; group = group })
    → (v : Stored) × Contains g (record { rows = rows; position = position; group = group }) v
contains g rows position group is now =
    let v = is.stored now.honest now.is_open in
    let kept = is.kept now.honest now.is_open in (
      record { tables = v.0; position = position },
      record {
        holds = record { stored = v.1; position = refl };
        left = λ db may.
            let same = is.crash now.honest now.is_open db may in
            let whole : ◌≡◌ {A = Database} (state g rows).committed (database db) = ap database (sym same) in
            record {
              kept = subst stored.IsKept whole kept;
              stored = subst (λ t. IsStored v.0 (tables_in t)) (sym same) v.1;
              position = ap (λ t. (tables_in t).place) same ∙ is.same now.honest now.is_open;
              range = is.range;
            };
      },
    )

-- the trees that a store has, where all that it says of them holds
trees_of : {S : Type 0} (g : Ghosts S) (rows : S) (v : Stored) (db : Trees) → stored.IsKept (state g rows).committed
    → IsStored v.tables (committed_of g rows) → (committed_of g rows).place ≡ to_be_bytes w64 v.position → v.position < 2 ^ 64
    → db ≡ (state g rows).committed.trees → AreOf v db
trees_of g rows v db kept is place range same =
    let whole : ◌≡◌ {A = Database} (state g rows).committed (database db) = ap database (sym same) in
    record {
      kept = subst stored.IsKept whole kept;
      stored = subst (λ t. IsStored v.tables (tables_in t)) (sym same) is;
      position = ap (λ t. (tables_in t).place) same ∙ place;
      range = range;
    }

-- what was committed has what the store holds
pub committed_trees : {S : Type 0} (g : Ghosts S) (old new : S) (position : ℕ) (group : Group) → IsStore g old position
    → doubt (state g old).is_clean ≤ doubt (state g new).is_clean
    → IfServing g new (IsTrue (state g old).is_open)
    → IfServing g new ((v : Stored) → Holds g (record { rows = old; position = position; group = group }) v
    → AreOf v (state g old).committed.trees)
committed_trees g old new position group is doubts was_open clean still v held =
    let was : HasCleanDisk (state g old) = omega (arith, doubts, clean) in
    let at = held.position in
    let range = is.range in
    trees_of g old v (state g old).committed.trees (is.kept was (was_open clean still)) held.stored
    (is.same was (was_open clean still) ∙ ap (to_be_bytes w64) (sym at)) (omega (arith, at, range)) refl

-- these very tables are at least as far
very : (v : Stored) (db : Trees) → AreOf v db → IsAtLeast v db
very v db is = (v, is, omega arith, λ _. is)

-- an open store keeps what it has
pub open_keeps : {S : Type 0} (g : Ghosts S) (rows : S) (v : Stored) → IsSettled g → IsTrue (state g rows).is_open
    → stored.IsKept (state g rows).committed
    → IsStored v.tables (committed_of g rows) → (committed_of g rows).place ≡ to_be_bytes w64 v.position → v.position < 2 ^ 64
    → (group : Group) → Keeps g (record { rows = rows; position = v.position; group = group }) v
open_keeps g rows v law still kept is place range group = record {
  position = refl;
  holds = λ _. record { stored = is; position = refl };
  left = λ db may. very v db (trees_of g rows v db kept is place range (law rows db still may));
}

-- ---- a connection that was adopted

module _ {S : Type 0} (g : Ghosts S) (conn : Held S)
    (even : IsTrue (connection.state g conn).is_open → (connection.state g conn).now ≡ (connection.state g conn).committed) where
  -- its trees are committed
  pub adopted_trees : IsTrue (connection.state g conn).is_open → (state g conn.store).committed.trees ≡ (connection.state g conn).now.trees
  adopted_trees still = sym (ap (λ (d : Database). d.trees) (even still))

  pub adopted_kept : IsTrue (connection.state g conn).is_open → stored.IsKept (connection.state g conn).now
      → stored.IsKept (state g conn.store).committed
  adopted_kept still kept =
      let whole : ◌≡◌ {A = Database} (connection.state g conn).now (state g conn.store).committed =
      λ i. record { schema = kept.schema i; trees = sym (adopted_trees still) i } in
      subst stored.IsKept whole kept

-- the limit of steps of a connection isn't the store's
pub adopted_survives : {S : Type 0} (g : Ghosts S) (old new : Held S) (P : Trees → Type 0)
    → Survives (connection.state g old) (connection.state g new) P
    → Survives (connection.state g old) (record (state g new.store) { step_limit = (connection.state g old).step_limit }) P
adopted_survives g old new P s =
    record { clean = s.clean; shield = s.shield; counts = s.counts; limit = refl; closes = s.closes; crash = s.crash }

-- ---- a new store

module _ {S : Type 0} (g : Ghosts S) (conn : Held S) (made : HasCleanDisk (connection.state g conn) → HasMade g conn)
    (even : IsTrue (connection.state g conn).is_open → (connection.state g conn).now ≡ (connection.state g conn).committed) where
  first_none : HasCleanDisk (connection.state g conn) → committed_of g conn.store ≡ stored.no_tables
  first_none clean = ap tables_in (adopted_trees g conn even (made clean).is_open) ∙ (made clean).none

  first_stored : HasCleanDisk (connection.state g conn) → IsStored map.empty (committed_of g conn.store)
  first_stored clean = subst (IsStored map.empty) (sym (first_none clean)) no_value

  first_kept : HasCleanDisk (connection.state g conn) → stored.IsKept (state g conn.store).committed
  first_kept clean = adopted_kept g conn even (made clean).is_open (made clean).kept

  pub first_store : IsSettled g → IsStore g conn.store 0
  first_store law = record {
    kept = λ clean still. first_kept clean;
    range = omega arith;
    same = λ clean still. ap (λ (t : stored.Tables). t.place) (first_none clean);
    stored = λ clean still. (map.empty, first_stored clean);
    crash = crash_leaves g law conn.store;
    keeps = λ clean. (
      nothing_stored,
      open_keeps g conn.store nothing_stored law (made clean).is_open (first_kept clean) (first_stored clean)
          (ap (λ (t : stored.Tables). t.place) (first_none clean)) (omega arith),
    );
  }

  pub first_holds : (group : Group) → HasCleanDisk (connection.state g conn)
      → Serves g (record { rows = conn.store; position = 0; group = group })
      × Holds g (record { rows = conn.store; position = 0; group = group }) nothing_stored
  first_holds group clean =
      (record { honest = clean; is_open = (made clean).is_open }, record { stored = first_stored clean; position = refl })

-- ---- a commit

module _ {S : Type 0} (g : Ghosts S) (old new : S) (position : ℕ)
    (doubts : doubt (state g old).is_clean ≤ doubt (state g new).is_clean) where
  -- nothing was committed
  module _ (commit : HasCleanDisk (state g new) → KeepsCommit (state g old) (state g new)) where
    same : IfServing g new (IsTrue (state g old).is_open × ((state g new).committed ≡ (state g old).committed))
    same clean still = ((commit clean).was_open still, (commit clean).committed still)

    pub stays_keeps : IsStore g old position
        → ((v : Stored) → v.position ≡ position → ((group : Group) → Keeps g (record { rows = old; position = position; group = group }) v)
        → HasCleanDisk (state g new) → (db : Trees) → (state g new).may_leave db → IsAtLeast v db)
        → HasCleanDisk (state g new)
        → (v : Stored) × ((group : Group) → Keeps g (record { rows = new; position = position; group = group }) v)
    stays_keeps was left clean =
        let k = was.keeps (omega arith) in (
          k.0,
          λ group. record {
            position = (k.1 group).position;
            holds = λ still.
                let it = same clean still in
                let h = (k.1 group).holds it.0 in
                record {
                  stored = subst (λ (d : Database). IsStored k.0.tables (tables_in d.trees)) (sym it.1) h.stored;
                  position = h.position;
                };
            left = left k.0 (k.1 group).position k.1 clean;
          },
        )

    pub stays_store : IsStore g old position
        → ((v : Stored) → v.position ≡ position → ((group : Group) → Keeps g (record { rows = old; position = position; group = group }) v)
        → HasCleanDisk (state g new) → (db : Trees) → (state g new).may_leave db → IsAtLeast v db) → IsSettled g → IsStore g new position
    stays_store was left law = record {
      kept = λ clean still. let it = same clean still in subst stored.IsKept (sym it.1) (was.kept (omega arith) it.0);
      range = was.range;
      same = λ clean still. let it = same clean still in
          ap (λ (d : Database). (tables_in d.trees).place) it.1 ∙ was.same (omega arith) it.0;
      stored = λ clean still.
          let it = same clean still in
          let v = was.stored (omega arith) it.0 in
          (v.0, subst (λ (d : Database). IsStored v.0 (tables_in d.trees)) (sym it.1) v.1);
      crash = crash_leaves g law new;
      keeps = stays_keeps was left;
    }

    pub stays : (before behind : Group) → Serves g (record { rows = new; position = position; group = behind })
        → Stays g (record { rows = old; position = position; group = before }) (record { rows = new; position = position; group = behind })
    stays before behind now =
        let it = same now.honest now.is_open in
        record {
          served = record { honest = (let clean = now.honest in omega arith); is_open = it.0 };
          same = λ v h. record {
            stored = subst (λ (d : Database). IsStored v.tables (tables_in d.trees)) (sym it.1) h.stored;
            position = h.position;
          };
        }

  -- the changes were folded
  module _ (definitions : List RelationDef) (entries : List (ℕ × Op)) (end : ℕ) (bytes : List ℕ) (spells : bytes ≡ to_be_bytes w64 end)
      (range : end < 2 ^ 64) (taken : HasCleanDisk (state g new) → HasTaken g old new definitions entries bytes) where
    pub taken_store : IsStore g old position → IsSettled g → IsStore g new end
    taken_store was law = record {
      kept = λ clean still. (taken clean).kept;
      range = range;
      same = λ clean still. (taken clean).position_is ∙ spells;
      stored = λ clean still.
          let it = taken clean in
          let v = was.stored (omega arith) it.was_open in
          let f = it.folds v.0 v.1 in
          (f.0, f.2);
      crash = crash_leaves g law new;
      keeps = λ clean.
          let it = taken clean in
          let v = was.stored (omega arith) it.was_open in
          let f = it.folds v.0 v.1 in (
            record { tables = f.0; position = end },
            open_keeps g new (record { tables = f.0; position = end }) law it.is_open it.kept f.2 (it.position_is ∙ spells) range,
          );
    }

    pub takes : (before behind : Group) (changes : List Change) → change_values definitions entries ≡ changes → HasCleanDisk (state g new)
        → Takes g (record { rows = old; position = position; group = before }) (record { rows = new; position = end; group = behind })
        changes end
    takes before behind changes is clean =
        let it = taken clean in
        record {
          served = record { honest = omega arith; is_open = it.was_open };
          serves = record { honest = clean; is_open = it.is_open };
          folds = λ v h.
              let f = it.folds v.tables h.stored in
              (f.0, subst (λ cs. fold_changes v.tables cs ≡ Ok f.0) is f.1, record { stored = f.2; position = refl });
        }

-- the fault of a work
pub refuses_work : {S : Type 0} (g : Ghosts S) (old : S) (position : ℕ) (group : Group) (definitions : List RelationDef)
    (entries : List (ℕ × Op)) (changes : List Change) (e : StoreFault) → change_values definitions entries ≡ changes
    → RefusesToFold (committed_of g old) definitions entries e
    → RefusesWork g (record { rows = old; position = position; group = group }) changes e
refuses_work g old position group definitions entries changes e is h v s =
    subst (λ cs. IsFault e (fold_changes v.tables cs)) is (h v.tables s.stored)

-- what a crash inside a commit may leave
module _ {S : Type 0} (g : Ghosts S) (old new : S) (position : ℕ) (definitions : List RelationDef) (entries : List (ℕ × Op)) (end : ℕ)
    (bytes : List ℕ) (spells : bytes ≡ to_be_bytes w64 end) (range : end < 2 ^ 64)
    (changes : List Change) (is : change_values definitions entries ≡ changes) where
  leaves_work : (group : Group) (db : Trees) → LeavesTaken g old definitions entries bytes db
      → LeavesWork g (record { rows = old; position = position; group = group }) changes end db
  leaves_work group db h = (
    h.was_open,
    λ v s.
        let f = h.folds v.tables s.stored in (
          f.0,
          subst (λ cs. fold_changes v.tables cs ≡ Ok f.0) is f.1,
          record { kept = h.kept; stored = f.2; position = h.position_is ∙ spells; range = range },
        ),
  )

  -- what a commit leaves that wasn't answered Ok is at least as far
  pub refused_left : position < end → Survives (state g old) (state g new) (LeavesTaken g old definitions entries bytes) → (v : Stored)
      → v.position ≡ position → ((group : Group) → Keeps g (record { rows = old; position = position; group = group }) v)
      → HasCleanDisk (state g new) → (db : Trees) → (state g new).may_leave db → IsAtLeast v db
  refused_left later s v at keeps clean db may = elim (s.crash clean db may) [
    | inl before ↦ (keeps at_rest).left db before
    | inr taken ↦
        let f = taken.folds v.tables ((keeps at_rest).holds taken.was_open).stored in (
          record { tables = f.0; position = end },
          record { kept = taken.kept; stored = f.2; position = taken.position_is ∙ spells; range = range },
          omega (arith, later, at),
          λ e. absurd (let no : ⊥ = omega (arith, later, at, e) in no),
        )
  ]

  pub survives_work : (group : Group) → Survives (state g old) (state g new) (LeavesTaken g old definitions entries bytes)
      → Survives (state g old) (state g new) (LeavesWork g (record { rows = old; position = position; group = group }) changes end)
  survives_work group s = survives_weaker (state g old) (state g new) _ _ (λ _ db h. leaves_work group db h) s

-- a call that commits nothing leaves what could be left before
pub read_left : {S : Type 0} (g : Ghosts S) (old new : S) (position : ℕ) → Survives (state g old) (state g new) (λ _. ⊥) → (v : Stored)
    → v.position ≡ position → ((group : Group) → Keeps g (record { rows = old; position = position; group = group }) v)
    → HasCleanDisk (state g new) → (db : Trees) → (state g new).may_leave db → IsAtLeast v db
read_left g old new position s v at keeps clean db may =
    elim (s.crash clean db may) [ inl before ↦ (keeps at_rest).left db before | inr none ↦ absurd none ]

-- whatever a store may leave is a database
pub left_databases : {S : Type 0} (g : Ghosts S) (old new : S) (position : ℕ)
    → (HasCleanDisk (state g old)
    → (v : Stored) × ((group : Group) → Keeps g (record { rows = old; position = position; group = group }) v))
    → Survives (state g old) (state g new) (λ _. ⊥)
    → HasCleanDisk (state g new) → AreDatabases (state g new).may_leave
left_databases g old new position keeps survives clean db may = elim (survives.crash clean db may) [
  | inl before ↦
      let k = keeps (omega (arith, survives.clean)) in
      let it = (k.1 at_rest).left db before in
      (store_schema, it.1.kept.sound)
  | inr none ↦ absurd none
]
