-- The SQL store as what a subscriber keeps its tables in.
use Rattle.std.proofs.Common.{◌≡◌, ◌⊎◌, inl, inr, ℕ, List, Result, Ok, Err, OnOk, OnErr, IfOk}
use Rattle.std.proofs.Common.{IfErr, Bool, true, false, IsTrue, refl, sym, ap, subst, ◌∙◌, arith}
use Rattle.std.specs.Prelude.{◌==◌}
use Rattle.std.specs.Cmp.{unsigned_Decides}
use Rattle.sqlite.specs.State.{HasCleanDisk, Survives}
use Rattle.sqlite.specs.Store.{Ghosts}
use Rattle.pgrows.specs.Rows.{state}
use Rattle.pgencoded.specs.Acts.{committed_of}
use Rattle.pgapply.specs.declared.rows.DumpRow.{DumpRow}
use Rattle.pgapply.specs.declared.fault.StoreFault.{StoreFault}
use Rattle.pgapply.specs.Value.{Tables}
use Rattle.pgapply.specs.Apply.{Change}
use Rattle.pgapply.specs.Dump.{dump}
use Rattle.pgapply.specs.Stored.{Stored}
use Rattle.pgapply.specs.Taken as taken
use Rattle.pgencoded.specs.Spelled.{IsStored}
use Rattle.pgstore.specs.Reopened.{Reopens}
use Rattle.pgstore.specs.StoreValue.{Group, StoreValue, IsHonest, Serves, Holds, Contains, Plans}
use Rattle.pgstore.specs.StoreValue.{Takes, Stays, RefusesWork, LeavesGroup, LeavesSynced}
use Rattle.pgstore.specs.StoreValue.{LeavesWork, unstaged_of}
use Rattle.pgstore.specs.Staged.{before_of}

module _ {S : Type 0} (g : Ghosts S) where
  abbrev pub holds_tables : StoreValue S → Tables → Type 0
  holds_tables s tables = IsStored tables (committed_of g s.rows)

  pub holds_with_position : (s : StoreValue S) (tables : Tables) → holds_tables s tables
      → Holds g s (record { tables = tables; position = s.position })
  holds_with_position s tables h = record { stored = h; position = refl }

  pub folds_tables : (old new : StoreValue S) (changes : List Change) (end : _) → Takes g old new changes end
      → taken.Folds holds_tables old new changes
  folds_tables old new changes end t tables h =
      let f = t.folds (record { tables = tables; position = old.position }) (holds_with_position old tables h) in
      (f.0, f.1, f.2.stored)

  pub stays_tables : (old new : StoreValue S) → Stays g old new → taken.Stays holds_tables old new
  stays_tables old new s tables h = (s.same (record { tables = tables; position = old.position }) (holds_with_position old tables h)).stored

  pub refuses_tables : (old : StoreValue S) (changes : List Change) (fault : StoreFault) → RefusesWork g old changes fault
      → taken.RefusesWork holds_tables old changes fault
  refuses_tables old changes fault r tables h = r (record { tables = tables; position = old.position }) (holds_with_position old tables h)

  pub shows_tables : (old : StoreValue S) (rows : List DumpRow) → ((v : Stored) → Holds g old v → rows ≡ dump v.tables)
      → taken.Shows holds_tables old rows
  shows_tables old rows shows tables h = shows (record { tables = tables; position = old.position }) (holds_with_position old tables h)

  -- what a crash may leave of a commit is what it could leave before, or the changes of the commit
  -- folded
  pub leaves_fold : (old new : StoreValue S) (changes : List Change) (end : ℕ)
      → Survives (state g old.rows) (state g new.rows) (LeavesWork g old changes end) → (Serves g old → (v : Stored) × Contains g old v)
      → IsHonest g new
      → (other : StoreValue S) → Reopens g g new other
      → Reopens g g old other ⊎ (Serves g old × taken.LeavesFold holds_tables (λ s. s.position) old changes end other)
  leaves_fold old new changes end survives contains honest other left = elim (survives.crash honest left.db left.left) [
    | inl was ↦ inl (record { db = left.db; left = was; opened = left.opened })
    | inr commits ↦
        let before : IsHonest g old = omega (arith, honest, survives.clean) in
        let serves : Serves g old = record { honest = before; is_open = commits.0 } in
        let some = contains serves in
        let one = commits.1 some.0 some.1.holds in
        let at = (left.opened (record { tables = one.0; position = end }) one.2).position in
        inr (
          serves,
          (
            λ tables h.
                let f = commits.1 (record { tables = tables; position = old.position }) (holds_with_position old tables h) in
                (f.0, f.1, (left.opened (record { tables = f.0; position = end }) f.2).stored),
            sym at,
          ),
        )
  ]

  -- ---- what is staged

  -- what a crash may leave of a settling is what it could leave before, or all that was staged
  pub leaves_staged : (old new : StoreValue S) → Survives (state g old.rows) (state g new.rows) (LeavesGroup g old)
      → (Serves g old → (t : Tables) × Plans g old t) → IsHonest g new
      → (other : StoreValue S) → Reopens g g new other
      → Reopens g g old other ⊎ (Serves g old × taken.LeavesStaged holds_tables (λ s. s.position) (Plans g) (λ s. s.group.reach) old other)
  leaves_staged old new survives plans honest other left = elim (survives.crash honest left.db left.left) [
    | inl was ↦ inl (record { db = left.db; left = was; opened = left.opened })
    | inr commits ↦
        let before : IsHonest g old = omega (arith, honest, survives.clean) in
        let serves : Serves g old = record { honest = before; is_open = commits.0 } in
        let some = plans serves in
        let at = (left.opened (record { tables = some.0; position = old.group.reach }) (commits.1 some.0 some.1)).position in
        inr (serves, (λ t planned. (left.opened (record { tables = t; position = old.group.reach }) (commits.1 t planned)).stored, sym at))
  ]

  -- and what it may leave of one with a ledger is that, and the ledger was synced
  pub leaves_synced : (was_stuck : Bool) (Synced : Type 0) (old new : StoreValue S)
      → Survives (state g old.rows) (state g new.rows) (LeavesSynced g was_stuck Synced old) → (Serves g old → (t : Tables) × Plans g old t)
      → IsHonest g new
      → (other : StoreValue S) → Reopens g g new other
      → Reopens g g old other ⊎ (Serves g old × taken.LeavesStaged holds_tables (λ s. s.position) (Plans g) (λ s. s.group.reach) old other
      × (was_stuck ≡ false) × Synced)
  leaves_synced was_stuck Synced old new survives plans honest other left = elim (survives.crash honest left.db left.left) [
    | inl was ↦ inl (record { db = left.db; left = was; opened = left.opened })
    | inr commits ↦
        let before : IsHonest g old = omega (arith, honest, survives.clean) in
        let serves : Serves g old = record { honest = before; is_open = commits.0.0 } in
        let some = plans serves in
        let at = (left.opened (record { tables = some.0; position = old.group.reach }) (commits.0.1 some.0 some.1)).position in
        inr (
          serves,
          (
            λ t planned. (left.opened (record { tables = t; position = old.group.reach }) (commits.0.1 t planned)).stored,
            sym at,
          ),
          commits.1,
          commits.2,
        )
  ]

  -- the store where nothing is staged any more
  module _ (old new : StoreValue S) (rows_are : new.rows ≡ old.rows) where
    pub forgets_serves : Serves g old → Serves g new
    forgets_serves serves = record {
      honest = subst (λ r. HasCleanDisk (state g r)) (sym rows_are) serves.honest;
      is_open = subst (λ r. IsTrue (state g r).is_open) (sym rows_are) serves.is_open;
    }

    pub forgets_served : Serves g new → Serves g old
    forgets_served serves = record {
      honest = subst (λ r. HasCleanDisk (state g r)) rows_are serves.honest;
      is_open = subst (λ r. IsTrue (state g r).is_open) rows_are serves.is_open;
    }

    pub forgets_reopens : (other : StoreValue S) → Reopens g g new other → Reopens g g old other
    forgets_reopens other left =
        record { db = left.db; left = subst (λ r. (state g r).may_leave left.db) rows_are left.left; opened = left.opened }

    pub forgets_held : taken.Stays holds_tables old new
    forgets_held t h = subst (λ r. IsStored t (committed_of g r)) (sym rows_are) h

    pub forgets_staged : new.position ≡ old.position → new.group ≡ unstaged_of old.position old.group
        → taken.Begins holds_tables (Plans g) old new
    forgets_staged place group t h _ =
        let here : (new.group.reach == new.position) ≡ true =
        (unsigned_Decides new.group.reach new.position).1 (ap (λ (a : Group). a.reach) group ∙ sym place) in
        subst (λ b. IsStored t (before_of g b new.rows)) (sym here) (forgets_held t h)

pub on_ok : {T E : Type 0} (r : Result T E) (A B : Type 0) → OnOk r A → (A → B) → OnOk r B
on_ok (Ok t) A B h go = go h
on_ok (Err e) A B h go = tt

pub on_err : {T E : Type 0} (r : Result T E) (A B : Type 0) → OnErr r A → (A → B) → OnErr r B
on_err (Ok t) A B h go = tt
on_err (Err e) A B h go = go h

pub if_err : {T E : Type 0} (r : Result T E) (P Q : E → Type 0) → IfErr r P → ((e : E) → P e → Q e) → IfErr r Q
if_err (Ok t) P Q h go = tt
if_err (Err e) P Q h go = go e h

pub if_ok : {T E : Type 0} (r : Result T E) (P Q : T → Type 0) → IfOk r P → ((t : T) → P t → Q t) → IfOk r Q
if_ok (Ok t) P Q h go = go t h
if_ok (Err e) P Q h go = tt
