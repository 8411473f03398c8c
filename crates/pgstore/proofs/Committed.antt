-- Changes and a position that are committed, or undone.
use Rattle.std.proofs.Common.{◌≡◌, ℕ, List, IsTrue, sym, ap, subst, ◌∙◌, arith}
use Rattle.sqlite.specs.Tree.{Trees}
use Rattle.sqlite.specs.Effect.{Database}
use Rattle.sqlite.specs.Store.{Ghosts}
use Rattle.sqlite.specs.State.{HasCleanDisk, KeepsCommit, Survives}
use Rattle.sqlite.proofs.StateLemmas.{survives_then}
use Rattle.pglogical.specs.declared.message.RelationDef.{RelationDef}
use Rattle.pgtables.specs.Kept as stored
use Rattle.pgtables.specs.Kept.{IsKept, tables_in, with_place}
use Rattle.pgrows.specs.Rows.{IfServing, Makes, Shows, database, state, tables_of}
use Rattle.pgapply.specs.declared.op.Op.{Op}
use Rattle.pgapply.specs.declared.fault.StoreFault.{StoreFault}
use Rattle.pgapply.specs.Value.{Tables}
use Rattle.pgencoded.specs.Spelled.{IsStored}
use Rattle.pgencoded.specs.Acts.{FoldsOn, Goes, HasTaken, IsBegun, LeavesTaken, Places}
use Rattle.pgencoded.specs.Acts.{RefusesToFold, committed_of, none_given}
use Rattle.pgstore.specs.Sources.{Begins}

-- the position isn't part of the value
placed : (v : Tables) (t : stored.Tables) (place : List ℕ) → IsStored v t → IsStored v (with_place place t)
placed v t place h = record {
  spelled = record { defined = h.spelled.defined; rows = h.spelled.rows; keyed = h.spelled.keyed };
  form = h.form;
  spellable = h.spellable;
}

module _ {S : Type 0} (g : Ghosts S) (old mid last : S) (definitions : List RelationDef) (changes : List (ℕ × Op)) (position : List ℕ) where
  -- the changes, and then the position
  pub places : FoldsOn g old mid definitions changes none_given → HasCleanDisk (state g mid) → Makes g (with_place position) mid last
      → Places g old last definitions changes position
  places folds clean put =
      let first = folds.made clean ((folds.goes.keeps clean).commit.was_open put.was_open) in
      record {
        was_open = first.0.was_open;
        is_open = put.is_open;
        position_is = ap (λ (t : stored.Tables). t.place) put.made;
        folds = λ v h.
            let f = first.1 v h in
            (f.0, f.1, subst (IsStored f.0) (sym put.made) (placed f.0 (tables_of g mid) position f.2));
      }

module _ {S : Type 0} (g : Ghosts S) (old last new : S) (definitions : List RelationDef) (changes : List (ℕ × Op)) (position : List ℕ)
    (begun : IfServing g old (IsBegun g old)) where
  -- the fault of what is seen is that of what is committed
  pub refuses_committed : (e : StoreFault) → HasCleanDisk (state g old) → IsTrue (state g old).is_open
      → RefusesToFold (tables_of g old) definitions changes e → RefusesToFold (committed_of g old) definitions changes e
  refuses_committed e clean still refuses =
      subst (λ (d : Database). RefusesToFold (tables_in d.trees) definitions changes e) (begun clean still) refuses

  -- from what is committed
  from_committed : HasCleanDisk (state g old) → (p : Places g old last definitions changes position) → (v : Tables)
      → IsStored v (committed_of g old) → IsStored v (tables_of g old)
  from_committed clean p v h = subst (λ (d : Database). IsStored v (tables_in d.trees)) (sym (begun clean p.was_open)) h

  pub has_taken : HasCleanDisk (state g old) → Places g old last definitions changes position
      → Shows g last new (state g last).now.trees (state g last).now.trees → IsKept (state g new).committed
      → HasTaken g old new definitions changes position
  has_taken clean p shows kept =
      let tables : committed_of g new ≡ tables_of g last = ap tables_in shows.committed_is in
      record {
        was_open = p.was_open;
        is_open = shows.is_open;
        kept = kept;
        position_is = ap (λ (t : stored.Tables). t.place) tables ∙ p.position_is;
        folds = λ v h.
            let f = p.folds v (from_committed clean p v h) in
            (f.0, f.1, subst (IsStored f.0) (sym tables) f.2);
      }

  leaves_taken : HasCleanDisk (state g old) → Places g old last definitions changes position → (db : Trees) → db ≡ (state g last).now.trees
      → IsKept (database db) → LeavesTaken g old definitions changes position db
  leaves_taken clean p db same kept =
      let tables : tables_in db ≡ tables_of g last = ap tables_in same in
      record {
        was_open = p.was_open;
        kept = kept;
        position_is = ap (λ (t : stored.Tables). t.place) tables ∙ p.position_is;
        folds = λ v h.
            let f = p.folds v (from_committed clean p v h) in
            (f.0, f.1, subst (IsStored f.0) (sym tables) f.2);
      }

  -- all was committed, or nothing
  pub crash_taken : (HasCleanDisk (state g last) → Places g old last definitions changes position) → Goes g old last
      → Survives (state g last) (state g new) (λ db. IsTrue (state g last).is_open × (db ≡ (state g last).now.trees) × IsKept (database db))
      → Survives (state g old) (state g new) (LeavesTaken g old definitions changes position)
  crash_taken put one two =
      survives_then (state g old) (state g last) (state g new) (λ _. ⊥)
      (λ db. IsTrue (state g last).is_open × (db ≡ (state g last).now.trees) × IsKept (database db)) _ (λ _ db none. absurd none)
      (λ clean db may. let last_clean : HasCleanDisk (state g last) = omega (arith, two.clean) in
      leaves_taken (omega (arith, one.survives.clean, last_clean)) (put last_clean) db may.1 may.2) one.survives two

  -- nothing was committed
  pub crash_undone : (P : Trees → Type 0) → Goes g old last → Survives (state g last) (state g new) (λ _. ⊥)
      → Survives (state g old) (state g new) P
  crash_undone P one two =
      survives_then (state g old) (state g last) (state g new) _ _ P (λ _ db none. absurd none) (λ _ db none. absurd none) one.survives two

  -- what was undone commits nothing
  pub undone_keeps : Goes g old last → Survives (state g last) (state g new) (λ _. ⊥)
      → IfServing g new (Shows g last new (state g last).committed.trees (state g last).committed.trees) → HasCleanDisk (state g new)
      → KeepsCommit (state g old) (state g new)
  undone_keeps goes survives shows clean =
      let before = goes.keeps (omega (arith, survives.clean)) in
      record {
        was_open = λ still. before.commit.was_open (shows clean still).was_open;
        committed = λ still. let it = shows clean still in ap database it.committed_is ∙ before.commit.committed it.was_open;
      }

-- what was begun has what is committed
module _ {S : Type 0} (g : Ghosts S) (old begun new : S) (definitions : List RelationDef) (changes : List (ℕ × Op)) (position : List ℕ)
    (begins : Begins g old begun) where
  pub begun_taken : HasCleanDisk (state g begun) → HasTaken g begun new definitions changes position
      → HasTaken g old new definitions changes position
  begun_taken clean taken =
      let b = begins clean taken.was_open in
      record {
        was_open = b.0;
        is_open = taken.is_open;
        kept = taken.kept;
        position_is = taken.position_is;
        folds = λ v h. taken.folds v (subst (λ (d : Database). IsStored v (tables_in d.trees)) (sym b.2) h);
      }

  pub begun_crash : Survives (state g old) (state g begun) (λ _. ⊥)
      → Survives (state g begun) (state g new) (LeavesTaken g begun definitions changes position)
      → Survives (state g old) (state g new) (LeavesTaken g old definitions changes position)
  begun_crash one two = survives_then (state g old) (state g begun) (state g new) (λ _. ⊥)
      (LeavesTaken g begun definitions changes position) _ (λ _ db none. absurd none)
      (λ clean db left.
      let was : HasCleanDisk (state g begun) = omega (arith, two.clean, clean) in
      let b = begins was left.was_open in
      record {
        was_open = b.0;
        kept = left.kept;
        position_is = left.position_is;
        folds = λ v h. left.folds v (subst (λ (d : Database). IsStored v (tables_in d.trees)) (sym b.2) h);
      })
      one two
