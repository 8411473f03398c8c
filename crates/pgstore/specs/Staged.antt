-- Commits that share a transaction: each is put behind those before it, wholly or not at all, and
-- one commit stores them all.
use Rattle.std.specs.Prelude.{◌≡◌, ◌++◌, Bool, false, if◌then◌else◌, List, [], ◌∷◌, ℕ, IsTrue, Ok}
use Rattle.sqlite.specs.Tree.{Trees}
use Rattle.sqlite.specs.Store.{Ghosts}
use Rattle.sqlite.specs.State.{HasCleanDisk, KeepsCommit, Savepoint, State, Survives}
use Rattle.pglogical.specs.declared.message.RelationDef.{RelationDef}
use Rattle.pgtables.specs.Kept as stored
use Rattle.pgtables.specs.Kept.{tables_in}
use Rattle.pgrows.specs.Rows.{GoesOn, IfServing, IsNumbered, database, state, tables_of}
use Rattle.pgapply.specs.declared.op.Op.{Op}
use Rattle.pgapply.specs.Value.{Tables}
use Rattle.pgapply.specs.Works.{change_values}
use Rattle.pgapply.specs.Apply.{fold_changes}
use Rattle.pgencoded.specs.Acts.{committed_of}
use Rattle.pgencoded.specs.Spelled.{IsStored}

-- the transaction is as it was at the newest savepoint, which is dropped
abbrev pub Returns : State → State → Type 0
Returns old new = IsTrue old.is_open
    × ((older : List Savepoint) (mark : Savepoint) → old.marks ≡ older ++ mark ∷ [] → GoesOn old new mark.db older)

module _ {S : Type 0} (g : Ghosts S) where
  -- what a commit is staged behind: the first of a group is behind what is committed, the others
  -- behind what the transaction has
  abbrev pub before_of : Bool → S → stored.Tables
  before_of is_first s = if is_first then committed_of g s else tables_of g s

module _ {S : Type 0} (g : Ghosts S) (old new : S) where
  -- the transaction has that
  abbrev pub Prepares : Bool → Type 0
  Prepares is_first = IfServing g new
      (IsTrue (state g old).is_open × (tables_of g new ≡ before_of g is_first old) × ((state g new).committed ≡ (state g old).committed))

  -- the transaction goes on over the same commit, with the same savepoints
  pub record IsOver : Type 0 where
    pub was_open : IsTrue (state g old).is_open
    pub is_open : IsTrue (state g new).is_open
    pub committed_is : (state g new).committed ≡ (state g old).committed
    pub marks_are : (state g new).marks ≡ (state g old).marks

  -- calls of which some mark and go back: nothing was committed, and a crash leaves nothing else
  pub record CommitsNothing : Type 0 where
    pub commit : HasCleanDisk (state g new) → KeepsCommit (state g old) (state g new)
    pub numbered : IsNumbered g old → IsNumbered g new
    pub survives : Survives (state g old) (state g new) (λ _. ⊥)

  -- the changes were folded behind what the transaction had
  pub record Stages (definitions : List RelationDef) (changes : List (ℕ × Op)) : Type 0 where
    pub over : IsOver
    pub folds : (v : Tables) → IsStored v (tables_of g old)
        → (next : Tables) × (fold_changes v (change_values definitions changes) ≡ Ok next) × IsStored next (tables_of g new)

  -- the transaction has what it had
  pub record Unstages : Type 0 where
    pub over : IsOver
    pub same : (state g new).now ≡ (state g old).now

  -- what the transaction had is committed, with this position
  pub record Settles (position : List ℕ) : Type 0 where
    pub was_open : IsTrue (state g old).is_open
    pub is_open : IsTrue (state g new).is_open
    pub kept : stored.IsKept (state g new).committed
    pub position_is : (committed_of g new).place ≡ position
    pub holds : (v : Tables) → IsStored v (tables_of g old) → IsStored v (committed_of g new)

-- what a crash may leave of it
pub record LeavesSettled {S : Type 0} (g : Ghosts S) (old : S) (position : List ℕ) (db : Trees) : Type 0 where
  -- a store that has shut commits nothing more
  pub was_open : IsTrue (state g old).is_open
  pub kept : stored.IsKept (database db)
  pub position_is : (tables_in db).place ≡ position
  pub holds : (v : Tables) → IsStored v (tables_of g old) → IsStored v (tables_in db)

module _ {S : Type 0} (g : Ghosts S) (is_first : Bool) (old new : S) where
  -- the changes were folded behind what was staged before them
  pub record HasStaged (definitions : List RelationDef) (changes : List (ℕ × Op)) : Type 0 where
    pub was_open : IsTrue (state g old).is_open
    pub is_open : IsTrue (state g new).is_open
    pub folds : (v : Tables) → IsStored v (before_of g is_first old)
        → (next : Tables) × (fold_changes v (change_values definitions changes) ≡ Ok next) × IsStored next (tables_of g new)

  -- what was staged before them stands
  abbrev pub KeepsStaged : Type 0
  KeepsStaged = is_first ≡ false → tables_of g new ≡ tables_of g old
