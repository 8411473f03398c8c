-- The changes of a commit that come part after part. Which changes were made is said where the
-- parts are what was put into them; whatever they are, they are changes of some works.
use Rattle.std.specs.Prelude.{◌≡◌, ◌++◌, ℕ, Bool, true, false, List, Option, Ok}
use Rattle.sqlite.specs.Store.{Ghosts}
use Rattle.pglogical.specs.declared.message.RelationDef.{RelationDef}
use Rattle.pgtables.specs.Kept as stored
use Rattle.pgrows.specs.Rows.{tables_of}
use Rattle.pgapply.specs.declared.op.Op.{Op}
use Rattle.pgapply.specs.declared.fault.StoreFault.{StoreFault}
use Rattle.pgapply.specs.declared.misses.Misses.{Misses}
use Rattle.pgapply.specs.Value.{Tables}
use Rattle.pgapply.specs.Works.{change_values}
use Rattle.pgapply.specs.Apply.{Change, fold_changes}
use Rattle.pgapply.specs.Missing.{all_missing, with_misses}
use Rattle.pgapply.specs.Stored.{IsFault}
use Rattle.pgledger.specs.declared.heard.Heard.{Heard}
use Rattle.pgledger.specs.Entries.{Entry}
use Rattle.pgledger.specs.Images.{Line, images, lines}
use Rattle.pgledger.specs.Ledgers.{Keeps, Rests}
use Rattle.pgledger.specs.Drafts.{AddsLines}
use Rattle.pgencoded.specs.Spelled.{IsStored}
use Rattle.pgencoded.specs.Acts.{CountsFrom, GoesOpen}
use Rattle.pgstore.specs.Staged.{before_of, HasStaged, Stages}

-- the changes were folded
abbrev pub FoldsChanges : {S : Type 0} → Ghosts S → S → S → List Change → Type 0
FoldsChanges g old new changes =
    GoesOpen g old new × ((v : Tables) → IsStored v (tables_of g old)
    → (next : Tables) × (fold_changes v changes ≡ Ok next) × IsStored next (tables_of g new))

-- in a commit that ends here, those of them that found no row were counted
abbrev pub CountsChanges : stored.Tables → List Change → ℕ → Misses → Misses → Type 0
CountsChanges t changes end before behind = (v : Tables) → IsStored v t → behind ≡ with_misses before end (all_missing v changes)

abbrev pub RefusesChanges : stored.Tables → List Change → StoreFault → Type 0
RefusesChanges t changes fault = (v : Tables) → IsStored v t → IsFault fault (fold_changes v changes)

-- some changes were folded and counted: all but those that are left
pub record TakesParts {S : Type 0} (g : Ghosts S) (old new : S) (is_honest : Type 0) (all left : List Change) (end : ℕ)
    (before behind : Misses) : Type 0 where
  pub changes : List Change
  pub are : is_honest → all ≡ changes ++ left
  pub folds : FoldsChanges g old new changes
  pub counts : CountsChanges (tables_of g old) changes end before behind

-- all of them were, behind what the transaction had
pub record StagesParts {S : Type 0} (g : Ghosts S) (old new : S) (is_honest : Type 0) (all : List Change) (end : ℕ)
    (before behind : Misses) : Type 0 where
  pub definitions : List RelationDef
  pub changes : List (ℕ × Op)
  pub are : is_honest → change_values definitions changes ≡ all
  pub stages : Stages g old new definitions changes
  pub counts : CountsFrom (tables_of g old) definitions changes end before behind

-- all of them were, behind what was staged before them
pub record HasStagedParts {S : Type 0} (g : Ghosts S) (is_first : Bool) (old new : S) (is_honest : Type 0) (all : List Change) (end : ℕ)
    (before behind : Misses) : Type 0 where
  pub definitions : List RelationDef
  pub changes : List (ℕ × Op)
  pub are : is_honest → change_values definitions changes ≡ all
  pub staged : HasStaged g is_first old new definitions changes
  pub counts : CountsFrom (before_of g is_first old) definitions changes end before behind

-- a ledger that wants images has these changes with their images over these tables, behind the
-- lines that it had of the commit
abbrev pub AddsImages : {L : Type 0} → (L → List Line → Type 0) → (L → Bool) → stored.Tables → List Change → L → L → Type 0
AddsImages drafts is_wanting t changes old new = is_wanting old ≡ true → (v : Tables) → IsStored v t
    → AddsLines drafts (lines changes (images v changes)) old new

-- some changes were folded, and a ledger has their images: all but those that are left
pub record AddsParts {S L : Type 0} (g : Ghosts S) (drafts : L → List Line → Type 0) (is_wanting : L → Bool) (old new : S)
    (all left : List Change) (before behind : L) : Type 0 where
  pub changes : List Change
  pub are : all ≡ changes ++ left
  pub folds : FoldsChanges g old new changes
  pub adds : AddsImages drafts is_wanting (tables_of g old) changes before behind

-- of a ledger nothing changed but what it has of a commit that it doesn't keep yet
pub record OnlyDrafts {L : Type 0} (begins : L → ℕ) (keeps : L → List Entry → Type 0) (outlasts : L → ℕ → Type 0)
    (is_stuck is_wanting is_hearing : L → Bool) (heard : L → Option (List Heard)) (reopens : L → ℕ → L → Type 0)
    (old new : L) : Type 0 where
  pub kept : Keeps keeps old new
  pub heard_is : heard new ≡ heard old
  pub was_free : is_stuck new ≡ false → is_stuck old ≡ false
  pub rests : Rests begins is_wanting is_hearing outlasts reopens old new
