-- What is done to the rows of one relation inside a transaction, in terms of the store's value.
use Rattle.std.specs.Prelude.{◌≡◌, ◌⊎◌, ◌<◌, ◌≤◌, ◌+◌, ◌-◌, nat_lt, if◌then◌else◌, cond, ◌==◌, Bool}
use Rattle.std.specs.Prelude.{List, ℕ, length, true, false, IsTrue, slice_get, Option, Some, None}
use Rattle.std.specs.Prelude.{Result, Ok}
use Rattle.std.specs.FinMap as map
use Rattle.sqlite.specs.Tree.{Trees}
use Rattle.sqlite.specs.Store.{Ghosts}
use Rattle.sqlite.specs.State.{HasCleanDisk, Survives}
use Rattle.pgtuple.specs.declared.cell.Cell.{Cell}
use Rattle.pgtuple.specs.Cells.{tuple_spelling}
use Rattle.pgtuple.specs.Limits.{IsWireTuple}
use Rattle.pglogical.specs.declared.message.RelationDef.{RelationDef}
use Rattle.pgrel.specs.Identity.{keyed, key_cells, has_unchanged, resolved}
use Rattle.pgtables.specs.Kept as stored
use Rattle.pgtables.specs.Kept.{tables_in}
use Rattle.pgrows.specs.Rows.{Keeps, Makes, database, state, tables_of}
use Rattle.pgapply.specs.declared.fault.StoreFault.{StoreFault}
use Rattle.pgapply.specs.declared.fault.StoreFault.TheVariants.{Clash, TooManyCopies}
use Rattle.pgapply.specs.Value.{Row, Rows, Tables, identity_key, most_copies}
use Rattle.pgapply.specs.declared.op.Op.{Op}
use Rattle.pgapply.specs.declared.misses.Misses.{Misses}
use Rattle.pgapply.specs.Works.{change_values}
use Rattle.pgapply.specs.Apply.{with_row, without_row, found_rows, fold_changes}
use Rattle.pgapply.specs.Missing.{all_missing, finds_none, with_misses}
use Rattle.pgapply.specs.Stored.{IsFault, IsOwnFault}
use Rattle.pgencoded.specs.Spelled.{IsChanging, IsReadable, IsStored, spelled_row}

-- the cells of a row that is new, with its spellings
pub record IsNewRow (def : RelationDef) (cells : List Cell) (place body : List ℕ) : Type 0 where
  pub place_is : place ≡ identity_key def cells
  pub body_is : body ≡ tuple_spelling cells
  pub tuple : IsWireTuple cells
  pub width : length cells ≡ length def.columns
  pub sent : has_unchanged cells ≡ false

-- a row of a keyed table that was sent whole, at its own place
pub record StaysWhole (def : RelationDef) (place : List ℕ) (cells : List Cell) : Type 0 where
  pub keyed : keyed def ≡ true
  pub place_is : place ≡ identity_key def cells
  pub width : length cells ≡ length def.columns
  pub sent : has_unchanged cells ≡ false

-- a row of a keyed table whose key cells were all sent, at its own place
pub record KeepsPlace (def : RelationDef) (place : List ℕ) (cells : List Cell) : Type 0 where
  pub keyed : keyed def ≡ true
  pub place_is : place ≡ identity_key def cells
  pub sent : has_unchanged (key_cells def.columns cells) ≡ false

-- a row that was found at its place
pub record IsFound (rows : Rows) (place : List ℕ) (there : stored.Copies) (was : Row) : Type 0 where
  pub at : map.get rows place ≡ Some was
  pub is : there ≡ spelled_row was

-- whatever the rows were, they are those that the change makes of them
abbrev pub MakesOf : Tables → RelationDef → Result Rows StoreFault → stored.Tables → Type 0
MakesOf v def made t = (next : Rows) × (made ≡ Ok next) × IsChanging v def next t

module _ {S : Type 0} (g : Ghosts S) where
  -- what is committed
  abbrev pub committed_of : S → stored.Tables
  committed_of s = tables_in (state g s).committed.trees

  -- the transaction sees what is committed
  abbrev pub IsBegun : S → Type 0
  IsBegun s = (state g s).now ≡ (state g s).committed

  -- the disk has been honest so far, and before the calls no failure of it had shut the store
  abbrev pub IfOpened : S → S → Type 0 → Type 0
  IfOpened old new P = HasCleanDisk (state g new) → IsTrue (state g old).is_open → P

  -- several calls, whatever the last of them answered: nothing was committed
  pub record Goes (old new : S) : Type 0 where
    pub keeps : HasCleanDisk (state g new) → Keeps g old new
    pub survives : Survives (state g old) (state g new) (λ _. ⊥)

module _ {S : Type 0} (g : Ghosts S) (old new : S) where
  -- a transaction goes on
  pub record GoesOpen : Type 0 where
    pub was_open : IsTrue (state g old).is_open
    pub is_open : IsTrue (state g new).is_open

  -- the rows of a relation are changed
  abbrev pub Changes : RelationDef → (Rows → Result Rows StoreFault) → Type 0
  Changes def change = GoesOpen
      × ((v : Tables) (rows : Rows) → IsChanging v def rows (tables_of g old) → MakesOf v def (change rows) (tables_of g new))

-- whether a change of the relation searches a row and finds none
abbrev pub TellsMissing : {S : Type 0} → Ghosts S → S → RelationDef → Op → Bool → Type 0
TellsMissing g old def op missed = (v : Tables) (rows : Rows) → IsChanging v def rows (tables_of g old) → missed ≡ finds_none def op rows

-- the change is refused
abbrev pub Refuses : {S : Type 0} → Ghosts S → S → RelationDef → (Rows → Result Rows StoreFault) → StoreFault → Type 0
Refuses g old def change e = (v : Tables) (rows : Rows) → IsChanging v def rows (tables_of g old) → IsFault e (change rows)

-- ---- steps on the tables of bytes

-- a row goes; of several copies one
abbrev pub taken_row : ℕ → List ℕ → stored.Copies → stored.Tables → stored.Tables
taken_row oid place there t = if nat_lt 1 there.copies
    then stored.with_row oid place (record { body = there.body; copies = there.copies - 1 }) t else stored.without_row oid place t

-- these cells take the place of those of a row that was found
abbrev pub refilled_row : ℕ → List ℕ → stored.Copies → List Cell → stored.Tables → stored.Tables
refilled_row oid place there cells t = stored.with_row oid place (record { body = tuple_spelling cells; copies = there.copies }) t

-- a copy more of a row of a bag
pub record AddsCopy {S : Type 0} (g : Ghosts S) (def : RelationDef) (place body : List ℕ) (there : stored.Copies)
    (old new : S) : Type 0 where
  pub bag : keyed def ≡ false
  pub below : there.copies < most_copies
  pub made : Makes g (stored.with_row def.oid place (record { body = body; copies = there.copies + 1 })) old new

abbrev pub RefusesCopy : RelationDef → stored.Copies → StoreFault → Type 0
RefusesCopy def there fault =
    IsOwnFault fault ⊎ (((fault ≡ Clash) × (keyed def ≡ true))
    ⊎ ((fault ≡ TooManyCopies) × (keyed def ≡ false) × (most_copies ≤ there.copies)))

-- ---- a row comes

abbrev pub Adds : {S : Type 0} → Ghosts S → S → S → RelationDef → List ℕ → List ℕ → Type 0
Adds g old new def place body =
    GoesOpen g old new × ((cells : List Cell) → IsNewRow def cells place body → (v : Tables) (rows : Rows)
    → IsChanging v def rows (tables_of g old) → MakesOf v def (with_row def cells rows) (tables_of g new))

-- ---- a row that was found gets new cells

-- a row with these cells stands in the place of the one that was found
abbrev pub Moves : {S : Type 0} → Ghosts S → S → S → RelationDef → List ℕ → stored.Copies → List Cell → Type 0
Moves g old new def place there cells =
    GoesOpen g old new × ((v : Tables) (rows : Rows) (was : Row) → IsChanging v def rows (tables_of g old) → IsFound rows place there was
    → has_unchanged cells ≡ false
    → MakesOf v def (with_row def cells (without_row place was rows)) (tables_of g new))

abbrev pub RefusesToMove : {S : Type 0} → Ghosts S → S → RelationDef → List ℕ → stored.Copies → List Cell → StoreFault → Type 0
RefusesToMove g old def place there cells e =
    (v : Tables) (rows : Rows) (was : Row) → IsChanging v def rows (tables_of g old) → IsFound rows place there was
    → has_unchanged cells ≡ false → IsFault e (with_row def cells (without_row place was rows))

-- a row whose missing cells are the found row's stands in its place
abbrev pub Replaces : {S : Type 0} → Ghosts S → S → S → RelationDef → List ℕ → stored.Copies → List Cell → Type 0
Replaces g old new def place there row =
    GoesOpen g old new × ((v : Tables) (rows : Rows) (was : Row) → IsChanging v def rows (tables_of g old) → IsFound rows place there was
    → MakesOf v def (with_row def (resolved row was.cells) (without_row place was rows)) (tables_of g new))

abbrev pub RefusesToReplace : {S : Type 0} → Ghosts S → S → RelationDef → List ℕ → stored.Copies → List Cell → StoreFault → Type 0
RefusesToReplace g old def place there row e =
    (v : Tables) (rows : Rows) (was : Row) → IsChanging v def rows (tables_of g old) → IsFound rows place there was
    → IsFault e (with_row def (resolved row was.cells) (without_row place was rows))

-- ---- a relation gets its definition

-- a relation has this definition
abbrev pub IsGiven : Tables → RelationDef → Type 0
IsGiven v def = (rows : Rows) × (map.get v def.oid ≡ Some (record { definition = def; rows = rows }))

abbrev pub Gives : {S : Type 0} → Ghosts S → S → S → RelationDef → Op → Type 0
Gives g old new def op =
    GoesOpen g old new × ((v : Tables) → IsStored v (tables_of g old)
    → (rows : Rows) × (found_rows (map.get v def.oid) def op ≡ Ok rows) × IsChanging v def rows (tables_of g new))

abbrev pub RefusesToGive : {S : Type 0} → Ghosts S → S → RelationDef → Op → StoreFault → Type 0
RefusesToGive g old def op e = (v : Tables) → IsStored v (tables_of g old) → IsFault e (found_rows (map.get v def.oid) def op)

-- ---- several changes

-- the definition that was given last for each OID, by its number, still stands
abbrev pub AreGiven : List RelationDef → (ℕ → Option ℕ) → Tables → Type 0
AreGiven definitions given v = (oid number : ℕ) → given oid ≡ Some number
    → (def : RelationDef) × (slice_get definitions number ≡ Some def) × (def.oid ≡ oid) × IsGiven v def

-- no definition was given
abbrev pub none_given : ℕ → Option ℕ
none_given oid = None

abbrev pub Folds : {S : Type 0} → Ghosts S → S → S → List RelationDef → List (ℕ × Op) → (ℕ → Option ℕ) → Type 0
Folds g old new definitions changes given =
    GoesOpen g old new × ((v : Tables) → IsStored v (tables_of g old)
    → (next : Tables) × (fold_changes v (change_values definitions changes) ≡ Ok next) × IsStored next (tables_of g new)
    × AreGiven definitions given next)

-- this number is noted for the definition's OID
abbrev pub Notes : (ℕ → Option ℕ) → RelationDef → ℕ → (ℕ → Option ℕ) → Type 0
Notes given def number next_given = (oid : ℕ) → next_given oid ≡ cond (def.oid == oid) (Some number) (given oid)

-- where the definition of a noted number stands, the relation has the definition of the change
-- then, and the rows that the change finds
abbrev pub Finds : {S : Type 0} → Ghosts S → S → S → (ℕ → Option ℕ) → RelationDef → ℕ × Op → Type 0
Finds g old new given def entry =
    GoesOpen g old new × ((v : Tables) → IsStored v (tables_of g old) → (given def.oid ≡ Some entry.0 → IsGiven v def)
    → (rows : Rows) × (found_rows (map.get v def.oid) def entry.1 ≡ Ok rows) × IsChanging v def rows (tables_of g new) × IsReadable def)

-- what a loop over the changes keeps
pub record FoldsOn {S : Type 0} (g : Ghosts S) (old new : S) (definitions : List RelationDef) (changes : List (ℕ × Op))
    (given : ℕ → Option ℕ) : Type 0 where
  pub goes : Goes g old new
  pub made : IfOpened g old new (Folds g old new definitions changes given)

abbrev pub RefusesToFold : stored.Tables → List RelationDef → List (ℕ × Op) → StoreFault → Type 0
RefusesToFold t definitions changes e = (v : Tables) → IsStored v t → IsFault e (fold_changes v (change_values definitions changes))

-- behind the changes of a commit that ends here, those that found no row are counted
abbrev pub CountsFrom : stored.Tables → List RelationDef → List (ℕ × Op) → ℕ → Misses → Misses → Type 0
CountsFrom t definitions changes end before behind = (v : Tables) → IsStored v t
    → behind ≡ with_misses before end (all_missing v (change_values definitions changes))

-- ---- a commit

-- the changes were folded and the position was put, and nothing was committed
pub record Places {S : Type 0} (g : Ghosts S) (old new : S) (definitions : List RelationDef) (changes : List (ℕ × Op))
    (position : List ℕ) : Type 0 where
  pub was_open : IsTrue (state g old).is_open
  pub is_open : IsTrue (state g new).is_open
  pub position_is : (tables_of g new).place ≡ position
  pub folds : (v : Tables) → IsStored v (tables_of g old)
      → (next : Tables) × (fold_changes v (change_values definitions changes) ≡ Ok next) × IsStored next (tables_of g new)

-- the changes were folded over what was committed, with this position
pub record HasTaken {S : Type 0} (g : Ghosts S) (old new : S) (definitions : List RelationDef) (changes : List (ℕ × Op))
    (position : List ℕ) : Type 0 where
  pub was_open : IsTrue (state g old).is_open
  pub is_open : IsTrue (state g new).is_open
  pub kept : stored.IsKept (state g new).committed
  pub position_is : (committed_of g new).place ≡ position
  pub folds : (v : Tables) → IsStored v (committed_of g old)
      → (next : Tables) × (fold_changes v (change_values definitions changes) ≡ Ok next) × IsStored next (committed_of g new)

-- what a crash may leave of it: the changes folded, with this position
pub record LeavesTaken {S : Type 0} (g : Ghosts S) (old : S) (definitions : List RelationDef) (changes : List (ℕ × Op)) (position : List ℕ)
    (db : Trees) : Type 0 where
  -- a store that has shut commits nothing more
  pub was_open : IsTrue (state g old).is_open
  pub kept : stored.IsKept (database db)
  pub position_is : (tables_in db).place ≡ position
  pub folds : (v : Tables) → IsStored v (committed_of g old)
      → (next : Tables) × (fold_changes v (change_values definitions changes) ≡ Ok next) × IsStored next (tables_in db)
