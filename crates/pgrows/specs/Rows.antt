-- What a store of trees shows of the three tables, and what holds of it between calls.
use Rattle.std.specs.Prelude.{◌≡◌, ◌≢◌, ◌≤ℤ◌, ◌-◌, ◌++◌, ℕ, ℤ, pos, true, false, Bool}
use Rattle.std.specs.Prelude.{if◌then◌else◌, List, [], ◌∷◌, map, length, take, Option, None}
use Rattle.std.specs.Prelude.{MatchOption, IsTrue}
use Rattle.std.specs.List.{AllByRecursion}
use Rattle.sqlite.specs.declared.types.Value.TheVariants.{Int, Blob}
use Rattle.sqlite.specs.Order.{Row, column}
use Rattle.sqlite.specs.Tree.{Trees, rowid}
use Rattle.sqlite_trees.specs.Objects.{version_tree, version_rows}
use Rattle.sqlite.specs.View.{Snapshot, View, IsClean}
use Rattle.sqlite.specs.Effect.{Database}
use Rattle.sqlite.specs.Store.{Ghosts}
use Rattle.sqlite.specs.State.{Savepoint, State, HasCleanDisk, KeepsCommit}
use Rattle.sqlite_rules.specs.Lists.{Has}
use Rattle.sqlite_rules.specs.Edit.{id_in}
use Rattle.pgtables.specs.Schema.{store_schema}
use Rattle.pgrows.specs.Gap.{IsGap}
use Rattle.pgtables.specs.Kept.{Copies, IsKept, Tables, held_row, is_there, key_in, number_in}
use Rattle.pgtables.specs.Kept.{tables_in, with_row}

abbrev pub database : Trees → Database
database db = record { schema = store_schema; trees = db }

-- the file tells the version of the tables' layout, as SQLite's user version
abbrev pub TellsVersion : Trees → Type 0
TellsVersion db = db version_tree ≡ version_rows 1

-- no rowid is above this one
abbrev pub AreBelow : ℤ → List Row → Type 0
AreBelow last = AllByRecursion (λ r. id_in (rowid r) ≤ℤ last)

-- No rowid is above the last. While it isn't known, no row has come or gone since the commit.
abbrev pub AreLow : Option ℤ → Trees → List Row → Type 0
AreLow last committed rows = MatchOption last (rows ≡ committed 1) (λ n. AreBelow n rows)

-- trees to which the transaction may go back
pub record IsSaved (last : Option ℤ) (committed db : Trees) : Type 0 where
  pub kept : IsKept (database db)
  pub below : AreLow last committed (db 1)

-- the savepoints, as a connection shows them
abbrev pub shown_mark : Snapshot → Savepoint
shown_mark m = record { name = []; begins = false; db = database m.trees }

abbrev pub saved_in : View → List Savepoint
saved_in v = map shown_mark v.marks

-- the last commit and each savepoint hold tables of a store, and the trees are numbered as they are
-- listed
pub record IsBehind (v : View) (last : Option ℤ) : Type 0 where
  pub numbered : IsTrue v.is_numbered
  pub committed : IsSaved last v.committed v.committed
  pub marks : AllByRecursion (λ (p : Savepoint). IsSaved last v.committed p.db.trees) (saved_in v)

-- the transaction is sound, and its trees hold the tables of a store
pub record IsGood (v : View) : Type 0 where
  pub unbroken : v.is_broken ≡ false
  pub kept : IsKept (database v.trees)

-- the same, with what it may go back to
pub record IsUnder (v : View) (last : Option ℤ) : Type 0 where
  pub good : IsGood v
  pub below : AreLow last v.committed (v.trees 1)
  pub behind : IsBehind v last

-- the key of a row, as an index has it
abbrev pub key_of : ℕ → List ℕ → Row
key_of o i = Int (pos o) ∷ Blob i ∷ []

-- the entry of a row in the index
abbrev pub index_row : ℕ → List ℕ → ℤ → Row
index_row o i id = Int (pos o) ∷ Blob i ∷ Int id ∷ []

-- the entry is the key's, with this rowid
abbrev pub IsAt : ℕ → List ℕ → Row → ℤ → Type 0
IsAt o i e id = (column e 0 ≡ Int (pos o)) × (column e 1 ≡ Blob i) × (column e 2 ≡ Int id)

-- no row has the key
abbrev pub IsFree : ℕ → List ℕ → List Row → Type 0
IsFree o i rows = (x : Row) → Has rows x → key_in x ≢ o ∷ i

-- this row has it
abbrev pub IsStored : ℕ → List ℕ → List Row → ℤ → Type 0
IsStored o i rows id = (k : Copies) × Has rows (held_row (Int id) o i k)

-- where the keys of a relation begin
abbrev pub front_of : ℕ → Row
front_of o = Int (pos o) ∷ []

-- the entry is one of the relation's, with this rowid
abbrev pub IsOf : ℕ → Row → ℤ → Type 0
IsOf o e id = (column e 0 ≡ Int (pos o)) × (column e 2 ≡ Int id)

-- no row is of the relation
abbrev pub HasNone : ℕ → List Row → Type 0
HasNone o rows = (x : Row) → Has rows x → number_in (column x 1) ≢ o

-- the entry is that of a row of the relation, with this rowid
abbrev pub IsFirst : ℕ → Row → List Row → ℤ → Type 0
IsFirst o e rows id = (i : List ℕ) × (e ≡ index_row o i id) × IsStored o i rows id

-- the row stands in the place of the one that has its key, if there is one
abbrev pub with_row_if_there : ℕ → List ℕ → Copies → Tables → Tables
with_row_if_there o i k t = if is_there o i t then with_row o i k t else t

-- ---- what a caller sees

-- it goes on with these trees, over the same commit and these savepoints
pub record GoesOn (old new : State) (now : Database) (marks : List Savepoint) : Type 0 where
  pub was_open : IsTrue old.is_open
  pub is_open : IsTrue new.is_open
  pub now_is : new.now ≡ now
  pub committed_is : new.committed ≡ old.committed
  pub marks_are : new.marks ≡ marks

abbrev pub mark_of : State → Savepoint
mark_of s = record { name = []; begins = false; db = s.now }

-- there is a savepoint more, of what the transaction sees
abbrev pub Marks : State → State → Type 0
Marks old new = GoesOn old new old.now (old.marks ++ mark_of old ∷ [])

-- the newest savepoint is dropped, and what was written since stays
abbrev pub Drops : State → State → Type 0
Drops old new = GoesOn old new old.now (take (length old.marks - 1) old.marks)

-- the transaction is as it was at the newest savepoint, which stays
abbrev pub GoesBack : State → State → Type 0
GoesBack old new = (older : List Savepoint) (mark : Savepoint) → old.marks ≡ older ++ mark ∷ [] → GoesOn old new mark.db old.marks

module _ {S : Type 0} (g : Ghosts S) where
  -- what the store shows, as a connection that is inside a transaction over the tables of a store
  abbrev pub state : S → State
  state s = record {
    now = database (g.view s).trees;
    committed = database (g.view s).committed;
    in_transaction = true;
    marks = saved_in (g.view s);
    is_open = (g.view s).is_open;
    is_clean = (g.view s).is_clean;
    faults = g.faults s;
    blamed = g.blamed s;
    changes = 0;
    last_rowid = pos 0;
    step_limit = None;
    may_leave = g.recovers s;
    IsShielded = g.is_shielded s;
  }

  -- the trees are numbered as they are listed
  abbrev pub IsNumbered : S → Type 0
  IsNumbered s = HasCleanDisk (state s) → IsTrue (g.view s).is_numbered

  abbrev pub tables_of : S → Tables
  tables_of s = tables_in (g.view s).trees

  -- the disk has been honest so far, and no failure of it has shut the store
  abbrev pub IfServing : S → Type 0 → Type 0
  IfServing s P = IsClean (g.view s) → IsTrue (g.view s).is_open → P

  -- nothing was committed, and each savepoint stands
  pub record Keeps (old new : S) : Type 0 where
    pub commit : KeepsCommit (state old) (state new)
    pub marks : IsTrue (state new).is_open → (state new).marks ≡ (state old).marks
    pub numbered : (g.view new).is_numbered ≡ (g.view old).is_numbered

  -- what holds of a store of rows where no call has failed
  abbrev pub AreRows : S → Option ℤ → Type 0
  AreRows s last = IfServing s (IsUnder (g.view s) last)

  -- what holds of it also after a call that failed
  abbrev pub AreBehind : S → Option ℤ → Type 0
  AreBehind s last = IfServing s (IsBehind (g.view s) last)

  -- no row stands between the two entries
  abbrev pub HasGap : S → Row → Row → Type 0
  HasGap s low high = IfServing s (IsGap low high (tables_of s).rows)

  -- what holds of it between calls
  pub record IsHeld (s : S) (last : Option ℤ) (low high : Row) (failed : Bool) : Type 0 where
    pub behind : AreBehind s last
    pub rows : failed ≡ false → AreRows s last
    pub gap : failed ≡ false → HasGap s low high

  -- a change of the tables inside the transaction
  pub record Makes (change : Tables → Tables) (old new : S) : Type 0 where
    pub was_open : IsTrue (g.view old).is_open
    pub is_open : IsTrue (g.view new).is_open
    pub made : tables_of new ≡ change (tables_of old)

  -- the store is open and sees these trees, which it had before, and there is no savepoint
  pub record Shows (old new : S) (now committed : Trees) : Type 0 where
    pub was_open : IsTrue (g.view old).is_open
    pub is_open : IsTrue (g.view new).is_open
    pub now_is : (g.view new).trees ≡ now
    pub committed_is : (g.view new).committed ≡ committed
    pub unmarked : (state new).marks ≡ []
