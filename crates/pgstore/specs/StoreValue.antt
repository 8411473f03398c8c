-- What a caller sees of a store, and what holds of each.
use Rattle.std.specs.Prelude.{◌≡◌, ◌<◌, ◌≤◌, ◌^◌, ℕ, Bool, true, false, not, ◌&&◌}
use Rattle.std.specs.Prelude.{if◌then◌else◌, ◌==◌, List, IsTrue, Ok}
use Rattle.std.specs.Prelude.{refl}
use Rattle.std.specs.Coded.{Coded, code_by, coded×, coded_bool, coded_option, coded_ℕ}
use Rattle.std.specs.Int.{w64, to_be_bytes}
use Rattle.sqlite.specs.Tree.{Trees}
use Rattle.sqlite.specs.Store.{Ghosts}
use Rattle.sqlite.specs.Held as connection
use Rattle.sqlite.specs.Held.{Held}
use Rattle.sqlite.specs.State.{HasCleanDisk, State}
use Rattle.pgtables.specs.Schema.{no_schema}
use Rattle.pgtables.specs.Kept as stored
use Rattle.pgtables.specs.Kept.{IsKept}
use Rattle.pgrows.specs.Rows.{IfServing, state, tables_of}
use Rattle.pgapply.specs.declared.fault.StoreFault.{StoreFault}
use Rattle.pgapply.specs.Value.{Tables}
use Rattle.pgapply.specs.Apply.{Change, fold_changes}
use Rattle.pgapply.specs.Stored.{Stored, IsFault}
use Rattle.pgapply.specs.Tallies.{Tally, nothing_taken}
use Rattle.pgencoded.specs.Acts.{committed_of}
use Rattle.pgencoded.specs.Spelled.{IsStored}
use Rattle.pgencoded.specs.DatabaseValue.{AreOf, IsValueOf, nothing_stored}
use Rattle.pgstore.specs.Codes.{tally_code}
use Rattle.pgstore.specs.Staged.{before_of}

-- the commits that are staged behind the last one that was taken
pub record Group : Type 0 where
  -- the end LSN of the last of them, else the position
  pub reach : ℕ
  -- they are lost, and what the transaction shows says nothing
  pub is_lost : Bool
  -- the commits that were taken since the store was opened, and these with those that are staged
  pub tally : Tally
  pub stages_tally : Tally

-- what becomes of a group: nothing was staged or taken yet, it is forgotten, has one commit more,
-- is lost, is taken, or a commit by itself was
abbrev pub begun_at : ℕ → Group
begun_at position = record { reach = position; is_lost = false; tally = nothing_taken; stages_tally = nothing_taken }

abbrev pub unstaged_of : ℕ → Group → Group
unstaged_of position a = record { reach = position; is_lost = false; tally = a.tally; stages_tally = a.tally }

abbrev pub staged_of : ℕ → Tally → Group → Group
staged_of end tally a = record a { reach = end; stages_tally = tally }

abbrev pub lost_of : Group → Group
lost_of a = record a { is_lost = true }

-- a commit was refused: where that lost what was staged before it, the group is lost
abbrev pub refused_of : Bool → Bool → Group → Group
refused_of is_lost is_first a = if is_lost && not is_first then lost_of a else a

abbrev pub settled_of : Group → Group
settled_of a = record a { is_lost = false; tally = a.stages_tally }

abbrev pub taken_of : ℕ → Tally → Group
taken_of end tally = record { reach = end; is_lost = false; tally = tally; stages_tally = tally }

-- the store of its rows, its position, and what is staged
pub record StoreValue (S : Type 0) : Type 0 where
  pub rows : S
  pub position : ℕ
  pub group : Group

-- a store is stored as the tuple of its parts
abbrev pub group_code : Coded Group
group_code =
    code_by (ℕ × (Bool × (Tally × Tally))) (coded× coded_ℕ (coded× coded_bool (coded× tally_code tally_code)))
    (λ a. (a.reach, (a.is_lost, (a.tally, a.stages_tally))))
    (λ p. record { reach = p.0; is_lost = p.1.0; tally = p.1.1.0; stages_tally = p.1.1.1 }) (λ _. refl)

abbrev pub store_code : {S : Type 0} → Coded S → Coded (StoreValue S)
store_code {S} store =
    code_by (S × (ℕ × Group)) (coded× store (coded× coded_ℕ group_code)) (λ s. (s.rows, (s.position, s.group)))
    (λ p. record { rows = p.0; position = p.1.0; group = p.1.1 }) (λ _. refl)

-- trees at least as far as these tables: at a position that is no smaller, and with these very
-- tables where it is the same
abbrev pub IsAtLeast : Stored → Trees → Type 0
IsAtLeast v db = (w : Stored) × AreOf w db × (v.position ≤ w.position) × (w.position ≡ v.position → AreOf v db)

module _ {S : Type 0} (g : Ghosts S) where
  -- the disk has returned what was written, so far
  abbrev pub IsHonest : StoreValue S → Type 0
  IsHonest s = HasCleanDisk (state g s.rows)

  -- it has, and no failure of the disk has shut the store
  pub record Serves (s : StoreValue S) : Type 0 where
    pub honest : IsHonest s
    pub is_open : IsTrue (state g s.rows).is_open

  -- these are the tables and the position of the store: those that are committed
  pub record Holds (s : StoreValue S) (v : Stored) : Type 0 where
    pub stored : IsStored v.tables (committed_of g s.rows)
    pub position : v.position ≡ s.position

  -- they are what the store contains, and whatever a crash may leave of it contains the same
  pub record Contains (s : StoreValue S) (v : Stored) : Type 0 where
    pub holds : Holds s v
    pub left : (db : Trees) → (state g s.rows).may_leave db → AreOf v db

  -- The tables that the store has, or had when a failure of its disk shut it. While it is open it
  -- holds them, and whatever a crash may leave is at least as far, shut or not.
  pub record Keeps (s : StoreValue S) (v : Stored) : Type 0 where
    pub position : v.position ≡ s.position
    pub holds : IsTrue (state g s.rows).is_open → Holds s v
    pub left : (db : Trees) → (state g s.rows).may_leave db → IsAtLeast v db

  -- what holds of each store
  pub record IsStore (rows : S) (position : ℕ) : Type 0 where
    pub kept : IfServing g rows (IsKept (state g rows).committed)
    pub range : position < 2 ^ 64
    -- the position that is kept is the one that is stored
    pub same : IfServing g rows ((committed_of g rows).place ≡ to_be_bytes w64 position)
    pub stored : IfServing g rows ((v : Tables) × IsStored v (committed_of g rows))
    -- between calls a crash leaves what is stored
    pub crash : IfServing g rows ((db : Trees) → (state g rows).may_leave db → db ≡ (state g rows).committed.trees)
    -- and of a store that has shut nothing older
    pub keeps : HasCleanDisk (state g rows)
        → (v : Stored) × ((group : Group) → Keeps (record { rows = rows; position = position; group = group }) v)

  -- what holds of the commits that are staged, whether the calls that staged them stand or not
  pub record IsGroup (rows : S) (position : ℕ) (group : Group) : Type 0 where
    pub order : position ≤ group.reach
    pub range : group.reach < 2 ^ 64
    -- where nothing is staged, nothing is counted beside, and nothing can be lost
    pub counted : group.reach ≡ position → group.stages_tally ≡ group.tally
    pub some : group.is_lost ≡ true → position < group.reach
    -- what the transaction shows are tables of a store
    pub stored : position < group.reach → group.is_lost ≡ false → IfServing g rows ((v : Tables) × IsStored v (tables_of g rows))

  -- it holds these tables
  abbrev pub HasTables : StoreValue S → Tables → Type 0
  HasTables s tables = IsStored tables (committed_of g s.rows)

  -- with what is staged it holds these tables; a group that is lost says nothing of them
  abbrev pub Plans : StoreValue S → Tables → Type 0
  Plans s tables = s.group.is_lost ≡ false → IsStored tables (before_of g (s.group.reach == s.position) s.rows)

  -- the changes were folded over the tables, with this position
  pub record Takes (old new : StoreValue S) (changes : List Change) (end : ℕ) : Type 0 where
    pub served : Serves old
    pub serves : Serves new
    pub folds : (v : Stored) → Holds old v
        → (next : Tables) × (fold_changes v.tables changes ≡ Ok next) × Holds new (record { tables = next; position = end })

  -- nothing changed
  pub record Stays (old new : StoreValue S) : Type 0 where
    pub served : Serves old
    pub same : (v : Stored) → Holds old v → Holds new v

  -- this is the fault of the changes over the tables, or the store's own
  abbrev pub RefusesWork : StoreValue S → List Change → StoreFault → Type 0
  RefusesWork old changes fault = (v : Stored) → Holds old v → IsFault fault (fold_changes v.tables changes)

  -- what a crash may leave of a commit: the changes folded, with this position
  abbrev pub LeavesWork : StoreValue S → List Change → ℕ → Trees → Type 0
  LeavesWork old changes end db =
      IsTrue (state g old.rows).is_open
      × ((v : Stored) → Holds old v
      → (next : Tables) × (fold_changes v.tables changes ≡ Ok next) × AreOf (record { tables = next; position = end }) db)

  -- what a crash may leave of settling: all that was staged, with its end as the position
  abbrev pub LeavesGroup : StoreValue S → Trees → Type 0
  LeavesGroup old db = IsTrue (state g old.rows).is_open
      × ((v : Tables) → Plans old v → AreOf (record { tables = v; position = old.group.reach }) db)

  -- what it may leave of settling with a ledger: that, and the ledger wasn't stuck, and was synced
  -- before
  abbrev pub LeavesSynced : Bool → Type 0 → StoreValue S → Trees → Type 0
  LeavesSynced was_stuck Synced old db = LeavesGroup old db × (was_stuck ≡ false) × Synced

  -- the store holds what is stored in the tables of a connection, also where some of them are
  -- missing, and nothing at 0/0 where it has no tables
  pub record Adopts (conn : Held S) (store : StoreValue S) : Type 0 where
    pub stood : (v : Stored) → AreOf v (connection.state g conn).now.trees → Holds store v
    pub bare : (connection.state g conn).now.schema ≡ no_schema → Holds store nothing_stored
    pub value : (v : Stored) → IsValueOf v (connection.state g conn).now → Holds store v
    -- and they have a value
    pub known : (v : Stored) × IsValueOf v (connection.state g conn).now

  -- what the store shows, with the limit of steps that the connection had
  abbrev pub shown_by : Held S → StoreValue S → State
  shown_by conn s = record (state g s.rows) { step_limit = (connection.state g conn).step_limit }
