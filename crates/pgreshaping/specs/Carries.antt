-- What is done to the rows of a relation that comes with another shape, inside a transaction.
use Rattle.std.specs.Prelude.{◌≡◌, ◌≢◌, ◌⊎◌, ◌<◌, ◌≤◌, ◌+◌, ◌∷◌, ℕ, Bool, List, length, map, true}
use Rattle.std.specs.Prelude.{false, T, Some, Ok, option_map}
use Rattle.std.specs.List.{AllByRecursion}
use Rattle.std.specs.Ordering.{nat_cmp}
use Rattle.std.specs.Cmp.Lexicographic.{slice_cmp}
use Rattle.std.specs.FinMap as finite
use Rattle.std.specs.FinMap.{find, is_sorted}
use Rattle.sqlite.specs.Store.{Ghosts}
use Rattle.sqlite.specs.State.{HasCleanDisk}
use Rattle.pgtuple.specs.Cells.{tuple_spelling}
use Rattle.pgtuple.specs.Limits.{IsWireTuple}
use Rattle.pglogical.specs.declared.message.Column.{Column}
use Rattle.pglogical.specs.declared.message.RelationDef.{RelationDef}
use Rattle.pglogical.specs.Spelling.{IsDefinition}
use Rattle.pgrel.specs.Identity.{keyed, has_unchanged}
use Rattle.pgtables.specs.Kept as stored
use Rattle.pgrows.specs.Rows.{Makes, state, tables_of}
use Rattle.pgapply.specs.declared.op.Op.{Op}
use Rattle.pgapply.specs.declared.fault.StoreFault.{StoreFault}
use Rattle.pgapply.specs.declared.fault.StoreFault.TheVariants.{Clash, TooManyCopies}
use Rattle.pgapply.specs.Value.{Row, Rows, Tables, identity_key, most_copies}
use Rattle.pgapply.specs.Apply.{joined, carry_row, carry_rows, found_rows}
use Rattle.pgapply.specs.Stored.{IsFault, IsOwnFault}
use Rattle.pgencoded.specs.Spelled.{IsChanging, IsStored, spelled_definition, spelled_row}
use Rattle.pgencoded.specs.Acts.{Goes, GoesOpen, MakesOf}
use Rattle.pgreshaping.specs.Parks.{StaysBeside}

-- ---- rows that join others

-- a row that comes with its copies, and its encodings
pub record IsCarriedRow (def : RelationDef) (row : Row) (place body : List ℕ) (copies : ℕ) : Type 0 where
  pub place_is : place ≡ identity_key def row.cells
  pub body_is : body ≡ tuple_spelling row.cells
  pub copies_is : copies ≡ row.copies
  pub tuple : IsWireTuple row.cells
  pub width : length row.cells ≡ length def.columns
  pub sent : has_unchanged row.cells ≡ false
  pub some : 1 ≤ row.copies
  pub few : row.copies ≤ most_copies

-- copies join those of a row of a bag
pub record JoinsCopies {S : Type 0} (g : Ghosts S) (def : RelationDef) (place body : List ℕ) (copies : ℕ) (there : stored.Copies)
    (old new : S) : Type 0 where
  pub bag : keyed def ≡ false
  pub few : there.copies + copies ≤ most_copies
  pub made : Makes g (stored.with_row def.oid place (record { body = body; copies = there.copies + copies })) old new

abbrev pub RefusesCopies : RelationDef → ℕ → stored.Copies → StoreFault → Type 0
RefusesCopies def copies there fault =
    IsOwnFault fault ⊎ (((fault ≡ Clash) × (keyed def ≡ true))
    ⊎ ((fault ≡ TooManyCopies) × (keyed def ≡ false) × (most_copies < there.copies + copies)))

-- a row joins those that are there, whatever is parked under another OID
pub record Joins {S : Type 0} (g : Ghosts S) (old new : S) (def : RelationDef) (place body : List ℕ) (copies : ℕ) : Type 0 where
  pub goes : GoesOpen g old new
  pub beside : StaysBeside def.oid (tables_of g old) (tables_of g new)
  pub made : (row : Row) → IsCarriedRow def row place body copies → (park : ℕ) → park ≢ def.oid → (v : Tables) (rows : Rows)
      → IsChanging v def rows (stored.without_rows park (tables_of g old))
      → MakesOf v def (joined def row rows (finite.get rows (identity_key def row.cells))) (stored.without_rows park (tables_of g new))

abbrev pub RefusesToJoin : {S : Type 0} → Ghosts S → S → RelationDef → List ℕ → List ℕ → ℕ → StoreFault → Type 0
RefusesToJoin g old def place body copies e =
    (row : Row) → IsCarriedRow def row place body copies → (park : ℕ) → park ≢ def.oid → (v : Tables) (rows : Rows)
    → IsChanging v def rows (stored.without_rows park (tables_of g old))
    → IsFault e (joined def row rows (finite.get rows (identity_key def row.cells)))

-- ---- rows that are carried

-- a row as it is stored under its old definition
pub record IsKeptRow (def : RelationDef) (row : Row) (kept : stored.Copies) : Type 0 where
  pub is : kept ≡ spelled_row row
  pub tuple : IsWireTuple row.cells
  pub width : length row.cells ≡ length def.columns
  pub sent : has_unchanged row.cells ≡ false
  pub some : 1 ≤ row.copies
  pub few : row.copies ≤ most_copies

-- all rows under an OID, by identity, as they are stored under their old definition
pub record AreKept (def : RelationDef) (oid : ℕ) (entries : List (List ℕ × Row)) (t : stored.Tables) : Type 0 where
  pub rises : T (is_sorted (slice_cmp nat_cmp) entries)
  pub each : (place : List ℕ)
      → finite.get t.rows (oid ∷ place) ≡ option_map spelled_row (find (slice_cmp nat_cmp) place entries)
  pub rows : AllByRecursion (λ (e : List ℕ × Row). IsKeptRow def e.1 (spelled_row e.1)) entries

-- one row is carried, whatever is parked under another OID
pub record CarriesOne {S : Type 0} (g : Ghosts S) (old new : S) (before def : RelationDef) (kept : stored.Copies) : Type 0 where
  pub goes : GoesOpen g old new
  pub beside : StaysBeside def.oid (tables_of g old) (tables_of g new)
  pub made : (row : Row) → IsKeptRow before row kept → (park : ℕ) → park ≢ def.oid → (v : Tables) (rows : Rows)
      → IsChanging v def rows (stored.without_rows park (tables_of g old))
      → MakesOf v def (carry_row before def row rows) (stored.without_rows park (tables_of g new))

abbrev pub RefusesToCarryOne : {S : Type 0} → Ghosts S → S → RelationDef → RelationDef → stored.Copies → StoreFault → Type 0
RefusesToCarryOne g old before def kept e =
    (row : Row) → IsKeptRow before row kept → (park : ℕ) → park ≢ def.oid → (v : Tables) (rows : Rows)
    → IsChanging v def rows (stored.without_rows park (tables_of g old))
    → IsFault e (carry_row before def row rows)

-- rows that were parked have been carried, and these are left
pub record Carried (v : Tables) (before def : RelationDef) (park : ℕ) (entries : List (List ℕ × Row)) (start : Rows)
    (t : stored.Tables) : Type 0 where
  pub left : List (List ℕ × Row)
  pub rows : Rows
  pub parked : AreKept before park left t
  pub same : carry_rows before def entries start ≡ carry_rows before def left rows
  pub changing : IsChanging v def rows (stored.without_rows park t)

module _ {S : Type 0} (g : Ghosts S) (old new : S) (before def : RelationDef) (park : ℕ) where
  -- what a loop over the parked rows keeps
  pub record CarriesOn : Type 0 where
    pub goes : Goes g old new
    pub made : HasCleanDisk (state g new) → (v : Tables) (entries : List (List ℕ × Row)) (start : Rows)
        → IsChanging v def start (stored.without_rows park (tables_of g old)) → AreKept before park entries (tables_of g old)
        → Carried v before def park entries start (tables_of g new)

  -- all rows that were parked are carried, and none is parked any more
  abbrev pub CarriesAll : Type 0
  CarriesAll =
      GoesOpen g old new × ((v : Tables) (entries : List (List ℕ × Row)) (start : Rows)
      → IsChanging v def start (stored.without_rows park (tables_of g old)) → AreKept before park entries (tables_of g old)
      → MakesOf v def (carry_rows before def entries start) (tables_of g new))

abbrev pub RefusesToCarry : {S : Type 0} → Ghosts S → S → RelationDef → RelationDef → ℕ → StoreFault → Type 0
RefusesToCarry g old before def park e =
    (v : Tables) (entries : List (List ℕ × Row)) (start : Rows)
    → IsChanging v def start (stored.without_rows park (tables_of g old)) → AreKept before park entries (tables_of g old)
    → IsFault e (carry_rows before def entries start)

-- ---- a definition in another's place

abbrev pub flags_and_names : List Column → List (Bool × List ℕ)
flags_and_names columns = map (λ (c : Column). (c.key, c.name)) columns

-- the columns that were read are the stored ones, by key flag and name
pub record IsReadAs (there : stored.Definition) (def before : RelationDef) : Type 0 where
  pub letter : before.letter ≡ def.letter
  pub columns : (old : RelationDef) → IsDefinition old → there ≡ spelled_definition old
      → flags_and_names before.columns ≡ flags_and_names old.columns

-- the relation has the definition and no rows
abbrev pub emptied : RelationDef → List ℕ → stored.Tables → stored.Tables
emptied def columns t = stored.without_rows def.oid
    (stored.with_definition def.oid (record { namespace = def.namespace; name = def.name; letter = def.letter; columns = columns }) t)

abbrev pub Empties : {S : Type 0} → Ghosts S → RelationDef → List ℕ → S → S → Type 0
Empties g def columns = Makes g (emptied def columns)

-- the relation has the definition, and its rows are carried over to it
abbrev pub CarriesTable : {S : Type 0} → Ghosts S → S → S → RelationDef → RelationDef → List ℕ → Type 0
CarriesTable g old new before def columns =
    GoesOpen g old new × ((v : Tables) (entries : List (List ℕ × Row))
    → IsChanging v def finite.empty (emptied def columns (tables_of g old)) → AreKept before def.oid entries (tables_of g old)
    → MakesOf v def (carry_rows before def entries finite.empty) (tables_of g new))

abbrev pub RefusesTable : {S : Type 0} → Ghosts S → S → RelationDef → RelationDef → List ℕ → StoreFault → Type 0
RefusesTable g old before def columns e =
    (v : Tables) (entries : List (List ℕ × Row)) → IsChanging v def finite.empty (emptied def columns (tables_of g old))
    → AreKept before def.oid entries (tables_of g old)
    → IsFault e (carry_rows before def entries finite.empty)

-- the definition takes the place of the stored one, and the relation has the rows that the change
-- finds
abbrev pub GivesAnew : {S : Type 0} → Ghosts S → S → S → stored.Definition → RelationDef → Op → Type 0
GivesAnew g old new there def op =
    GoesOpen g old new × ((v : Tables) → IsStored v (tables_of g old) → finite.get (tables_of g old).defined def.oid ≡ Some there
    → (rows : Rows) × (found_rows (finite.get v def.oid) def op ≡ Ok rows) × IsChanging v def rows (tables_of g new))

abbrev pub RefusesAnew : {S : Type 0} → Ghosts S → S → stored.Definition → RelationDef → Op → StoreFault → Type 0
RefusesAnew g old there def op e =
    (v : Tables) → IsStored v (tables_of g old) → finite.get (tables_of g old).defined def.oid ≡ Some there
    → IsFault e (found_rows (finite.get v def.oid) def op)
