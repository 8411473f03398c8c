-- What of a load has come, and what its store has of it.
-- PostgreSQL documentation, COPY, File Formats, Text Format.
use Rattle.std.specs.Prelude.{◌≡◌, ◌≢◌, ◌<◌, ◌≤◌, ◌⊎◌, ⊤, ℕ, List, [], ◌∷◌, ◌++◌, take, length}
use Rattle.std.specs.Prelude.{Option, Some, None, Result, Ok, Err}
use Rattle.std.specs.FinMap as map
use Rattle.std.specs.List.{AllByRecursion, flat_map}
use Rattle.pgtuple.specs.declared.cell.Cell.{Cell}
use Rattle.pgtuple.specs.Cells.{tuple_spelling}
use Rattle.pgtuple.specs.Limits.{IsWireTuple}
use Rattle.pglogical.specs.declared.message.RelationDef.{RelationDef}
use Rattle.pgcopy.specs.Reading.{End, Open, Marked, Fails, with_rows, copy_reading}
use Rattle.pgcopy.specs.Copied.{Copied, reading_behind}
use Rattle.pgapply.specs.declared.fault.StoreFault.TheVariants.{Refused}
use Rattle.pgapply.specs.Value.{Tables}
use Rattle.pgapply.specs.Stored.{IsFault}
use Rattle.pgapply.specs.Apply.{Change, fold_changes}
use Rattle.pgload.specs.declared.fault.LoadFault.{LoadFault}
use Rattle.pgload.specs.declared.fault.LoadFault.TheVariants.{Line, Marker, CutLine, Order}
use Rattle.pgload.specs.declared.fault.LoadFault.TheVariants.{TooManyBatches, BadPoint, NotNew}
use Rattle.pgload.specs.declared.fault.LoadFault.TheVariants.{Store, BadInput, Wire, Memory}
use Rattle.pgsub_core.specs.Server.History.{tables_as_of}
use Rattle.pgload.specs.Loads.{TableText, format_of, text_reading, rows_of, IsWholeText, inserts}
use Rattle.pgload.specs.Loads.{load_changes, load_transaction}

-- Below each LSN of a server: its log begins with the second segment, and a segment has a megabyte
-- at least. PostgreSQL documentation, WAL Internals; initdb, --wal-segsize.
abbrev pub most_parts : ℕ
most_parts = 1048575

-- ---- what has come

-- the tables whose texts have ended, and the one whose text goes on
pub record Come : Type 0 where
  pub ended : List TableText
  pub going : Option TableText

abbrev pub with_going : List TableText → Option TableText → List TableText
with_going ended None = ended
with_going ended (Some table) = ended ++ table ∷ []

abbrev pub all_tables : Come → List TableText
all_tables come = with_going come.ended come.going

abbrev pub with_text : TableText → List ℕ → TableText
with_text table piece = record { definition = table.definition; text = table.text ++ piece }

-- a table begins; bytes of its text come; its text ends
pub data Part : Type 0 where
  Begins : (definition : RelationDef) → Part
  Text : (piece : List ℕ) → Part
  Ends : Part

-- with a part more, or None where it may not come there
abbrev pub after_part : List TableText → Option TableText → Part → Option Come
after_part ended None (Begins def) = Some (record { ended = ended; going = Some (record { definition = def; text = [] }) })
after_part ended None (Text piece) = None
after_part ended None Ends = None
after_part ended (Some table) (Begins def) = None
after_part ended (Some table) (Text piece) = Some (record { ended = ended; going = Some (with_text table piece) })
after_part ended (Some table) Ends = Some (record { ended = ended ++ table ∷ []; going = None })

abbrev pub come_after : Come → Part → Option Come
come_after come part = after_part come.ended come.going part

abbrev pub nothing_came : Come
nothing_came = record { ended = []; going = None }

-- the bytes that were taken of a piece
abbrev pub taken_of : Option ℕ → List ℕ → List ℕ
taken_of None piece = piece
taken_of (Some taken) piece = take taken piece

-- ---- a table's text

-- these bytes encode these rows, one after the other
pub record AreRowsIn (bytes : List ℕ) (rows : List (List Cell)) : Type 0 where
  pub spelled : bytes ≡ flat_map tuple_spelling rows
  pub wire : AllByRecursion IsWireTuple rows

-- the table whose text goes on: its definition, what reads its text, and the rows that wait
pub record Opened : Type 0 where
  pub definition : RelationDef
  pub reader : Copied
  pub rows : List ℕ

-- Of the rows of the text these are stored, and those wait; whatever comes behind it, it says these
-- rows and then what is read from here.
pub record IsReadTo (max_line : ℕ) (table : TableText) (opened : Opened) (stored waiting : List (List Cell)) : Type 0 where
  pub definition : opened.definition ≡ table.definition
  pub reads : (more : List ℕ) → copy_reading (format_of max_line table.definition) (table.text ++ more)
      ≡ with_rows (stored ++ waiting) (reading_behind opened.reader more)
  pub buffer : AreRowsIn opened.rows waiting

-- ---- faults

-- what a text has come to that has the marker
abbrev pub HasMarker : End → Type 0
HasMarker end = (others : List ℕ) × (end ≡ Marked others)

-- The first fault of this table's text; or, where the store serves, the one that its changes have
-- behind these others, or the store's own.
abbrev pub IsFaultOf : ℕ → Type 0 → Type 0 → List Change → TableText → LoadFault → Type 0
IsFaultOf max_line Serves Full before table (Line oid number reason) =
    (oid ≡ table.definition.oid) × ((text_reading max_line table).end ≡ Fails number reason)
IsFaultOf max_line Serves Full before table (Marker oid) = (oid ≡ table.definition.oid) × HasMarker (text_reading max_line table).end
IsFaultOf max_line Serves Full before table (CutLine oid) = (oid ≡ table.definition.oid) × ((text_reading max_line table).end ≢ Open [])
IsFaultOf max_line Serves Full before table Order = ⊥
IsFaultOf max_line Serves Full before table TooManyBatches = Full
IsFaultOf max_line Serves Full before table BadPoint = ⊥
IsFaultOf max_line Serves Full before table NotNew = ⊥
IsFaultOf max_line Serves Full before table BadInput = ⊥
IsFaultOf max_line Serves Full before table (Wire fault) = ⊥
IsFaultOf max_line Serves Full before table (Store fault) =
    Serves → IsFault fault (fold_changes map.empty (before ++ inserts table.definition (rows_of max_line table)))
IsFaultOf max_line Serves Full before table Memory = ⊤

-- why the load can't end, where the store serves
abbrev pub IsEndFault : Type 0 → Option TableText → ℕ → LoadFault → Type 0
IsEndFault Serves going point (Line oid number reason) = ⊥
IsEndFault Serves going point (Marker oid) = ⊥
IsEndFault Serves going point (CutLine oid) = ⊥
IsEndFault Serves going point Order = going ≢ None
IsEndFault Serves going point TooManyBatches = ⊥
IsEndFault Serves going point BadPoint = point ≤ most_parts
IsEndFault Serves going point NotNew = ⊥
IsEndFault Serves going point BadInput = ⊥
IsEndFault Serves going point (Wire fault) = ⊥
IsEndFault Serves going point (Store fault) = Serves → fault ≡ Refused
IsEndFault Serves going point Memory = ⊤

-- ---- the store

module _ {C : Type 0} (holds : C → Tables → Type 0) (place : C → ℕ) (reopens : C → C → Type 0) (serves is_honest : C → Type 0) where
  -- It, and whatever a crash leaves of it, is at the end of no history, and so told from one whose
  -- load has ended.
  pub record IsUnderWay (store : C) : Type 0 where
    pub part : place store ≤ most_parts
    pub leaves : is_honest store → (other : C) → reopens store other → place other ≤ most_parts

  -- it holds what these changes make of no tables
  pub record HasTaken (changes : List Change) (store : C) : Type 0 where
    pub under_way : IsUnderWay store
    pub made : serves store → (tables : Tables) × (fold_changes map.empty changes ≡ Ok tables) × holds store tables

  -- a table's text goes on, behind these changes
  pub record IsLoading (max_line : ℕ) (before : List Change) (table : TableText) (store : C) (opened : Opened) : Type 0 where
    pub stored : List (List Cell)
    pub waiting : List (List Cell)
    pub read : IsReadTo max_line table opened stored waiting
    pub taken : HasTaken (before ++ inserts table.definition stored) store

  abbrev pub Stands : ℕ → List TableText → Option TableText → C → Option Opened → Type 0
  Stands max_line ended None store None = HasTaken (load_changes max_line ended) store
  Stands max_line ended None store (Some opened) = ⊥
  Stands max_line ended (Some table) store None = ⊥
  Stands max_line ended (Some table) store (Some opened) = IsLoading max_line (load_changes max_line ended) table store opened

  -- This has come of a load, and it goes on.
  pub record HasCome (max_line : ℕ) (come : Come) (store : C) (opened : Option Opened) (closed : Option LoadFault) : Type 0 where
    pub going_on : closed ≡ None
    pub whole : AllByRecursion (IsWholeText max_line) come.ended
    pub stands : Stands max_line come.ended come.going store opened

  -- it stops at this text, behind these changes
  pub record TextStops (max_line : ℕ) (before : List Change) (table : TableText) (store : C) (fault : LoadFault) : Type 0 where
    pub under_way : IsUnderWay store
    pub why : IsFaultOf max_line (serves store) (most_parts ≤ place store) before table fault

  -- it stops at the last of these tables; those before it are whole
  pub record Stops (max_line : ℕ) (tables : List TableText) (store : C) (fault : LoadFault) : Type 0 where
    pub earlier : List TableText
    pub last : TableText
    pub parts : tables ≡ earlier ++ last ∷ []
    pub whole : AllByRecursion (IsWholeText max_line) earlier
    pub stops : TextStops max_line (load_changes max_line earlier) last store fault

  -- what a part makes of a load
  abbrev pub Goes : ℕ → Option Come → C → Option Opened → Option LoadFault → Result (Unit {0}) LoadFault → Type 0
  Goes max_line (Some come) store opened closed (Ok done) = HasCome max_line come store opened closed
  Goes max_line (Some come) store opened closed (Err fault) = Stops max_line (all_tables come) store fault
  Goes max_line None store opened closed (Ok done) = ⊥
  Goes max_line None store opened closed (Err fault) = (fault ≡ Order) × IsUnderWay store

  -- The store holds these tables, as the one transaction has them that ends at the point.
  pub record HasLoaded (max_line : ℕ) (tables : List TableText) (point : ℕ) (store : C) : Type 0 where
    pub position : place store ≡ point
    pub made : serves store → (loaded : Tables) × (tables_as_of (load_transaction max_line tables point ∷ []) point ≡ Ok loaded)
        × holds store loaded

  -- The load has ended: the store is at the point, and holds these tables; what a crash leaves is
  -- so too, or under way.
  pub record IsAtEnd (max_line : ℕ) (come : Come) (point : ℕ) (store : C) : Type 0 where
    pub all : come.going ≡ None
    pub whole : AllByRecursion (IsWholeText max_line) come.ended
    pub loaded : HasLoaded max_line come.ended point store
    pub served : is_honest store → serves store
    pub above : most_parts < point
    pub leaves : is_honest store → (other : C) → reopens store other
        → (place other ≤ most_parts) ⊎ HasLoaded max_line come.ended point other

  -- It hasn't: the store is under way. A crash may leave all of the load, though, where the store
  -- couldn't tell that it is stored.
  pub record IsBadEnd (max_line : ℕ) (come : Come) (point : ℕ) (store : C) (fault : LoadFault) : Type 0 where
    pub part : place store ≤ most_parts
    pub why : IsEndFault (serves store) come.going point fault
    pub leaves : is_honest store → (other : C) → reopens store other
        → (place other ≤ most_parts) ⊎ HasLoaded max_line come.ended point other

  -- Of whatever a crash leaves: it is told from one whose load has ended, or is one.
  abbrev pub LeavesNoPart : ℕ → C → Type 0
  LeavesNoPart max_line store = is_honest store → (other : C) → reopens store other
      → (place other ≤ most_parts) ⊎ ((tables : List TableText) × HasLoaded max_line tables (place other) other)

-- so many bytes of rows wait at most
abbrev pub IsBounded : ℕ → Option Opened → Type 0
IsBounded batch None = ⊤
IsBounded batch (Some opened) = length opened.rows ≤ batch
