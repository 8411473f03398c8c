-- What a dump gives, row by row in the order of the index.
use Rattle.std.specs.Prelude.{◌≡◌, ◌++◌, ℕ, ℤ, ⊤, pos, List, [], ◌∷◌, filter, slice_get, unwrap_or}
use Rattle.std.specs.Prelude.{Option, Some, MatchOption}
use Rattle.std.specs.FinMap.{get}
use Rattle.sqlite.specs.Order.{Row, column, bytes}
use Rattle.sqlite.specs.Tree.{Trees, has_rowid}
use Rattle.sqlite_rules.specs.Edit.{id_in}
use Rattle.sqlite_rules.specs.Lists.{Has}
use Rattle.pgtables.specs.Kept.{Definition, Tables, copies_in, number_in, rel_row, tables_in}
use Rattle.pgtables.specs.DumpOrder.{dump_of, shown_at}

-- the key in an entry of the index
abbrev pub key_at : Row → List ℕ
key_at e = number_in (column e 0) ∷ bytes (column e 1)

-- the row of an entry, by its rowid
abbrev pub row_at : List Row → Row → Row
row_at rows e = unwrap_or (slice_get (filter (has_rowid (id_in (column e 2))) rows) 0) []

-- what is shown of it
abbrev pub shown_by : Trees → Row → Row
shown_by db e = shown_at (tables_in db) (key_at e) (copies_in (row_at (db 1) e))

-- the row is the definition of this relation
abbrev pub Defines : Trees → Row → ℤ → Type 0
Defines db r n = (o : ℕ) × (d : Definition) × (n ≡ pos o) × (get (tables_in db).defined o ≡ Some d) × (r ≡ rel_row o d)

-- the same, where the relation is known
abbrev pub DefinesKnown : Trees → Row → Option ℤ → Type 0
DefinesKnown db r known = MatchOption known ⊤ (Defines db r)

-- what was given, behind what was taken before, is a front of the dump
abbrev pub GivesFront : Tables → (List Row → Type 0) → (List Row → Type 0) → Type 0
GivesFront t old new = (done : List Row) × (left : List Row) × (dump_of t ≡ done ++ left)
    × ((before : List Row) → old before → new (before ++ done))

-- all of the dump was given
abbrev pub GivesAll : Tables → (List Row → Type 0) → (List Row → Type 0) → Type 0
GivesAll t old new = (before : List Row) → old before → new (before ++ dump_of t)

-- it was left at a row of the dump
abbrev pub LeavesAt : Tables → (Row → Type 0) → Type 0
LeavesAt t left_at = (row : Row) × Has (dump_of t) row × left_at row
