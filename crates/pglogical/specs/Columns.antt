-- Columns that are read one after the other.
-- PostgreSQL documentation, Logical Replication Message Formats, Relation.
use Rattle.std.specs.Prelude.{◌≡◌, ⊤, List, [], Ok, Err}
use Rattle.pglogical.specs.declared.message.Column.{Column}
use Rattle.pglogical.specs.Reading.{At, Read}

-- the columns that were read, none where they can't be
abbrev pub columns_read : Read (List Column) → List Column
columns_read (Ok x) = x.0
columns_read (Err f) = []

abbrev pub IsRead : Read (List Column) → Type 0
IsRead (Ok x) = ⊤
IsRead (Err f) = ⊥

-- there are columns there, and after them reading is here
abbrev pub IsReadTo : Read (List Column) → At → Type 0
IsReadTo read at = (columns : List Column) × (read ≡ Ok (columns, at))
