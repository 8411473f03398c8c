-- What the types of a borrowed item's parts say of it: numbers are within their width, and names
-- are UTF-8. PostgreSQL documentation, Logical Replication Message Formats, Relation, Truncate.
use Rattle.std.specs.Prelude.{◌≡◌, ◌<◌, ◌^◌, ℕ, List, true, FitsSigned}
use Rattle.std.specs.Int.{w32}
use Rattle.std.specs.List.{AllByRecursion}
use Rattle.std.specs.Str.{is_utf8}
use Rattle.pglogical.specs.declared.message.Column.{Column}

abbrev pub IsTypedColumn : Column → Type 0
IsTypedColumn c = (is_utf8 c.name ≡ true) × (c.type_oid < 2 ^ 32) × FitsSigned w32 c.modifier

abbrev pub AreTypedColumns : List Column → Type 0
AreTypedColumns columns = AllByRecursion IsTypedColumn columns

abbrev pub AreNumbers : List ℕ → Type 0
AreNumbers oids = AllByRecursion (λ oid. oid < 2 ^ 32) oids
