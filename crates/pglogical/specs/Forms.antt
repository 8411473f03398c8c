-- What borrowed columns and OIDs are made of: a list that someone owns, or the bytes that encode
-- it. PostgreSQL documentation, Logical Replication Message Formats, Relation, Truncate.
use Rattle.std.specs.Prelude.{ℕ, List}
use Rattle.pglogical.specs.declared.message.Column.{Column}
use Rattle.pglogical.specs.declared.column_refs.Columns.{Columns}
use Rattle.pglogical.specs.declared.column_refs.Columns.TheVariants as columns
use Rattle.pglogical.specs.declared.oid_refs.Oids.{Oids}
use Rattle.pglogical.specs.declared.oid_refs.Oids.TheVariants as oids
use Rattle.pglogical.specs.Reading.{oids_in}

abbrev pub columns_of : Columns → List Column
columns_of (columns.Owned list) = list.now
columns_of (columns.Spelled list) = list

abbrev pub oids_of : Oids → List ℕ
oids_of (oids.Owned list) = list.now
oids_of (oids.Spelled bytes) = oids_in bytes.now
