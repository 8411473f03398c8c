-- The column that is borrowed.
-- PostgreSQL documentation, Logical Replication Message Formats, Relation.
use Rattle.pglogical.specs.declared.message.Column.{Column}
use Rattle.pglogical.specs.declared.column_refs.ColumnRef.{ColumnRef}

abbrev pub column_value : ColumnRef → Column
column_value c = record { key = c.key; name = c.name.now; type_oid = c.type_oid; modifier = c.modifier }
