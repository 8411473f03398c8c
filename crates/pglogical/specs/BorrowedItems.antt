-- The item that is borrowed, by its parts. PostgreSQL documentation, Logical Replication Message
-- Formats, Relation, Insert, Update, Delete, Truncate.
use Rattle.pglogical.specs.declared.message.RelationDef.{RelationDef}
use Rattle.pglogical.specs.declared.message.Item.{Item}
use Rattle.pglogical.specs.declared.message.Item.TheVariants as owned
use Rattle.pglogical.specs.declared.message_ref.DefRef.{DefRef}
use Rattle.pglogical.specs.declared.message_ref.ItemParts.{ItemParts}
use Rattle.pglogical.specs.declared.message_ref.ItemParts.TheVariants as borrowed

abbrev pub def_value : DefRef → RelationDef
def_value d = record { oid = d.oid; namespace = d.namespace.now; name = d.name.now; letter = d.letter; columns = d.columns }

abbrev pub item_value : ItemParts → Item
item_value (borrowed.Relation def) = owned.Relation (def_value def)
item_value (borrowed.Insert oid row) = owned.Insert oid row
item_value (borrowed.Update oid prior row) = owned.Update oid prior row
item_value (borrowed.Delete oid kind row) = owned.Delete oid kind row
item_value (borrowed.Truncate options oids) = owned.Truncate options oids
