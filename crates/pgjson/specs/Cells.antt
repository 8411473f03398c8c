-- PostgreSQL documentation, Logical Replication Message Formats, TupleData: cells in JSON.
use Rattle.std.specs.Prelude.{ℕ, List, map, true, codes}
use Rattle.hex.specs.Hex.{encode_lower}
use Rattle.serde_json.specs.Data.{Data, null, boolean, string, array, object, member, no_members}
use Rattle.serde_json.specs.View.{items_of}
use Rattle.pgtuple.specs.declared.cell.Cell.{Cell}
use Rattle.pgtuple.specs.declared.cell.Cell.TheVariants.{Null, Unchanged, Text, Binary}

abbrev pub list : List Data → Data
list items = array (items_of items)

abbrev pub hex_data : List ℕ → Data
hex_data bytes = object (member (codes "hex") (string (encode_lower bytes)) no_members)

-- a text is a string, and binary data is in hexadecimal
abbrev pub cell_data : Cell → Data
cell_data Null = null
cell_data Unchanged = object (member (codes "unchanged") (boolean true) no_members)
cell_data (Text bytes) = string bytes
cell_data (Binary bytes) = hex_data bytes

abbrev pub cells_data : List Cell → Data
cells_data cells = list (map cell_data cells)
