-- PostgreSQL documentation, Logical Replication Message Formats: messages in JSON, each an array of
-- its name and its fields. LSNs are strings, other numbers are numbers, and an xid that a message
-- doesn't have is null.
use Rattle.std.specs.Prelude.{ℕ, ℤ, List, [], ◌∷◌, map, Bool, true, false, Option, Some, None}
use Rattle.std.specs.Prelude.{codes, encode_utf8}
use Rattle.serde_json.specs.Data.{Data, null, number, unsigned, string}
use Rattle.serde_json.specs.Find.{of_integer}
use Rattle.pglsn.specs.Texts.{lsn_text}
use Rattle.pgtuple.specs.declared.cell.Cell.{Cell}
use Rattle.pglogical.specs.declared.message.Column.{Column}
use Rattle.pglogical.specs.declared.message.RelationDef.{RelationDef}
use Rattle.pglogical.specs.declared.message.OldKind.{OldKind}
use Rattle.pglogical.specs.declared.message.OldKind.TheVariants.{Key, Full}
use Rattle.pglogical.specs.declared.message.Item.{Item}
use Rattle.pglogical.specs.declared.message.Item.TheVariants.{Relation, Insert, Update, Delete}
use Rattle.pglogical.specs.declared.message.Item.TheVariants.{Truncate}
use Rattle.pglogical.specs.declared.message.Message.{Message}
use Rattle.pglogical.specs.declared.message.Message.TheVariants as message
use Rattle.pgjson.specs.Cells.{cells_data, hex_data, list}

abbrev pub natural : ℕ → Data
natural n = number (unsigned n)

abbrev pub integer : ℤ → Data
integer n = number (of_integer n)

abbrev pub bit : Bool → ℕ
bit false = 0
bit true = 1

abbrev pub lsn_data : ℕ → Data
lsn_data lsn = string (lsn_text lsn)

abbrev pub xid_data : Option ℕ → Data
xid_data None = null
xid_data (Some xid) = natural xid

-- the character of this code
abbrev pub letter_data : ℕ → Data
letter_data letter = string (encode_utf8 letter)

abbrev pub column_data : Column → Data
column_data c = list (natural (bit c.key) ∷ string c.name ∷ natural c.type_oid ∷ integer c.modifier ∷ [])

abbrev pub columns_data : List Column → Data
columns_data columns = list (map column_data columns)

abbrev pub oids_data : List ℕ → Data
oids_data oids = list (map natural oids)

-- an old tuple: its key, or the whole row
abbrev pub old_data : OldKind → List Cell → Data
old_data Key row = list (string (codes "K") ∷ cells_data row ∷ [])
old_data Full row = list (string (codes "O") ∷ cells_data row ∷ [])

abbrev pub prior_data : Option (OldKind × List Cell) → Data
prior_data None = null
prior_data (Some old) = old_data old.0 old.1

abbrev pub relation_data : Option ℕ → RelationDef → Data
relation_data xid def =
    list (string (codes "Relation") ∷ xid_data xid ∷ natural def.oid ∷ string def.namespace ∷ string def.name ∷ letter_data def.letter
    ∷ columns_data def.columns ∷ [])

abbrev pub insert_data : Option ℕ → ℕ → List Cell → Data
insert_data xid oid row = list (string (codes "Insert") ∷ xid_data xid ∷ natural oid ∷ cells_data row ∷ [])

abbrev pub update_data : Option ℕ → ℕ → Option (OldKind × List Cell) → List Cell → Data
update_data xid oid prior row =
    list (string (codes "Update") ∷ xid_data xid ∷ natural oid ∷ prior_data prior ∷ cells_data row ∷ [])

abbrev pub delete_data : Option ℕ → ℕ → OldKind → List Cell → Data
delete_data xid oid kind row = list (string (codes "Delete") ∷ xid_data xid ∷ natural oid ∷ old_data kind row ∷ [])

abbrev pub truncate_data : Option ℕ → ℕ → List ℕ → Data
truncate_data xid options oids = list (string (codes "Truncate") ∷ xid_data xid ∷ natural options ∷ oids_data oids ∷ [])

abbrev pub item_data : Option ℕ → Item → Data
item_data xid (Relation def) = relation_data xid def
item_data xid (Insert oid row) = insert_data xid oid row
item_data xid (Update oid prior row) = update_data xid oid prior row
item_data xid (Delete oid kind row) = delete_data xid oid kind row
item_data xid (Truncate options oids) = truncate_data xid options oids

abbrev pub begin_data : ℕ → ℤ → ℕ → Data
begin_data lsn time xid = list (string (codes "Begin") ∷ lsn_data lsn ∷ integer time ∷ natural xid ∷ [])

abbrev pub commit_data : ℕ → ℕ → ℤ → Data
commit_data lsn end time = list (string (codes "Commit") ∷ lsn_data lsn ∷ lsn_data end ∷ integer time ∷ [])

abbrev pub origin_data : ℕ → List ℕ → Data
origin_data lsn name = list (string (codes "Origin") ∷ lsn_data lsn ∷ string name ∷ [])

abbrev pub type_data : Option ℕ → ℕ → List ℕ → List ℕ → Data
type_data xid oid namespace name = list (string (codes "Type") ∷ xid_data xid ∷ natural oid ∷ string namespace ∷ string name ∷ [])

abbrev pub logical_data : Option ℕ → Bool → ℕ → List ℕ → List ℕ → Data
logical_data xid transactional lsn prefix content =
    list (string (codes "Message") ∷ xid_data xid ∷ natural (bit transactional) ∷ lsn_data lsn ∷ string prefix ∷ hex_data content ∷ [])

abbrev pub stream_start_data : ℕ → Bool → Data
stream_start_data xid first = list (string (codes "StreamStart") ∷ natural xid ∷ natural (bit first) ∷ [])

abbrev pub stream_stop_data : Data
stream_stop_data = list (string (codes "StreamStop") ∷ [])

abbrev pub stream_abort_data : ℕ → ℕ → Data
stream_abort_data xid subxid = list (string (codes "StreamAbort") ∷ natural xid ∷ natural subxid ∷ [])

abbrev pub stream_commit_data : ℕ → ℕ → ℕ → ℤ → Data
stream_commit_data xid lsn end time = list (string (codes "StreamCommit") ∷ natural xid ∷ lsn_data lsn ∷ lsn_data end ∷ integer time ∷ [])

abbrev pub message_data : Message → Data
message_data (message.Begin lsn time xid) = begin_data lsn time xid
message_data (message.Commit lsn end time) = commit_data lsn end time
message_data (message.Origin lsn name) = origin_data lsn name
message_data (message.TypeName xid oid namespace name) = type_data xid oid namespace name
message_data (message.Logical xid transactional lsn prefix content) = logical_data xid transactional lsn prefix content
message_data (message.Item xid item) = item_data xid item
message_data (message.StreamStart xid first) = stream_start_data xid first
message_data message.StreamStop = stream_stop_data
message_data (message.StreamCommit xid lsn end time) = stream_commit_data xid lsn end time
message_data (message.StreamAbort xid subxid) = stream_abort_data xid subxid
