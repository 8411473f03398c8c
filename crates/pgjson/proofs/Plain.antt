-- Frames and messages in JSON have no floats, so that their text is the compact one.
use Rattle.std.proofs.Common.{◌≡◌, ℕ, ℤ, pos, negsuc, List, [], ◌∷◌, map, Bool, false, Option, Some}
use Rattle.std.proofs.Common.{None, Result, Ok, Err, IfOk, refl, String, string_bytes}
use Rattle.std.specs.declared.alloc.AllocError.{AllocError}
use Rattle.std.specs.declared.alloc.Global.{Global}
use Rattle.serde_json.specs.declared.value.Value.{Value}
use Rattle.serde_json.specs.Data.{Data}
use Rattle.serde_json.specs.Find.{is_float, of_integer}
use Rattle.serde_json.specs.View.{view, items_of}
use Rattle.serde_json.specs.Written.{has_float, items_have_float}
use Rattle.pgtuple.specs.declared.cell.Cell.{Cell}
use Rattle.pgtuple.specs.declared.cell.Cell.TheVariants.{Null, Unchanged, Text, Binary}
use Rattle.pglogical.specs.declared.message.Column.{Column}
use Rattle.pglogical.specs.declared.message.OldKind.{OldKind}
use Rattle.pglogical.specs.declared.message.OldKind.TheVariants.{Key, Full}
use Rattle.pglogical.specs.declared.message.Item.{Item}
use Rattle.pglogical.specs.declared.message.Item.TheVariants.{Relation, Insert, Update, Delete}
use Rattle.pglogical.specs.declared.message.Item.TheVariants.{Truncate}
use Rattle.pglogical.specs.declared.message.Message.{Message}
use Rattle.pglogical.specs.declared.message.Message.TheVariants as message
use Rattle.pgjson.specs.Cells.{cell_data}
use Rattle.pgjson.specs.Messages.{column_data, item_data, message_data, natural, old_data}
use Rattle.pgjson.specs.Messages.{prior_data, xid_data}
use Rattle.pgjson.specs.Lines.{data_data, keepalive_data, line}
use Rattle.pgjson.specs.Rows.{row_data}

integer_plain : (n : ℤ) → is_float (of_integer n) ≡ false
integer_plain (pos n) = refl
integer_plain (negsuc n) = refl

cell_plain : (cell : Cell) → has_float (cell_data cell) ≡ false
cell_plain Null = refl
cell_plain Unchanged = refl
cell_plain (Text bytes) = refl
cell_plain (Binary bytes) = refl

cells_plain : (cells : List Cell) → items_have_float (items_of (map cell_data cells)) ≡ false
cells_plain [] = refl
cells_plain (cell ∷ cells) = rw (cell_plain cell, cells_plain cells)

columns_plain : (columns : List Column) → items_have_float (items_of (map column_data columns)) ≡ false
columns_plain [] = refl
columns_plain (column ∷ columns) = rw (integer_plain column.modifier, columns_plain columns)

oids_plain : (oids : List ℕ) → items_have_float (items_of (map natural oids)) ≡ false
oids_plain [] = refl
oids_plain (oid ∷ oids) = oids_plain oids

xid_plain : (xid : Option ℕ) → has_float (xid_data xid) ≡ false
xid_plain None = refl
xid_plain (Some xid) = refl

old_plain : (kind : OldKind) (row : List Cell) → has_float (old_data kind row) ≡ false
old_plain Key row = rw (cells_plain row)
old_plain Full row = rw (cells_plain row)

prior_plain : (prior : Option (OldKind × List Cell)) → has_float (prior_data prior) ≡ false
prior_plain None = refl
prior_plain (Some old) = old_plain old.0 old.1

item_plain : (xid : Option ℕ) (item : Item) → has_float (item_data xid item) ≡ false
item_plain xid (Relation def) = rw (xid_plain xid, columns_plain def.columns)
item_plain xid (Insert oid row) = rw (xid_plain xid, cells_plain row)
item_plain xid (Update oid prior row) = rw (xid_plain xid, prior_plain prior, cells_plain row)
item_plain xid (Delete oid kind row) = rw (xid_plain xid, old_plain kind row)
item_plain xid (Truncate options oids) = rw (xid_plain xid, oids_plain oids)

message_plain : (m : Message) → has_float (message_data m) ≡ false
message_plain (message.Begin lsn time xid) = rw (integer_plain time)
message_plain (message.Commit lsn end time) = rw (integer_plain time)
message_plain (message.Origin lsn name) = refl
message_plain (message.TypeName xid oid namespace name) = rw (xid_plain xid)
message_plain (message.Logical xid transactional lsn prefix content) = rw (xid_plain xid)
message_plain (message.Item xid item) = item_plain xid item
message_plain (message.StreamStart xid first) = refl
message_plain message.StreamStop = refl
message_plain (message.StreamCommit xid lsn end time) = rw (integer_plain time)
message_plain (message.StreamAbort xid subxid) = refl

pub data_plain : (start end : ℕ) (clock : ℤ) (m : Message) → has_float (data_data start end clock m) ≡ false
data_plain start end clock m = rw (integer_plain clock, message_plain m)

pub keepalive_plain : (end : ℕ) (clock : ℤ) (reply : Bool) → has_float (keepalive_data end clock reply) ≡ false
keepalive_plain end clock reply = rw (integer_plain clock)

pub row_plain : (namespace name : List ℕ) (cells : List Cell) (copies : ℕ) → has_float (row_data namespace name cells copies) ≡ false
row_plain namespace name cells copies = rw (cells_plain cells)

-- the line of a value that stands for data without floats
pub line_as : (text : Result (String Global) AllocError) (value : Value) (d : Data) → view value ≡ d → has_float d ≡ false
    → IfOk text (λ s. has_float (view value) ≡ false → string_bytes s ≡ line (view value))
    → IfOk text (λ s. string_bytes s ≡ line d)
line_as (Ok s) value d is plain h = rw is at (h (rw is plain))
line_as (Err e) value d is plain h = tt
