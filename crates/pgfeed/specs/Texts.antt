-- The text of a feed: lines of JSON (RFC 8259) in UTF-8, each ended by a line feed. Cells are as in
-- a dump. PostgreSQL documentation, Logical Replication Message Formats, Relation, Insert, Update,
-- Delete, Truncate, Message, Commit.
use Rattle.std.specs.Prelude.{ℕ, suc, ◌+◌, ◌-◌, ◌==◌, ◌&&◌, ℤ, pos, ◌+ℤ◌, List, [], ◌∷◌, ◌++◌}
use Rattle.std.specs.Prelude.{length, map, replicate, Bool, not, Option}
use Rattle.std.specs.Prelude.{Some, None, if◌then◌else◌, codes}
use Rattle.std.specs.Prelude.{decimal}
use Rattle.std.specs.Fmt.{signed_decimal}
use Rattle.std.specs.Cmp.Lexicographic.{pointwise}
use Rattle.std.specs.List.{list_any}
use Rattle.std.specs.Ordering.{int_eq}
use Rattle.std.specs.Str.{is_utf8}
use Rattle.std.proofs.Math.Bool.{beq}
use Rattle.json.specs.Print.{quoted}
use Rattle.serde_json.specs.Data.{Data, null, string}
use Rattle.serde_json.specs.Written.{compact_text}
use Rattle.pgcrc.specs.Crc.{crc32}
use Rattle.pglsn.specs.Texts.{lsn_text}
use Rattle.pgtuple.specs.declared.cell.Cell.{Cell}
use Rattle.pglogical.specs.declared.message.Column.{Column}
use Rattle.pglogical.specs.declared.message.RelationDef.{RelationDef}
use Rattle.pglogical.specs.declared.message.OldKind.{OldKind}
use Rattle.pgrel.specs.Identity.{keyed}
use Rattle.pgapply.specs.declared.commit.About.{About}
use Rattle.pgapply.specs.Dump.{shown_namespace}
use Rattle.pgledger.specs.declared.heard.Heard.{Heard}
use Rattle.pgledger.specs.declared.image.Image.{Image}
use Rattle.pgledger.specs.declared.image.Image.TheVariants.{Inserted, Updated, Deleted, Truncated}
use Rattle.pgledger.specs.declared.image.Image.TheVariants.{Missed}
use Rattle.pgledger.specs.Images.{Line}
use Rattle.pgledger.specs.Entries.{Entry}
use Rattle.pgfeed.specs.declared.told.Told.{Told}
use Rattle.pgjson.specs.Cells.{cells_data, hex_data, list}
use Rattle.pgjson.specs.Messages.{integer, letter_data, natural, prior_data}

-- blanks up to the line feed, so that the line has so many bytes
abbrev pub padded : ℕ → List ℕ → List ℕ
padded size text = text ++ (replicate (size - 1 - length text) 32 ++ 10 ∷ [])

-- ---- the head of a segment

-- how many bytes the head of a segment has, and the line of a commit
abbrev pub segment_size : ℕ
segment_size = 1024

abbrev pub commit_size : ℕ
commit_size = 256

-- the LSN at which a segment begins
abbrev pub segment_front : ℕ → List ℕ
segment_front base = codes "{\"feed\":4,\"base\":\"" ++ (lsn_text base ++ codes "\",")

-- what it is a feed of: the system's identifier, the database and the slot
abbrev pub segment_rest : List ℕ → List ℕ → List ℕ → List ℕ
segment_rest system database slot =
    codes "\"system\":" ++ (quoted system
    ++ (codes ",\"database\":" ++ (quoted database ++ (codes ",\"slot\":" ++ (quoted slot ++ codes "}")))))

abbrev pub segment_object : ℕ → List ℕ → List ℕ → List ℕ → List ℕ
segment_object base system database slot = segment_front base ++ segment_rest system database slot

abbrev pub segment_head : ℕ → List ℕ → List ℕ → List ℕ → List ℕ
segment_head base system database slot = padded segment_size (segment_object base system database slot)

-- ---- the line of a commit

-- microseconds since 1970-01-01 of a time in microseconds since 2000-01-01
abbrev pub unix_micros : ℤ → ℤ
unix_micros time = time +ℤ pos 946684800000000

abbrev pub about_text : Option About → List ℕ
about_text None = codes "\"lsn\":null,\"xid\":null,\"ts_us\":null"
about_text (Some about) =
    codes "\"lsn\":\"" ++ (lsn_text about.final_lsn
    ++ (codes "\",\"xid\":" ++ (decimal about.xid ++ (codes ",\"ts_us\":" ++ signed_decimal (unix_micros about.time)))))

-- where the commit ends, where the one before it ends, and how many bytes follow
abbrev pub commit_front : ℕ → ℕ → ℕ → List ℕ
commit_front end prev bytes =
    codes "{\"end\":\"" ++ (lsn_text end
    ++ (codes "\",\"prev\":\"" ++ (lsn_text prev ++ (codes "\",\"bytes\":" ++ (decimal bytes ++ codes ",")))))

-- how many changes follow, and what the commit is about
abbrev pub commit_rest : ℕ → Option About → List ℕ
commit_rest changes about = codes "\"changes\":" ++ (decimal changes ++ (codes "," ++ about_text about))

-- the line up to its checksum
abbrev pub commit_told : ℕ → ℕ → ℕ → ℕ → Option About → List ℕ
commit_told end prev bytes changes about = commit_front end prev bytes ++ commit_rest changes about

abbrev pub crc_text : ℕ → List ℕ
crc_text crc = codes ",\"crc\":" ++ (decimal crc ++ codes "}")

abbrev pub commit_object : ℕ → ℕ → ℕ → ℕ → Option About → ℕ → List ℕ
commit_object end prev bytes changes about crc = commit_told end prev bytes changes about ++ crc_text crc

abbrev pub commit_line : ℕ → ℕ → ℕ → ℕ → Option About → ℕ → List ℕ
commit_line end prev bytes changes about crc = padded commit_size (commit_object end prev bytes changes about crc)

-- ---- the line that ends a segment

-- where its last commit ends
abbrev pub closing_object : ℕ → List ℕ
closing_object last = codes "{\"last\":\"" ++ (lsn_text last ++ codes "\"}")

abbrev pub closing_line : ℕ → List ℕ
closing_line last = padded commit_size (closing_object last)

-- ---- the line of a message

-- Bytes that are UTF-8 and have no zero byte are a text, as prefixes are.
unfoldable pub is_text : List ℕ → Bool
is_text bytes = is_utf8 bytes && not (list_any (λ b. b == 0) bytes)

-- others are in hexadecimal
unfoldable pub content_data : List ℕ → Data
content_data content = if is_text content then string content else hex_data content

-- where it is in the log, its prefix, and its bytes
abbrev pub message_line : Heard → List ℕ
message_line message =
    codes "{\"op\":\"m\",\"lsn\":\"" ++ (lsn_text message.lsn ++ (codes "\",\"prefix\":" ++ (quoted message.prefix
    ++ (codes ",\"content\":" ++ (compact_text (content_data message.content) ++ codes "}\n")))))

-- of messages, one after the other
unfoldable pub messages_text : List Heard → List ℕ
messages_text [] = []
messages_text (message ∷ messages) = message_line message ++ messages_text messages

-- ---- the line of a definition

abbrev pub column_data : Column → Data
column_data column = list (string column.name ∷ natural column.type_oid ∷ integer column.modifier ∷ [])

abbrev pub columns_data : List Column → Data
columns_data columns = list (map column_data columns)

-- the names of the columns that are part of the key
abbrev pub key_names : List Column → List Data
key_names [] = []
key_names (column ∷ columns) = if column.key then string column.name ∷ key_names columns else key_names columns

-- a table without a key has null
unfoldable pub key_data : RelationDef → Data
key_data def = if keyed def then list (key_names def.columns) else null

unfoldable pub table_front : RelationDef → List ℕ
table_front def =
    codes "{\"op\":\"table\",\"oid\":" ++ (decimal def.oid ++ (codes ",\"schema\":" ++ (quoted (shown_namespace def.namespace)
    ++ (codes ",\"table\":" ++ (quoted def.name ++ codes ",")))))

unfoldable pub table_rest : RelationDef → List ℕ
table_rest def =
    codes "\"identity\":" ++ (compact_text (letter_data def.letter) ++ (codes ",\"key\":" ++ (compact_text (key_data def)
    ++ (codes ",\"columns\":" ++ (compact_text (columns_data def.columns) ++ codes "}\n")))))

abbrev pub table_line : RelationDef → List ℕ
table_line def = table_front def ++ table_rest def

-- ---- the line of a change

abbrev pub row_data : Option (List Cell) → Data
row_data None = null
row_data (Some row) = cells_data row

-- Which change it is, at which offset of the segment the line of its definition begins, which tells
-- the relation, and which one in its commit, counted from 0.
abbrev pub change_front : List ℕ → ℕ → ℕ → List ℕ
change_front op at n = codes "{\"op\":\""
    ++ (op ++ (codes "\",\"at\":" ++ (decimal at ++ (codes ",\"n\":" ++ (decimal n ++ codes ",")))))

-- the row before the change and the row after it
abbrev pub change_line : List ℕ → ℕ → ℕ → Option (List Cell) → Option (List Cell) → List ℕ
change_line op at n before after =
    change_front op at n ++ (codes "\"before\":"
    ++ (compact_text (row_data before) ++ (codes ",\"after\":" ++ (compact_text (row_data after) ++ codes "}\n"))))

-- an Update has a new tuple, a Delete hasn't
abbrev pub sent_op : Option (List Cell) → List ℕ
sent_op None = codes "d"
sent_op (Some row) = codes "u"

abbrev pub sent_text : Option (List Cell) → List ℕ
sent_text new = codes "\"sent\":\"" ++ (sent_op new ++ codes "\",")

abbrev pub sent_rows : Option (OldKind × List Cell) → Option (List Cell) → List ℕ
sent_rows old new = codes "\"old\":"
    ++ (compact_text (prior_data old) ++ (codes ",\"new\":" ++ (compact_text (row_data new) ++ codes "}\n")))

-- what was sent for a change that found no row
abbrev pub missed_line : ℕ → ℕ → Option (OldKind × List Cell) → Option (List Cell) → List ℕ
missed_line at n old new = change_front (codes "x") at n ++ (sent_text new ++ sent_rows old new)

abbrev pub image_line : ℕ → ℕ → Image → List ℕ
image_line at n (Inserted row) = change_line (codes "c") at n None (Some row)
image_line at n (Updated old new) = change_line (codes "u") at n (Some old) (Some new)
image_line at n (Deleted row) = change_line (codes "d") at n (Some row) None
image_line at n Truncated = change_line (codes "t") at n None None
image_line at n (Missed old new) = missed_line at n old new

-- ---- the lines of an entry

abbrev pub same_column : Column → Column → Bool
same_column a b = beq a.key b.key && (pointwise ◌==◌ a.name b.name && ((a.type_oid == b.type_oid) && int_eq a.modifier b.modifier))

abbrev pub same_definition : RelationDef → RelationDef → Bool
same_definition a b =
    (a.oid == b.oid) && (pointwise ◌==◌ a.namespace b.namespace && (pointwise ◌==◌ a.name b.name
    && ((a.letter == b.letter) && pointwise same_column a.columns b.columns)))

-- Where a definition stands that a segment has: nothing is said of another relation's, and one of
-- the same relation that differs stands nowhere.
abbrev pub told_at : Told → RelationDef → Option (Option ℕ)
told_at told def =
    if told.definition.oid == def.oid then Some (if same_definition told.definition def then Some told.offset else None) else None

abbrev pub newer : Option (Option ℕ) → Option (Option ℕ) → Option (Option ℕ)
newer (Some place) older = Some place
newer None older = older

-- of definitions that are told, the oldest first, the newest of the relation counts
abbrev pub newest : List Told → RelationDef → Option (Option ℕ)
newest [] def = None
newest (told ∷ more) def = newer (newest more def) (told_at told def)

abbrev pub if_there : Option (Option ℕ) → Option ℕ
if_there (Some place) = place
if_there None = None

-- where a definition stands, if it is told
abbrev pub place : List Told → RelationDef → Option ℕ
place told def = if_there (newest told def)

-- before a change stands its definition, unless it is told
abbrev pub fresh_text : Option ℕ → RelationDef → List ℕ
fresh_text (Some place) def = []
fresh_text None def = table_line def

-- the offset that a change names: where its definition is told, or where its own lines begin
abbrev pub named : Option ℕ → ℕ → ℕ
named (Some place) at = place
named None at = at

abbrev pub told_with : List Told → Option ℕ → RelationDef → ℕ → List Told
told_with told (Some place) def at = told
told_with told None def at = told ++ record { definition = def; offset = at } ∷ []

abbrev pub line_of : RelationDef → Image → Line
line_of def image = record { definition = def; image = image }

-- the lines of a change that begin at an offset, where these definitions are told, and what is told
-- then
abbrev pub line_text : List Told → ℕ → ℕ → Line → List ℕ
line_text told at n line =
    fresh_text (place told line.definition) line.definition
    ++ image_line (named (place told line.definition) at) n line.image

abbrev pub line_told : List Told → ℕ → Line → List Told
line_told told at line = told_with told (place told line.definition) line.definition at

-- The lines of changes that begin at an offset, where these definitions are told, and so many
-- changes.
unfoldable pub body_text : List Told → ℕ → ℕ → List Line → List ℕ
body_text told at n [] = []
body_text told at n (line ∷ lines) =
    line_text told at n line ++ body_text (line_told told at line) (at + length (line_text told at n line)) (suc n) lines

-- what is told behind them
unfoldable pub told_after : List Told → ℕ → ℕ → List Line → List Told
told_after told at n [] = told
told_after told at n (line ∷ lines) =
    told_after (line_told told at line) (at + length (line_text told at n line)) (suc n) lines

-- ---- an entry, with these lines

-- The lines of an entry that begin at an offset, where these definitions are told: its messages,
-- and then its changes.
abbrev pub entry_body : List Told → ℕ → Entry → List ℕ
entry_body told at e = messages_text e.messages ++ body_text told (at + length (messages_text e.messages)) 0 e.lines

-- what is told behind them
abbrev pub entry_told : List Told → ℕ → Entry → List Told
entry_told told at e = told_after told (at + length (messages_text e.messages)) 0 e.lines

-- The CRC-32 of an entry behind the commit that ends at this LSN: of its line up to the checksum,
-- and then of all lines that follow. RFC 1952, section 8.
unfoldable pub entry_crc : ℕ → Entry → List ℕ → ℕ
entry_crc prev e body = crc32 (commit_told e.end prev (length body) (length e.lines) e.about ++ body)

-- its line, behind the commit that ends at this LSN
abbrev pub entry_line : ℕ → Entry → List ℕ → List ℕ
entry_line prev e body = commit_line e.end prev (length body) (length e.lines) e.about (entry_crc prev e body)

unfoldable pub entry_text : ℕ → Entry → List ℕ → List ℕ
entry_text prev e body = entry_line prev e body ++ body

-- which lines a commit has, by where it ends
abbrev pub Bodies : Type 0
Bodies = ℕ → List ℕ

-- entries one after the other
unfoldable pub entries_text : Bodies → ℕ → List Entry → List ℕ
entries_text bodies at [] = []
entries_text bodies at (e ∷ es) = entry_text at e (bodies e.end) ++ entries_text bodies e.end es
