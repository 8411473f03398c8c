-- Part of the statement.
-- A load: for each table its definition and the text of its COPY, as a server sends them under the
-- snapshot that a slot exports; and the transaction that it is in a history.
-- PostgreSQL documentation, COPY, File Formats, Text Format; Logical Decoding Concepts, Exported
-- Snapshots.
use Rattle.std.specs.Prelude.{◌≡◌, ◌-◌, ℕ, ℤ, pos, List, [], ◌∷◌, map, length}
use Rattle.std.specs.List.{flat_map}
use Rattle.pgtuple.specs.declared.cell.Cell.{Cell}
use Rattle.pglogical.specs.declared.message.RelationDef.{RelationDef}
use Rattle.pglogical.specs.declared.message.Item.TheVariants as item
use Rattle.pgcopy.specs.Reading.{Format, Reading, Open, copy_reading}
use Rattle.pgapply.specs.declared.op.Op.TheVariants as op
use Rattle.pgapply.specs.Apply.{Change}
use Rattle.pgsub_core.specs.Server.Work.{Work, Nothing, Changed}
use Rattle.pgsub_core.specs.Server.History.{Transaction}

-- ---- the rows

-- a table: what its Relation message says, and the text of its COPY
pub record TableText : Type 0 where
  pub definition : RelationDef
  pub text : List ℕ

-- a column for each of the definition, and so many bytes in a line at most
abbrev pub format_of : ℕ → RelationDef → Format
format_of max_line def = record { columns = length def.columns; max_line = max_line }

-- what the text says
abbrev pub text_reading : ℕ → TableText → Reading
text_reading max_line table = copy_reading (format_of max_line table.definition) table.text

abbrev pub rows_of : ℕ → TableText → List (List Cell)
rows_of max_line table = (text_reading max_line table).rows

-- it is whole lines, each of them a row
abbrev pub IsWholeText : ℕ → TableText → Type 0
IsWholeText max_line table = (text_reading max_line table).end ≡ Open []

-- ---- the changes

abbrev pub inserts : RelationDef → List (List Cell) → List Change
inserts def rows = map (λ row. record { definition = def; op = op.Insert row }) rows

-- an Insert for each row, table by table
abbrev pub load_changes : ℕ → List TableText → List Change
load_changes max_line tables = flat_map (λ (table : TableText). inserts table.definition (rows_of max_line table)) tables

-- ---- the transaction

-- these Inserts, each with the table's definition, and then others
abbrev pub inserted : RelationDef → List (List Cell) → Work → Work
inserted def [] others = others
inserted def (row ∷ rows) others = Changed (item.Insert def.oid row) (def ∷ []) (inserted def rows others)

abbrev pub load_work : ℕ → List TableText → Work
load_work max_line [] = Nothing
load_work max_line (table ∷ tables) = inserted table.definition (rows_of max_line table) (load_work max_line tables)

-- FrozenTransactionId, which no transaction of a server has
abbrev pub load_xid : ℕ
load_xid = 2

-- no message of it comes that would tell when it was committed
abbrev pub load_time : ℤ
load_time = pos 0

-- The one transaction, which ends at the slot's consistent point: the end of a record that is no
-- commit.
abbrev pub load_transaction : ℕ → List TableText → ℕ → Transaction
load_transaction max_line tables point =
    record { xid = load_xid; work = load_work max_line tables; lsn = point - 1; end = point; time = load_time }
