-- Worked rows: a load of two tables with three rows.
-- PostgreSQL documentation, COPY, File Formats, Text Format.
use Rattle.std.proofs.Common.{◌≡◌, ◌∷◌, ◌++◌, [], ℕ, List, true, false, refl, negsuc, pos, take}
use Rattle.std.specs.Str.{is_utf8, chars}
use Rattle.pgtuple.specs.declared.cell.Cell.{Cell}
use Rattle.pgtuple.specs.declared.cell.Cell.TheVariants.{Null, Text}
use Rattle.pglogical.specs.declared.message.Column.{Column}
use Rattle.pglogical.specs.declared.message.RelationDef.{RelationDef}
use Rattle.pglogical.specs.declared.message.Item.TheVariants as item
use Rattle.pgcopy.specs.declared.fault.Reason.TheVariants.{MissingColumn}
use Rattle.pgcopy.specs.Values.{sequence_at, value_behind}
use Rattle.pgcopy.specs.Rows.{cell_of, cells_of, row_of}
use Rattle.pgcopy.specs.Reading.{Open, Marked, Fails, reading}
use Rattle.pgapply.specs.declared.op.Op.TheVariants as op
use Rattle.pgsub_core.specs.Server.Work.{Nothing, Changed}
use Rattle.pgload.specs.Loads.{TableText, rows_of, text_reading, IsWholeText, load_changes}
use Rattle.pgload.specs.Loads.{load_transaction}

abbrev column : ℕ → Column
column name = record { key = true; name = name ∷ []; type_oid = 25; modifier = negsuc 0 }

-- public.t (i text key, v text), and public.u (i text key)
abbrev pub t : RelationDef
t = record { oid = 16384; namespace = []; name = 116 ∷ []; letter = 100; columns = column 105 ∷ record (column 118) { key = false } ∷ [] }

abbrev pub u : RelationDef
u = record { oid = 16385; namespace = []; name = 117 ∷ []; letter = 100; columns = column 105 ∷ [] }

-- `1<tab>a\tb`, with a tab in its value, and `2<tab>\N`
abbrev pub text_t : List ℕ
text_t = 49 ∷ 9 ∷ 97 ∷ 92 ∷ 116 ∷ 98 ∷ 10 ∷ 50 ∷ 9 ∷ 92 ∷ 78 ∷ 10 ∷ []

-- `3`
abbrev pub text_u : List ℕ
text_u = 51 ∷ 10 ∷ []

abbrev pub tables : List TableText
tables = record { definition = t; text = text_t } ∷ record { definition = u; text = text_u } ∷ []

abbrev pub row_1 : List Cell
row_1 = Text (49 ∷ []) ∷ Text (97 ∷ 9 ∷ 98 ∷ []) ∷ []

abbrev pub row_2 : List Cell
row_2 = Text (50 ∷ []) ∷ Null ∷ []

abbrev pub row_3 : List Cell
row_3 = Text (51 ∷ []) ∷ []

-- an Insert for each row, table by table
three_inserts : load_changes 8 tables
    ≡ record { definition = t; op = op.Insert row_1 } ∷ record { definition = t; op = op.Insert row_2 }
    ∷ record { definition = u; op = op.Insert row_3 } ∷ []
unfolding reading row_of cells_of cell_of value_behind sequence_at is_utf8 chars lib.Utf8.encode
three_inserts = refl

-- the transaction ends at the point, and its commit stands where no server's does
transaction : load_transaction 8 tables 1000 ≡ record {
  xid = 2;
  work = Changed (item.Insert 16384 row_1) (t ∷ []) (Changed (item.Insert 16384 row_2) (t ∷ [])
      (Changed (item.Insert 16385 row_3) (u ∷ []) Nothing));
  lsn = 999;
  end = 1000;
  time = pos 0;
}
unfolding reading row_of cells_of cell_of value_behind sequence_at is_utf8 chars lib.Utf8.encode
transaction = refl

-- a text is whole where its last line is
whole : IsWholeText 8 (record { definition = t; text = text_t })
unfolding reading row_of cells_of cell_of value_behind sequence_at is_utf8 chars lib.Utf8.encode
whole = refl

-- not where it is cut within an escape, where it has the end-of-data marker, or a row of one column
cut : (rows_of 8 (record { definition = t; text = take 4 text_t }) ≡ [])
    × ((text_reading 8 (record { definition = t; text = take 4 text_t })).end ≡ Open (take 4 text_t))
unfolding reading
cut = (refl, refl)

marked : (text_reading 8 (record { definition = u; text = text_u ++ 92 ∷ 46 ∷ 10 ∷ [] })).end ≡ Marked []
unfolding reading row_of cells_of cell_of value_behind is_utf8 chars lib.Utf8.encode
marked = refl

one_column : (text_reading 8 (record { definition = t; text = text_u })).end ≡ Fails 1 MissingColumn
unfolding reading row_of cells_of cell_of value_behind is_utf8 chars lib.Utf8.encode
one_column = refl
