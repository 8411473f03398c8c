-- How a dump is printed: a line a row, in JSON, and the position behind them.
use Rattle.std.specs.Prelude.{ℕ, List, [], ◌∷◌, ◌++◌, codes}
use Rattle.std.specs.List.{flat_map}
use Rattle.pglsn.specs.Texts.{lsn_text}
use Rattle.pgapply.specs.declared.rows.DumpRow.{DumpRow}
use Rattle.pgjson.specs.Lines.{line}
use Rattle.pgjson.specs.Rows.{row_data}

abbrev pub row_line : DumpRow → List ℕ
row_line row = line (row_data row.namespace row.name row.cells row.copies)

abbrev pub position_line : ℕ → List ℕ
position_line lsn = codes "position " ++ (lsn_text lsn ++ 10 ∷ [])

abbrev pub dump_of : List DumpRow → ℕ → List ℕ
dump_of rows position = flat_map row_line rows ++ position_line position

-- the position, and the LSN up to which it may be confirmed
abbrev pub resumed_of : ℕ → ℕ → List ℕ
resumed_of position confirmed = position_line position ++ (codes "confirmed " ++ (lsn_text confirmed ++ 10 ∷ []))
