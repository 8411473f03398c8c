use Rattle.std.proofs.Common.{◌≡◌, ◌++◌, ◌≤◌, ◌-◌, List, length}
use Rattle.std.specs.Prelude.{IfSome, option_copied}
use Rattle.std.specs.List.{AllByRecursion, flat_map}
use Rattle.pgtuple.specs.declared.cell.Cell.{Cell}
use Rattle.pgtuple.specs.Cells.{cell_spelling}
use Rattle.pgtuple.specs.Limits.{IsCell, IsTextCell, max_int32}
use Rattle.pgcopy.specs.Rows.{cells_of, fields_behind, row_of}
use Rattle.pgcopy.proofs.Cells.{with_cells}
use Rattle.pgcopy.proofs.row.push_fields.Given as goal

abbrev pub invariant-loop : goal.invariant-loop
invariant-loop l = record {
  front : List Cell;
  read : with_cells front (cells_of (l.columns - l.counter) (fields_behind (option_copied l.rest))) ≡ row_of l.columns l.line;
  fit : AllByRecursion IsCell front;
  texts : AllByRecursion IsTextCell front;
  bytes : l.rows.items ≡ l.fn.rows.items ++ flat_map cell_spelling front;
  most : IfSome l.rest (λ behind. length behind.now ≤ max_int32);
}
