use Rattle.pgtuple.specs.declared.cell.Cell.{Cell}
use Rattle.pgtuple.specs.declared.cell.Cell.TheVariants as owned
use Rattle.pgtuple.specs.declared.borrowed.CellRef.{CellRef}
use Rattle.pgtuple.specs.declared.borrowed.CellRef.TheVariants as borrowed

-- the cell that is borrowed
abbrev pub cell_value : CellRef → Cell
cell_value borrowed.Null = owned.Null
cell_value borrowed.Unchanged = owned.Unchanged
cell_value (borrowed.Text text) = owned.Text text.now
cell_value (borrowed.Binary bytes) = owned.Binary bytes.now
