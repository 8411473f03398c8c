-- What a borrowed tuple is made of: cells, or the bytes that encode it.
-- PostgreSQL documentation, Logical Replication Message Formats, TupleData.
use Rattle.std.specs.Prelude.{List}
use Rattle.pgtuple.specs.declared.cell.Cell.{Cell}
use Rattle.pgtuple.specs.declared.borrowed.Form.{Form}
use Rattle.pgtuple.specs.declared.borrowed.Form.TheVariants as form
use Rattle.pgtuple.specs.declared.borrowed.Rest.{Rest}
use Rattle.pgtuple.specs.declared.borrowed.Rest.TheVariants as rest
use Rattle.pgtuple.specs.Limits.{IsTuple}
use Rattle.pgtuple.specs.Spelled.{spelled_cells, IsSpelledTuple}

abbrev pub form_cells : Form → List Cell
form_cells (form.Owned cells) = cells.now
form_cells (form.Spelled bytes) = spelled_cells bytes.now

abbrev pub IsForm : Form → Type 0
IsForm (form.Owned cells) = IsTuple cells.now
IsForm (form.Spelled bytes) = IsSpelledTuple bytes.now

abbrev pub rest_cells : Rest → List Cell
rest_cells (rest.Owned cells) = cells.now
rest_cells (rest.Spelled cells) = cells
