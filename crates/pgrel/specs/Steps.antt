-- One step of the loop over the cells of a row.
use Rattle.std.specs.Prelude.{if◌then◌else◌, Option, Some, None}
use Rattle.pgtuple.specs.declared.cell.Cell.{Cell}
use Rattle.pgrel.specs.Identity.{is_unchanged}

-- the old cell where the new one wasn't sent
abbrev pub sent_cell : Cell → Option Cell → Cell
sent_cell cell None = cell
sent_cell cell (Some old) = if is_unchanged cell then old else cell
