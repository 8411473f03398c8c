-- A row of a table in JSON, as `pgsub dump` prints it.
use Rattle.std.specs.Prelude.{ℕ, List, [], ◌∷◌}
use Rattle.serde_json.specs.Data.{Data, string}
use Rattle.pgtuple.specs.declared.cell.Cell.{Cell}
use Rattle.pgjson.specs.Cells.{cells_data, list}
use Rattle.pgjson.specs.Messages.{natural}

-- namespace, name, cells and copies
abbrev pub row_data : List ℕ → List ℕ → List Cell → ℕ → Data
row_data namespace name cells copies = list (string namespace ∷ string name ∷ cells_data cells ∷ natural copies ∷ [])
