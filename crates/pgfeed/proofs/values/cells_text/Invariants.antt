use Rattle.std.proofs.Common.{◌≡◌, ◌++◌, [], map}
use Rattle.json.specs.Tree.{items_tokens, json_tokens}
use Rattle.serde_json.specs.View.{items_of}
use Rattle.serde_json.specs.Written.{items_outline, outline}
use Rattle.pgjson.specs.Cells.{cell_data, cells_data}
use Rattle.pgfeed.proofs.values.cells_text.Given as goal

abbrev pub invariant-loop-cell : goal.invariant-loop-cell
invariant-loop-cell l = record {
  before : l.out.before ≡ [];
  tokens : l.out.tokens ++ items_tokens (items_outline (items_of (map cell_data l.cell-iterator)))
      ≡ json_tokens (outline (cells_data l.row));
}
