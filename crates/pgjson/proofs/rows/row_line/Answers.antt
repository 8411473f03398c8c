use Rattle.std.proofs.Common.{◌≡◌, rules}
use Rattle.serde_json.specs.View.{view}
use Rattle.pgjson.specs.Rows.{row_data}
use Rattle.pgjson.proofs.Plain.{line_as, row_plain}
use Rattle.pgjson.proofs.rows.row_line.Goals as goal

pub returns : goal.returns
returns c =
    let is : view c.in_ok-value.value ≡ row_data c.args.namespace.now c.args.name.now c.args.cells.now c.args.copies = search rules in
    line_as _ _ _ is (row_plain c.args.namespace.now c.args.name.now c.args.cells.now c.args.copies) c.line_of.ensures
