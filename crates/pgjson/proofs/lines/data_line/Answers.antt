use Rattle.std.proofs.Common.{◌≡◌, rules}
use Rattle.serde_json.specs.View.{view}
use Rattle.pglogical.specs.Borrowed.{message_value}
use Rattle.pgjson.specs.Lines.{data_data}
use Rattle.pgjson.proofs.Plain.{data_plain, line_as}
use Rattle.pgjson.proofs.lines.data_line.Goals as goal

pub returns : goal.returns
returns c =
    let is : view c.in_ok-value.value ≡ data_data c.args.start c.args.end c.args.clock (message_value c.args.message.now) = search rules in
    line_as _ _ _ is (data_plain c.args.start c.args.end c.args.clock (message_value c.args.message.now)) c.line_of.ensures
