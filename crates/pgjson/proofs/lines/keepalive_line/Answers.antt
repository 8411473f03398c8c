use Rattle.std.proofs.Common.{◌≡◌, rules}
use Rattle.serde_json.specs.View.{view}
use Rattle.pgjson.specs.Lines.{keepalive_data}
use Rattle.pgjson.proofs.Plain.{keepalive_plain, line_as}
use Rattle.pgjson.proofs.lines.keepalive_line.Goals as goal

pub returns : goal.returns
returns c =
    let is : view c.in_ok-value.value ≡ keepalive_data c.args.end c.args.clock c.args.reply = search rules in
    line_as _ _ _ is (keepalive_plain c.args.end c.args.clock c.args.reply) c.line_of.ensures
