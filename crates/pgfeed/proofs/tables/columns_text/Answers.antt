use Rattle.std.proofs.Common.{◌≡◌, rules}
use Rattle.serde_json.specs.View.{view}
use Rattle.pgfeed.specs.Texts.{columns_data}
use Rattle.pgfeed.proofs.Plain.{columns_plain, text_as}
use Rattle.pgfeed.proofs.tables.columns_text.Goals as goal

pub returns : goal.returns
returns c =
    let is : view c.in_ok-value.value ≡ columns_data c.args.def.now.columns = search rules in
    text_as _ _ _ is (columns_plain c.args.def.now.columns) c.to_string.ensures.text
