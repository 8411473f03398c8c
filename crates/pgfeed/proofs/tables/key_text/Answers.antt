use Rattle.pgfeed.proofs.Plain.{key_data_plain, text_as}
use Rattle.pgfeed.proofs.tables.key_text.Goals as goal

pub returns : goal.returns
returns c = text_as _ _ _ c.in_ok-value.ensures (key_data_plain c.args.def.now) c.to_string.ensures.text
