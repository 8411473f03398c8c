use Rattle.std.proofs.Common.{refl}
use Rattle.pgfeed.proofs.Plain.{text_as}
use Rattle.pgfeed.proofs.messages.hex_text.Goals as goal

pub returns : goal.returns
returns c = text_as _ _ _ c.in_ok-value.ensures refl c.to_string.ensures.text
