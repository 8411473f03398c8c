use Rattle.pgfeed.proofs.Heard.{as_hex, as_text}
use Rattle.pgfeed.proofs.messages.content_text.Goals as goal

pub returns-in-Some : goal.returns-in-Some
returns-in-Some c = as_text _ _ c.args.content.now c.in-Some.ensures.text.0 c.in-Some.ensures.text.1 c.quoted.ensures

pub returns-in-None : goal.returns-in-None
returns-in-None c = as_hex _ c.args.content.now c.in-None.ensures.none c.hex_text.ensures
