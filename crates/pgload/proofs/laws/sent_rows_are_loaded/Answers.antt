use Rattle.pgload.proofs.Loads.{sent_are_loaded}
use Rattle.pgload.proofs.laws.sent_rows_are_loaded.Goals as goal

pub returns : goal.returns
returns c = sent_are_loaded
