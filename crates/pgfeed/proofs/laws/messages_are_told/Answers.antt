use Rattle.pgfeed.proofs.OneReading.{one_telling}
use Rattle.pgfeed.proofs.laws.messages_are_told.Goals as goal

pub returns : goal.returns
returns c = one_telling
