use Rattle.pgrepeats.proofs.Histories.{sessions_keep_the_past}
use Rattle.pgrepeats.proofs.laws.sessions_keep_the_past.Goals as goal

pub returns : goal.returns
returns c = sessions_keep_the_past
