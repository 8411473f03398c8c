use Rattle.pgrepeats.proofs.Histories.{answers_keep_the_past}
use Rattle.pgrepeats.proofs.laws.answers_keep_the_past.Goals as goal

pub returns : goal.returns
returns c = answers_keep_the_past
