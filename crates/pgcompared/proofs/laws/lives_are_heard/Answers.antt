use Rattle.pgcompared.proofs.Lives.{lives_are_heard}
use Rattle.pgcompared.proofs.laws.lives_are_heard.Goals as goal

pub returns : goal.returns
returns c = lives_are_heard
