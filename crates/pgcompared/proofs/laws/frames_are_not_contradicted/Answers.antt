use Rattle.pgcompared.proofs.Lives.{frames_are_not_contradicted}
use Rattle.pgcompared.proofs.laws.frames_are_not_contradicted.Goals as goal

pub returns : goal.returns
returns c = frames_are_not_contradicted
