use Rattle.pgcrc.proofs.Joining.{pieces}
use Rattle.pgcrc.proofs.laws.pieces_are_joined.Goals as goal

pub returns : goal.returns
returns c = pieces
