use Rattle.std.proofs.Common.{◌∙◌, ap, take_all}
use Rattle.pgrules.proofs.Pieces.{joined}
use Rattle.pgrules.proofs.session.joined.Goals as goal

pub returns : goal.returns
returns c = c.loop-piece.invariant ∙ ap joined (take_all c.loop-piece.piece-index c.args.pieces.now c.loop-piece-test.false)
