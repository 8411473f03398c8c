use Rattle.std.proofs.Common.{◌≡◌, take}
use Rattle.pgrules.proofs.Pieces.{joined}
use Rattle.pgrules.proofs.session.joined.Given as goal

abbrev pub invariant-loop-piece : goal.invariant-loop-piece
invariant-loop-piece l = l.bytes.items ≡ joined (take l.piece-index l.pieces)
