use Rattle.pgsub_core.proofs.Pieces.{two_pieces, piece_then_stop, stop_stands}
use Rattle.pgsub_core.proofs.laws.pieces_are_one.Goals as goal

pub returns : goal.returns
returns c = record { whole = two_pieces; stops = piece_then_stop; stands = stop_stands }
