use Rattle.pgsub_core.proofs.Pieces.{one_count, counted_pieces}
use Rattle.pgsub_core.proofs.laws.counts_are_of_the_bytes.Goals as goal

pub returns : goal.returns
returns c = record { piece = one_count; pieces = counted_pieces }
