use Rattle.pgfeed.specs.Cutting.Walking.{have_their_crc}
use Rattle.pgfeed.proofs.laws.entries_have_their_crc.Goals as goal

pub returns : goal.returns
returns c = have_their_crc
