use Rattle.pgfeed.specs.Cutting.Walking.{one_walk}
use Rattle.pgfeed.proofs.laws.text_is_read_in_one_way.Goals as goal

pub returns : goal.returns
returns c = one_walk
