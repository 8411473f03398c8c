use Rattle.pgload.proofs.Frames.{one_load}
use Rattle.pgload.proofs.laws.cuts_change_no_load.Goals as goal

pub returns : goal.returns
returns c = one_load
