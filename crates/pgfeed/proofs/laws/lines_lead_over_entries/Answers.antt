use Rattle.pgfeed.specs.Cutting.Walking.{over_entries}
use Rattle.pgfeed.proofs.laws.lines_lead_over_entries.Goals as goal

pub returns : goal.returns
returns c = over_entries
