use Rattle.pgfeed.specs.Cutting.Widths.{line_length}
use Rattle.pgfeed.proofs.laws.lines_of_commits_fit.Goals as goal

pub returns : goal.returns
returns c = line_length
