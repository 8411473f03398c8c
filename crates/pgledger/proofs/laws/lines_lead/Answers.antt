use Rattle.pgledger.proofs.Telling.{commit_tells}
use Rattle.pgledger.proofs.laws.lines_lead.Goals as goal

pub returns : goal.returns
returns c = commit_tells
