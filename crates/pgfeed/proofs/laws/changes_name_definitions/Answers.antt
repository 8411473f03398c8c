use Rattle.pgfeed.proofs.Naming.{name_definitions}
use Rattle.pgfeed.proofs.laws.changes_name_definitions.Goals as goal

pub returns : goal.returns
returns c = name_definitions
