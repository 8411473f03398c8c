use Rattle.pgload.proofs.Loads.{changes_in_parts}
use Rattle.pgload.proofs.laws.changes_come_in_parts.Goals as goal

pub returns : goal.returns
returns c = changes_in_parts
