use Rattle.pgspool.proofs.OpenEntries.{IsCounted-empty}
use Rattle.pgspool.proofs.spools_of.SpoolsOfSpools.clear.Goals as goal

pub invariant_of-self : goal.invariant_of-self
invariant_of-self g c = rw c.new.ensures.empty (IsCounted-empty c.self.inside.max_bytes)
