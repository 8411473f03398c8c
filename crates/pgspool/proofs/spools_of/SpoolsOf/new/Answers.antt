use Rattle.pgspool.proofs.OpenEntries.{IsCounted-empty}
use Rattle.pgspool.proofs.spools_of.SpoolsOf.new.Goals as goal

pub invariant_of-result : goal.invariant_of-result
invariant_of-result g c = rw c.new.ensures.empty (IsCounted-empty c.args.max_bytes)
