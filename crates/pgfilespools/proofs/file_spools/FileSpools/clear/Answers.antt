use Rattle.pgfilespools.proofs.Spooling.{nothing_spooled}
use Rattle.pgfilespools.proofs.file_spools.FileSpools.clear.Goals as goal

pub invariant_of-self : goal.invariant_of-self
invariant_of-self g c = (nothing_spooled _ _ _ _ _ c.new.ensures.empty, c.clear.ensures.usable)
