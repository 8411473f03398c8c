use Rattle.pgruns.proofs.opening.TrustedFileOpening.open.Goals as goal

pub open_trusted_or_return-requires : goal.open_trusted_or_return-requires
open_trusted_or_return-requires g c = g.met.F.AsLeft.left
