use Rattle.pgrules.proofs.Guards.{begins}
use Rattle.std.proofs.Common.{refl, []}
use Rattle.pgrules.proofs.guarded.Guarded.new.Goals as goal

pub returns-clause-guarded : goal.returns-clause-guarded
returns-clause-guarded g c v limit max most w =
    begins g.L.FindingListener.hears v limit max c.args.listener c.args.stops [] c.args.watch w refl
