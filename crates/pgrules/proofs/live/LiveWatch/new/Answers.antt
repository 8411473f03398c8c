use Rattle.std.proofs.Common.{refl}
use Rattle.pgrules.proofs.Paths.{at_first}
use Rattle.pgrules.proofs.live.LiveWatch.new.Goals as goal

pub returns : goal.returns
returns c =
    at_first c.args.version c.args.limit c.args.max_frame _ refl refl refl c.new.ensures c.new-2.ensures c.nothing.ensures refl refl refl
    refl
