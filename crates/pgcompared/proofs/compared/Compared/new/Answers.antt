use Rattle.std.proofs.Common.{refl}
use Rattle.pgcompared.proofs.Paths.{at_first}
use Rattle.pgcompared.proofs.compared.Compared.new.Goals as goal

pub returns : goal.returns
returns c =
    at_first c.args.version c.args.limit c.args.max_frame c.args.past 0 _ c.new.ensures refl c.new-2.ensures refl refl
