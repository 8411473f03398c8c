use Rattle.std.proofs.Common.{ap}
use Rattle.pgspooled.specs.Live.{is_honest_live}
use Rattle.pgspooled.proofs.laws.memory_is_honest.Goals as goal

pub returns : goal.returns
returns g c spools items is = ap is_honest_live is
