use Rattle.std.proofs.Common.{ap, ◌-◌}
use Rattle.pgcrc.specs.Covering.{Covers}
use Rattle.pgcrc.specs.Crc.{crc32, ones}
use Rattle.pgcrc.proofs.crc.Crc32.value.Goals as goal

pub returns : goal.returns
unfolding Covers crc32
returns c = λ message covers. ap (λ register. ones - register) covers
