use Rattle.std.proofs.Common.{refl}
use Rattle.pgcrc.specs.Covering.{Covers}
use Rattle.pgcrc.specs.Crc.{after_bits}
use Rattle.pgcrc.proofs.crc.Crc32.new.Goals as goal

pub returns : goal.returns
unfolding Covers after_bits
returns c = refl
