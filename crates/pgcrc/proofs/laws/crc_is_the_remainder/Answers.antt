use Rattle.pgcrc.proofs.Remainder.{is_remainder, only_remainder}
use Rattle.pgcrc.proofs.laws.crc_is_the_remainder.Goals as goal

pub returns-clause-remainder : goal.returns-clause-remainder
returns-clause-remainder c = is_remainder

pub returns-clause-only : goal.returns-clause-only
returns-clause-only c = only_remainder
