use Rattle.std.proofs.Common.{arith, subst}
use Rattle.pgtuple.specs.Limits.{IsBytes}
use Rattle.pgspool.proofs.EncodedLemmas.{readable}
use Rattle.pgspool.proofs.encoded_items.can_be_read.Goals as goal

pub returns : goal.returns
returns c = readable c.args.item.now (subst IsBytes c.requires.spelled (λ i. omega (arith, c.type_inv.bytes i))) c.requires.wire
