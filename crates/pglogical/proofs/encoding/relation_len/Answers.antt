use Rattle.std.proofs.Common.{arith}
use Rattle.pglogical.specs.BorrowedItems.{def_value}
use Rattle.pglogical.proofs.SpelledLengths.{length-relation}
use Rattle.pglogical.proofs.encoding.relation_len.Goals as goal

pub returns : goal.returns
returns c = omega (arith, length-relation (def_value c.args.def.now))
