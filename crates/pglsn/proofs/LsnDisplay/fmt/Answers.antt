use Rattle.std.proofs.Common.{◌/◌, ◌%◌, ◌^◌, arith}
use Rattle.pglsn.specs.Texts.{lsn_text}
use Rattle.pglsn.proofs.Printed.{half_is_written}
use Rattle.pglsn.proofs.LsnDisplay.fmt.Goals as goal

pub returns-clause-writes : goal.returns-clause-writes
unfolding lsn_text
returns-clause-writes g c =
    let high = half_is_written (c.args.self.now / 2 ^ 32) (omega arith) in
    let low = half_is_written (c.args.self.now % 2 ^ 32) (omega arith) in
    rw (← high, ← low, ← c.self.view_is) (rw (c.in_radix.ensures, c.in_radix-2.ensures) at c.write.ensures.writes)
