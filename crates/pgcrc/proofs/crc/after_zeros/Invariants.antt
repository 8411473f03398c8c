use Rattle.std.proofs.Common.{◌≡◌, ◌*◌, replicate}
use Rattle.pgcrc.specs.Crc.{after_bits, message_bits}
use Rattle.pgcrc.proofs.crc.after_zeros.Given as goal

abbrev pub invariant-loop : goal.invariant-loop
invariant-loop l = l.after ≡ after_bits l.fn.register (message_bits (replicate (8 * l.counter) 0))
