use Rattle.std.proofs.Common.{◌≡◌, ◌*◌, take}
use Rattle.pgcrc.specs.Crc.{after_bits, message_bits}
use Rattle.pgcrc.proofs.crc.Crc32.update.Given as goal

abbrev pub invariant-loop-i : goal.invariant-loop-i
invariant-loop-i l = l.register ≡ after_bits l.fn.self.register (message_bits (take (8 * l.i) l.bytes))
