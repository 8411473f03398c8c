use Rattle.std.proofs.Common.{◌≡◌, take}
use Rattle.pgcrc.specs.Crc.{after_bits, message_bits}
use Rattle.pgcrc.proofs.crc.after_each.Given as goal

abbrev pub invariant-loop-byte : goal.invariant-loop-byte
invariant-loop-byte l = l.after ≡ after_bits l.fn.register (message_bits (take l.byte-index l.bytes))
