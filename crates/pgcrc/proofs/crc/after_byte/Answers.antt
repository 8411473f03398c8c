use Rattle.std.proofs.Common.{◌<◌, ◌/◌, ◌%◌, ap, sym, ◌∙◌, arith}
use Rattle.std.specs.Int.Bits.{bit_xor}
use Rattle.pgcrc.specs.Crc.{bits, after_bits}
use Rattle.pgcrc.proofs.Bytes.{word_0, byte_entered}
use Rattle.pgcrc.proofs.crc.after_byte.Goals as goal

pub returns : goal.returns
returns c =
    let r = c.args.register in
    let below : bit_xor r c.from.result % 256 < 256 = omega arith in
    ap (λ word. bit_xor word (r / 256)) (word_0 (bit_xor r c.from.result % 256) below)
    ∙ sym (byte_entered r c.from.result)
    ∙ ap (λ b. after_bits r (bits 8 b)) c.from.ensures
