use Rattle.std.proofs.Common.{ap, sym, ◌∙◌, replicate}
use Rattle.std.specs.Int.Bits.{bit_xor}
use Rattle.pgcrc.specs.Crc.{after_bits, message_bits, crc32}
use Rattle.pgcrc.proofs.Joining.{joined_crc}
use Rattle.pgcrc.proofs.crc.Crc32.followed_by.Goals as goal

pub returns : goal.returns
returns c = λ before more covers same long.
    ap (λ r. bit_xor r c.args.behind) c.after_zeros.ensures
    ∙ ap (λ r. bit_xor (after_bits r (message_bits (replicate c.args.count 0))) c.args.behind) (c.value.ensures before covers)
    ∙ ap (λ n. bit_xor (after_bits (crc32 before) (message_bits (replicate n 0))) c.args.behind) (sym long)
    ∙ ap (bit_xor _) same
    ∙ sym (joined_crc before more)
