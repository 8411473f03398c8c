use Rattle.std.proofs.Common.{◌∷◌, [], take, get_or, refl, ap, sym, ◌∙◌, arith, append-nil}
use Rattle.std.proofs.lemmas.List.{take_more, take_all}
use Rattle.pgcrc.specs.Crc.{bits, after_bits, message_bits}
use Rattle.pgcrc.proofs.Bytes.{message_append}
use Rattle.pgcrc.proofs.crc.after_each.Goals as goal

pub loop-byte-init : goal.loop-byte-init
unfolding after_bits
loop-byte-init c = refl

pub loop-byte-preserved : goal.loop-byte-preserved
loop-byte-preserved c =
    let bytes = c.args.bytes.now in
    let taken = take c.loop-byte.byte-index bytes in
    let byte = get_or bytes c.loop-byte.byte-index 0 in
    c.after_byte-after.ensures
    ∙ ap (λ r. after_bits r (bits 8 byte)) c.loop-byte.invariant
    ∙ ap (after_bits (after_bits c.args.register (message_bits taken))) (sym (append-nil (bits 8 byte)))
    ∙ sym (message_append c.args.register taken (byte ∷ []))
    ∙ ap (λ bs. after_bits c.args.register (message_bits bs)) (sym (take_more bytes c.loop-byte.byte-index 0 c.loop-byte-test.true))

pub returns : goal.returns
returns c =
    c.loop-byte.invariant
    ∙ ap (λ all. after_bits c.args.register (message_bits all)) (take_all c.loop-byte.byte-index c.args.bytes.now (omega arith))
