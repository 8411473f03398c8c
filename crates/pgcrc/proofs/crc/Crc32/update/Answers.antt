use Rattle.std.proofs.Common.{◌≡◌, ◌+◌, ◌-◌, ◌*◌, ◌/◌, length, take, drop, refl, ap, sym, ◌∙◌}
use Rattle.std.proofs.Common.{arith, length-drop}
use Rattle.std.proofs.lemmas.List.{take_all, take-append-drop}
use Rattle.pgcrc.specs.Crc.{after_bits, message_bits, ones}
use Rattle.pgcrc.specs.Covering.{Covers}
use Rattle.pgcrc.proofs.Bytes.{message_append, take_eight}
use Rattle.pgcrc.proofs.crc.Crc32.update.Goals as goal

pub loop-i-init : goal.loop-i-init
unfolding after_bits
loop-i-init c = refl

pub loop-i-preserved : goal.loop-i-preserved
loop-i-preserved c =
    let start = c.args.self.now.register in
    let bytes = c.args.bytes.now in
    let at = 8 * c.loop-i.i in
    let eight = take 8 (drop at bytes) in
    let count : at + 8 - at ≡ 8 = omega arith in
    let behind : at + 8 ≡ 8 * (c.loop-i.i + 1) = omega arith in
    c.after_eight-register.ensures
    ∙ ap (λ n. after_bits c.loop-i.register (message_bits (take n (drop at bytes)))) count
    ∙ ap (λ r. after_bits r (message_bits eight)) c.loop-i.invariant
    ∙ sym (message_append start (take at bytes) eight)
    ∙ ap (λ bs. after_bits start (message_bits bs)) (sym (take_eight bytes at))
    ∙ ap (λ n. after_bits start (message_bits (take n bytes))) behind

pub returns : goal.returns
unfolding Covers
returns c = λ before covers.
    let start = c.args.self.now.register in
    let bytes = c.args.bytes.now in
    let at = 8 * (length bytes / 8) in
    let rest = drop at bytes in
    let ends : 8 * c.loop-i.i ≡ at = omega arith in
    c.after_each-self.ensures
    ∙ ap (λ bs. after_bits c.loop-i.register (message_bits bs)) (take_all (length bytes - at) rest (omega (arith, length-drop at bytes)))
    ∙ ap (λ r. after_bits r (message_bits rest)) (c.loop-i.invariant ∙ ap (λ n. after_bits start (message_bits (take n bytes))) ends)
    ∙ sym (message_append start (take at bytes) rest)
    ∙ ap (λ bs. after_bits start (message_bits bs)) (take-append-drop at bytes)
    ∙ ap (λ r. after_bits r (message_bits bytes)) covers
    ∙ sym (message_append ones before bytes)
