use Rattle.std.proofs.Common.{◌≡◌, ◌+◌, ◌*◌, ◌%◌, replicate, refl, ap, ◌∙◌, arith}
use Rattle.std.proofs.lemmas.List.{take-replicate}
use Rattle.pgcrc.specs.Crc.{after_bits, message_bits}
use Rattle.pgcrc.proofs.Joining.{more_zeros}
use Rattle.pgcrc.proofs.crc.after_zeros.Goals as goal

pub loop-init : goal.loop-init
unfolding after_bits
loop-init c = refl

pub loop-preserved : goal.loop-preserved
loop-preserved c =
    let start = c.args.register in
    let at = 8 * c.loop.counter in
    let behind : at + 8 ≡ 8 * (c.loop.counter + 1) = omega arith in
    c.after_eight-after.ensures
    ∙ ap (λ r. after_bits r (message_bits (replicate 8 0))) c.loop.invariant
    ∙ more_zeros start at 8
    ∙ ap (λ n. after_bits start (message_bits (replicate n 0))) behind

pub returns : goal.returns
returns c =
    let start = c.args.register in
    let at = 8 * c.loop.counter in
    let rest = c.args.count % 8 in
    let all : at + rest ≡ c.args.count = omega arith in
    c.after_each.ensures
    ∙ ap (λ bs. after_bits c.loop.after (message_bits bs)) (take-replicate rest 8 0 (omega arith))
    ∙ ap (λ r. after_bits r (message_bits (replicate rest 0))) c.loop.invariant
    ∙ more_zeros start at rest
    ∙ ap (λ n. after_bits start (message_bits (replicate n 0))) all
