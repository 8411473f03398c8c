use Rattle.std.proofs.Common.{◌<◌, ◌/◌, ◌^◌, ap, sym, ◌∙◌, arith}
use Rattle.std.proofs.lemmas.Nat.{xor_lt}
use Rattle.std.specs.Int.Bits.{bit_xor}
use Rattle.pgcrc.proofs.Dividing.{idle}
use Rattle.pgcrc.proofs.Bytes.{by_rows, eight_entered}
use Rattle.pgcrc.proofs.crc.after_eight.Goals as goal

pub bounds-word-8 : goal.bounds-word-8
bounds-word-8 c =
    let fits = xor_lt 64 c.from.result c.from_le_bytes-eight.result (omega arith) (omega arith) in
    omega arith

pub returns : goal.returns
returns c =
    let eight = c.from_le_bytes-eight.result in
    let word = bit_xor c.from.result eight in
    let fits = xor_lt 64 c.from.result eight (omega arith) (omega arith) in
    let high : word / 2 ^ 56 < 256 = omega arith in
    by_rows word high
    ∙ ap (λ r. idle 64 (bit_xor r eight)) c.from.ensures
    ∙ ap (λ n. idle 64 (bit_xor c.args.register n)) c.from_le_bytes-eight.ensures
    ∙ sym (eight_entered c.args.register c.args.bytes.now c.requires (λ i. omega (arith, c.type_inv.bytes i)))
