use Rattle.std.proofs.Common.{◌≡◌, ◌-◌, length, take, drop, arith, subst}
use Rattle.std.specs.Str.{IsAscii}
use Rattle.std.proofs.lemmas.Bool.{and_parts}
use Rattle.std.proofs.lemmas.List.{length-drop, take_all}
use Rattle.pgtuple.proofs.AsciiWords.{both_ends}
use Rattle.pgtuple.proofs.ascii.is_short_ascii.Goals as goal

pub returns : goal.returns
returns c = λ yes.
    let bytes = c.args.bytes.now in
    let back = drop (length bytes - 16) bytes in
    let ends = and_parts c.are_ends_ascii-2.result c.are_ends_ascii-3.result yes in
    let all : take (length bytes - (length bytes - 16)) back ≡ back =
    take_all (length bytes - (length bytes - 16)) back (omega (arith, length-drop (length bytes - 16) bytes)) in
    both_ends 16 (length bytes - 16) bytes (omega (arith, c.if-len-gt32.false)) (c.are_ends_ascii-2.ensures ends.0)
    (subst IsAscii all (c.are_ends_ascii-3.ensures ends.1))
