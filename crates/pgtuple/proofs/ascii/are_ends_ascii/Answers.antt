use Rattle.std.proofs.Common.{◌-◌, length, arith, subst}
use Rattle.std.specs.Str.{IsAscii}
use Rattle.std.proofs.lemmas.Bool.{and_parts}
use Rattle.pgtuple.proofs.AsciiWords.{both_ends}
use Rattle.pgtuple.proofs.ascii.are_ends_ascii.Goals as goal

pub returns-in-Some-Some : goal.returns-in-Some-Some
returns-in-Some-Some c = λ yes.
    let bytes = c.args.bytes.now in
    let words = and_parts c.is_word_ascii.result c.is_word_ascii-in-Some-Some.result yes in
    both_ends 8 (length bytes - 8) bytes (omega (arith, c.requires.covered))
    (subst IsAscii c.in-Some-Some.ensures.cases.same (c.is_word_ascii.ensures words.0))
    (subst IsAscii c.in-Some-Some.ensures'.cases.1.same (c.is_word_ascii-in-Some-Some.ensures words.1))
