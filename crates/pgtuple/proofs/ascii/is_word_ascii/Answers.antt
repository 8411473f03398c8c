use Rattle.std.proofs.Common.{bit_and, sym, ap, ◌∙◌}
use Rattle.std.proofs.lemmas.Bool.{eqb-true}
use Rattle.pgtuple.proofs.AsciiWords.{high_bits, word_ascii}
use Rattle.pgtuple.proofs.ascii.is_word_ascii.Goals as goal

pub returns : goal.returns
returns c = λ yes. word_ascii c.args.bytes.now c.told-bytes c.fits-bytes
    (ap (λ w. bit_and w high_bits) (sym c.from_le_bytes.ensures) ∙ eqb-true _ _ yes)
