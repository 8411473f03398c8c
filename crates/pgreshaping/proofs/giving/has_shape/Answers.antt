use Rattle.std.proofs.Common.{sym, ap, ◌∙◌}
use Rattle.pgtables.specs.Kept as stored
use Rattle.pgreshaping.proofs.Definitions.{read_shape}
use Rattle.pgreshaping.proofs.giving.has_shape.Goals as goal

pub returns-then-letter-from : goal.returns-then-letter-from
returns-then-letter-from c there is e =
    c.same_shape.ensures
    ∙ read_shape c.args.stored.now c.args.old.now there c.args.def.now c.requires is e
    (sym (ap (λ (d : stored.Definition). d.letter) e) ∙ sym c.letter.ensures ∙ c.if-letter-from.true ∙ c.from.ensures)
