use Rattle.std.proofs.Common.{sym, ap, subst₂, ◌∙◌, true≢false}
use Rattle.std.proofs.lemmas.Bool.{eqb-true}
use Rattle.pgtables.specs.Kept as stored
use Rattle.pgreshaping.specs.Rewrites.{KeepsKey}
use Rattle.pgreshaping.proofs.KeptKeys.{stays_known}
use Rattle.pgreshaping.proofs.keys.keeps_identity.Goals as goal
use Rattle.pgreshaping.proofs.keys.keeps_identity.Goals.{then-letter-from, else-letter-from}
use Rattle.pgreshaping.proofs.keys.keeps_identity.Goals.{then-keyed, else-keyed}

pub returns-then-keyed-2 : goal.returns-then-keyed-2
returns-then-keyed-2 c keeps there is e = elim c.if-keyed.branch [
  | else-keyed w ↦ absurd (true≢false (sym c.if-keyed-2.true ∙ w.value-is ∙ w.if-keyed.false))
  | then-keyed w ↦ elim c.if-letter-from.branch [
    | else-letter-from u ↦ absurd (u.if-letter-from.false (eqb-true c.letter.result c.from.result (sym u.value-is ∙ w.if-keyed.true)))
    | then-letter-from u ↦ stays_known there c.args.old.now c.args.def.now c.args.stored.now c.requires is e
        (sym (ap (λ (d : stored.Definition). d.letter) e) ∙ sym c.letter.ensures ∙ u.if-letter-from.true ∙ c.from.ensures)
        (sym u.keyed.ensures ∙ sym u.value-is ∙ w.if-keyed.true)
        (sym w.keyed-then-keyed.ensures ∙ sym w.value-is ∙ c.if-keyed-2.true)
        (subst₂ KeepsKey c.as_slice.ensures c.as_slice-then-keyed-2.ensures (c.keeps_key.ensures keeps))
  ]
]
