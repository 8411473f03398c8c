use Rattle.std.proofs.Common.{◌∙◌, sym, ap, subst}
use Rattle.std.specs.Prelude.{IsTrue}
use Rattle.pglogical.specs.declared.message.Item.{Item}
use Rattle.pglogical.specs.BorrowedItems.{def_value, item_value}
use Rattle.pglogical.specs.Spelling.{IsSpellable}
use Rattle.pglogical.proofs.SpellableLaws.{definition_from_test, test_from_definition}
use Rattle.pglogical.proofs.message_ref.ItemRef.spellable.Goals as goal

pub returns-in-Relation : goal.returns-in-Relation
returns-in-Relation c =
    let def = def_value c.in-Relation.def in
    let is = sym (ap item_value c.in-Relation.is) ∙ c.parts.ensures in
    subst (λ (i : Item). (IsTrue c.passes.result → IsSpellable i) × (IsSpellable i → IsTrue c.passes.result)) is
    ((λ h. definition_from_test def (sym c.passes.ensures ∙ h)), (λ h. c.passes.ensures ∙ test_from_definition def h))
