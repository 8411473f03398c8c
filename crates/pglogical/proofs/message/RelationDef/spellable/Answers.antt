use Rattle.std.proofs.Common.{◌∙◌, sym, ap}
use Rattle.pglogical.specs.SpellableTests.{definition_passes}
use Rattle.pglogical.proofs.SpellableLaws.{definition_from_test, test_from_definition}
use Rattle.pglogical.proofs.message.RelationDef.spellable.Goals as goal

pub returns : goal.returns
returns c =
    let test = c.passes.ensures ∙ ap definition_passes c.borrowed.ensures in
    ((λ h. definition_from_test c.args.self.now (sym test ∙ h)), (λ h. test ∙ test_from_definition c.args.self.now h))
