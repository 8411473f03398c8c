use Rattle.std.proofs.Common.{rules, tests, sym, ◌∙◌}
use Rattle.std.specs.Prelude.{◌==◌, ◌||◌}
use Rattle.std.proofs.lemmas.Iterator.{YieldsList-from_slice}
use Rattle.std.proofs.lemmas.Iterator.Search.{any_from_yields_List}
use Rattle.pgcopy.proofs.Plain.{plain_value}
use Rattle.pgcopy.proofs.value.is_plain.Goals as goal

pub returns : goal.returns
returns c =
    let any = any_from_yields_List (λ byte. byte == 92 || byte == 13) _ _ c.any.result c.any.ensures.ran
    (YieldsList-from_slice c.args.field.now cc)
    (λ x b q k. search (rules, tests)) in
    λ is. plain_value c.args.field.now (sym any ∙ search rules)
