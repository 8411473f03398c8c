use Rattle.std.proofs.Common.{◌∙◌, ap, unwrap_or, [], Bor, List, ℕ}
use Rattle.std.proofs.lemmas.Result.{IfOk-weaker}
use Rattle.clap.specs.Words.{found_of}
use Rattle.clap.proofs.WalkLemmas.{first_value-rows}
use Rattle.pgcommand.proofs.Building.{default_text}
use Rattle.pgcommand.proofs.task.value_of.Goals as goal

pub returns : goal.returns
returns c =
    let value = c.get_str.ensures ∙ first_value-rows (found_of c.args.found.now) c.args.name.now in
    let text = ap (λ (s : Bor (List ℕ)). s.now) c.unwrap_or.ensures ∙ default_text c.get_str.result _ ∙ ap (λ o. unwrap_or o []) value in
    IfOk-weaker c.from_str.result _ _ (λ s h. h ∙ text) c.from_str.ensures.ok
