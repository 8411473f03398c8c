use Rattle.std.proofs.Common.{rules, ◌∙◌, codes}
use Rattle.std.specs.Str.Parse.{ParsesUnsigned, ExplainsUnsignedError, HasUnsignedDigitsIfOk}
use Rattle.clap.specs.Words.{found_of}
use Rattle.clap.proofs.WalkLemmas.{one_text-rows}
use Rattle.pgcommand.proofs.Building.{reads_as_one, is_one, none_is_not_one}
use Rattle.pgcommand.proofs.task.wants_one.Goals as goal

pub returns-in-Some : goal.returns-in-Some
returns-in-Some c =
    let same = one_text-rows (found_of c.args.found.now) (codes "proto") in
    is_one _ _ _ (search rules)
    (reads_as_one _ (λ bs r. ParsesUnsigned 8 10 bs r × ExplainsUnsignedError 10 bs r × HasUnsignedDigitsIfOk bs r) _ c.get_one.result
    (λ u x g. g.0)
    (λ e. c.get_one.ensures.none (same ∙ e)) (λ u e. c.get_one.ensures.value u (same ∙ e)))

pub returns-in-None : goal.returns-in-None
returns-in-None c =
    let same = one_text-rows (found_of c.args.found.now) (codes "proto") in
    none_is_not_one _ _ (search rules)
    (reads_as_one _ (λ bs r. ParsesUnsigned 8 10 bs r × ExplainsUnsignedError 10 bs r × HasUnsignedDigitsIfOk bs r) _ c.get_one.result
    (λ u x g. g.0)
    (λ e. c.get_one.ensures.none (same ∙ e)) (λ u e. c.get_one.ensures.value u (same ∙ e)))
