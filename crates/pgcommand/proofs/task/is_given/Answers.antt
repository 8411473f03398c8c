use Rattle.std.proofs.Common.{◌∙◌, ap, List, ℕ, Option}
use Rattle.std.specs.Option.{is_some}
use Rattle.clap.specs.Words.{found_of}
use Rattle.clap.proofs.WalkLemmas.{first_value-rows}
use Rattle.pgcommand.proofs.Building.{is_some_text}
use Rattle.pgcommand.proofs.task.is_given.Goals as goal

pub returns : goal.returns
returns c =
    c.is_some.ensures ∙ is_some_text c.get_str.result
    ∙ ap (λ (o : Option (List ℕ)). is_some o) (c.get_str.ensures ∙ first_value-rows (found_of c.args.found.now) c.args.name.now)
