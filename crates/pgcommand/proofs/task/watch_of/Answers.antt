use Rattle.std.proofs.Common.{◌∙◌, ap, codes, List, ℕ, Option}
use Rattle.std.specs.Option.{option_and_then}
use Rattle.clap.specs.Words.{found_of}
use Rattle.clap.proofs.WalkLemmas.{first_value-rows}
use Rattle.pgcommand.specs.declared.watching.Watching.{Watching}
use Rattle.pgcommand.specs.Asked.{watching_of}
use Rattle.pgcommand.proofs.task.watch_of.Goals as goal

says : Option (List ℕ) → Option Watching
says = option_and_then watching_of

pub returns-in_err-get_str : goal.returns-in_err-get_str
unfolding says
returns-in_err-get_str c =
    c.from_residual.ensures ∙ ap says (c.in_err-get_str.ensures ∙ first_value-rows (found_of c.args.found.now) (codes "watch"))

pub returns : goal.returns
unfolding says
returns c = c.of.ensures ∙ ap says (c.in_ok-get_str.ensures ∙ first_value-rows (found_of c.args.found.now) (codes "watch"))
