use Rattle.std.proofs.Common.{◌∙◌, ap}
use Rattle.clap.specs.Simple.{app_of_fields}
use Rattle.pgcommand.proofs.commands.bare_watch.Goals as goal

pub returns : goal.returns
returns c = (
  ap app_of_fields c.after_help.ensures ∙ c.named.ensures.0,
  ap (λ f. f.has_globals) c.after_help.ensures ∙ c.named.ensures.1,
)
