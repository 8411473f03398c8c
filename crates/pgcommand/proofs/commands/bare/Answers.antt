use Rattle.std.proofs.Common.{◌∙◌, ap, true}
use Rattle.clap.specs.Simple.{app_of_fields, on_top}
use Rattle.pgcommand.proofs.commands.bare.Goals as goal

pub returns : goal.returns
returns c = (
  ap app_of_fields c.subcommand_required.ensures
      ∙ ap (λ f. app_of_fields (record f { subcommand_required = true })) c.version.ensures
      ∙ ap (on_top (λ s. record s { has_version = true; subcommand_required = true })) c.named.ensures.0,
  ap (λ f. f.has_globals) c.subcommand_required.ensures ∙ ap (λ f. f.has_globals) c.version.ensures ∙ c.named.ensures.1,
)
