use Rattle.std.proofs.Common.{◌∙◌, ap, sym, codes}
use Rattle.std.specs.Option.{is_some}
use Rattle.clap.specs.Words.{found_of, rows_of}
use Rattle.clap.proofs.WalkLemmas.{first_value-rows}
use Rattle.pgcommand.proofs.Building.{misnamed, not_given, well_named}
use Rattle.pgcommand.proofs.task.unknown_watch.Goals as goal

pub returns-in_err-word : goal.returns-in_err-word
returns-in_err-word c =
    ap (λ o. is_some o) c.from_residual.ensures
    ∙ not_given (rows_of (found_of c.args.found.now)) (c.in_err-word.ensures ∙ first_value-rows (found_of c.args.found.now) (codes "watch"))

pub returns-in-Some : goal.returns-in-Some
returns-in-Some c =
    well_named (rows_of (found_of c.args.found.now)) c.in_ok-word.word.now c.in-Some.field-0
    (c.in_ok-word.ensures ∙ first_value-rows (found_of c.args.found.now) (codes "watch")) (sym c.of.ensures ∙ c.in-Some.is)

pub returns-in-None : goal.returns-in-None
returns-in-None c =
    misnamed (rows_of (found_of c.args.found.now)) c.in_ok-word.word.now
    (c.in_ok-word.ensures ∙ first_value-rows (found_of c.args.found.now) (codes "watch")) (sym c.of.ensures ∙ c.in-None.is)
