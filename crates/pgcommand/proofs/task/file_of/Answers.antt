use Rattle.std.proofs.Common.{◌∙◌, ap, sym, Bor, List, ℕ, Option, Some}
use Rattle.std.specs.Option.{option_map}
use Rattle.clap.specs.Words.{found_of}
use Rattle.clap.proofs.WalkLemmas.{first_value-rows}
use Rattle.pgcommand.proofs.task.file_of.Goals as goal

texts : Option (Bor (List ℕ)) → Option (List ℕ)
texts = option_map (λ s. s.now)

pub returns-in_ok-from_str-in-Some : goal.returns-in_ok-from_str-in-Some
unfolding texts
returns-in_ok-from_str-in-Some c =
    ap Some c.in_ok-from_str-in-Some.ensures.ok
    ∙ (ap texts (sym c.in-Some.is) ∙ (c.get_str.ensures ∙ first_value-rows (found_of c.args.found.now) c.args.name.now))

pub returns-in-None : goal.returns-in-None
unfolding texts
returns-in-None c =
    ap texts (sym c.in-None.is) ∙ (c.get_str.ensures ∙ first_value-rows (found_of c.args.found.now) c.args.name.now)
