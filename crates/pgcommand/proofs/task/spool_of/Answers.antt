use Rattle.std.proofs.Common.{◌∙◌, ap, sym, codes, Bor, List, ℕ, Option}
use Rattle.std.specs.Option.{option_map}
use Rattle.clap.specs.Words.{found_of}
use Rattle.clap.proofs.WalkLemmas.{first_value-rows}
use Rattle.pgcommand.proofs.task.spool_of.Goals as goal

texts : Option (Bor (List ℕ)) → Option (List ℕ)
texts = option_map (λ s. s.now)

pub returns-in_ok-spool_in-in-Some : goal.returns-in_ok-spool_in-in-Some
unfolding texts
returns-in_ok-spool_in-in-Some c =
    c.in_ok-spool_in-in-Some.ensures
    (ap texts (sym c.in-Some.is) ∙ (c.get_str.ensures ∙ first_value-rows (found_of c.args.found.now) (codes "spool")))

pub returns-in-None : goal.returns-in-None
unfolding texts
returns-in-None c =
    sym (ap texts (sym c.in-None.is) ∙ (c.get_str.ensures ∙ first_value-rows (found_of c.args.found.now) (codes "spool")))
