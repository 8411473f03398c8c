-- The line that tells what ends the watch over a session of a server that is followed.
use Rattle.std.specs.Prelude.{◌≡◌, ◌⊎◌, ◌++◌, ℕ, List, Option}
use Rattle.std.specs.Prelude.{Some, None, codes, decimal, unwrap_or}
use Rattle.pgrules.specs.declared.findings.Findings.{Findings}
use Rattle.pgrules.specs.declared.rules.Rule.{Rule}
use Rattle.pgrules.specs.declared.rules.Rule.TheVariants as rule
use Rattle.pgrules.specs.Rules.{broken_rule, place_of}
use Rattle.pgsub_cli.specs.Watched.{end_text}

abbrev pub rule_name : Rule → List ℕ
rule_name rule.Order = codes "order"
rule_name rule.Nested = codes "rule 2"
rule_name rule.Described = codes "rule 3"
rule_name rule.Keepalives = codes "rule 4"
rule_name rule.Frames = codes "rule 5"
rule_name rule.Texts = codes "rule 6"
rule_name rule.Messages = codes "rule 7"

-- an offset is that of the frame, in bytes from the session's first one
abbrev pub watch_line_of : Option Rule → ℕ → List ℕ → List ℕ
watch_line_of (Some r) at why =
    codes "pgsub: watch: " ++ (rule_name r ++ (codes " broken at " ++ (decimal at ++ (codes ": " ++ (why ++ codes "\n")))))
watch_line_of None at why =
    codes "pgsub: watch: not watched from " ++ (decimal at ++ (codes " on: " ++ (why ++ codes "\n")))

abbrev pub watch_line : Findings → List ℕ
watch_line found = watch_line_of (broken_rule found.end) (unwrap_or (place_of found.end) 0) (end_text found.end)

module _ {E : Type 0} (takes : E → List ℕ → E → Type 0) (failed : E → Type 0) where
  -- The line is written, or it couldn't be made or written.
  abbrev pub TellsFound : Findings → E → E → Type 0
  TellsFound found old new = takes old (watch_line found) new ⊎ ((new ≡ old) ⊎ failed old)
