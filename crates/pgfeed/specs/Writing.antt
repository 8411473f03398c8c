-- A writer of JSON that has written a value more.
use Rattle.std.specs.Prelude.{◌≡◌, ◌++◌}
use Rattle.json.specs.Tree.{json_tokens}
use Rattle.json.specs.Written.{Written}
use Rattle.serde_json.specs.Data.{Data}
use Rattle.serde_json.specs.Written.{outline}

-- what stood before is the same, and the tokens of the value come behind the others
abbrev pub WritesData : Data → Written → Written → Type 0
WritesData d old new = (new.before ≡ old.before) × (new.tokens ≡ old.tokens ++ json_tokens (outline d))
