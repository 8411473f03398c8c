use Rattle.std.proofs.lemmas.Str.{is_utf8-from_IsUtf8}
use Rattle.pgreshaping.proofs.typed.name.Goals as goal

pub returns-clause-same : goal.returns-clause-same
returns-clause-same c = is_utf8-from_IsUtf8 c.args.text.now c.utf8.text
