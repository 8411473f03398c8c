use Rattle.std.proofs.Common.{refl}
use Rattle.pgjson.proofs.Plain.{line_as}
use Rattle.pgjson.proofs.lines.done_line.Goals as goal

pub returns : goal.returns
returns c = line_as _ _ _ c.in_ok-value.ensures refl c.line_of.ensures
