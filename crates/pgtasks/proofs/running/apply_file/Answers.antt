use Rattle.std.proofs.Common.{inr}
use Rattle.pgtasks.proofs.running.apply_file.Goals as goal

pub returns : goal.returns
returns g c = inr (c.in_ok-incoming.incoming, c.in_ok-incoming.ensures.comes, c.apply.ensures)
