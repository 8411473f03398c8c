use Rattle.std.proofs.Common.{sym}
use Rattle.pgtuple.proofs.SpelledReads.{count_read}
use Rattle.pgtuple.proofs.spelled.SpelledCells.len.Goals as goal

pub returns : goal.returns
returns c = rw (← c.self.view_is) (sym (count_read c.self.inside.left c.self.inside.reader c.self.invariant))
