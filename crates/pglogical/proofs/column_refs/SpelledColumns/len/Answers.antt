use Rattle.std.proofs.Common.{sym}
use Rattle.pglogical.proofs.ColumnReads.{count_read}
use Rattle.pglogical.proofs.column_refs.SpelledColumns.len.Goals as goal

pub returns : goal.returns
returns c = rw (← c.self.view_is) (sym (count_read c.self.inside.left c.self.inside.reader c.self.invariant))
