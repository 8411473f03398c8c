use Rattle.pglsn.proofs.Halves.{one_reading}
use Rattle.pglsn.proofs.text_reads_as_one.Goals as goal

pub returns : goal.returns
returns c = one_reading
