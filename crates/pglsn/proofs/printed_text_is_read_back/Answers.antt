use Rattle.pglsn.proofs.Printed.{text_reads}
use Rattle.pglsn.proofs.printed_text_is_read_back.Goals as goal

pub returns : goal.returns
returns c = text_reads
