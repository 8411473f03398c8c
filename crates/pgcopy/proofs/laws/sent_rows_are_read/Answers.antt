use Rattle.pgcopy.proofs.Sending.{sent_is_read}
use Rattle.pgcopy.proofs.laws.sent_rows_are_read.Goals as goal

pub returns : goal.returns
returns c = sent_is_read
