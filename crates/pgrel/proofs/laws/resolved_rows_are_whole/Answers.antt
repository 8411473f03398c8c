use Rattle.pgrel.proofs.Rows.{resolved_width, resolved_whole, sent_stays}
use Rattle.pgrel.proofs.laws.resolved_rows_are_whole.Goals as goal

pub returns : goal.returns
returns c = record { width = resolved_width; whole = resolved_whole; sent = sent_stays }
