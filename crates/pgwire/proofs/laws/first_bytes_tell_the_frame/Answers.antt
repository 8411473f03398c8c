use Rattle.pgwire.proofs.Readings.{one_frame, partial_is_short, fault_of_front}
use Rattle.pgwire.proofs.Holding.{fault-append, not_both}
use Rattle.pgwire.proofs.laws.first_bytes_tell_the_frame.Goals as goal

pub returns : goal.returns
returns c = record { same = one_frame; shorter = partial_is_short; apart = not_both; mended = fault-append; fault = fault_of_front }
