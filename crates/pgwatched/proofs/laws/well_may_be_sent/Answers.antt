use Rattle.pgwatched.proofs.Sent as sent
use Rattle.pgwatched.proofs.Framing as framing
use Rattle.pgwatched.proofs.laws.well_may_be_sent.Goals as goal

pub returns : goal.returns
returns c = record { sent = sent.well_may_be_sent; frames = framing.frames_are_a_session }
