use Rattle.pgwatched.proofs.Refused as refused
use Rattle.pgwatched.proofs.Framing as framing
use Rattle.pgwatched.proofs.laws.broken_is_not_sent.Goals as goal

pub returns : goal.returns
returns c = record { sent = refused.broken_is_not_sent; frames = framing.broken_is_no_session }
