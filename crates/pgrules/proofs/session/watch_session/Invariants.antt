use Rattle.std.proofs.Common.{length}
use Rattle.pgrules.proofs.Goes.{IsUnderWay}
use Rattle.pgrules.proofs.session.watch_session.Given as goal

abbrev pub invariant-loop-rest : goal.invariant-loop-rest
invariant-loop-rest l = IsUnderWay l.fn.version l.fn.max_frame l.fn.limit l.bytes l.rest l.deframer l.watch l.seen

abbrev pub decreases-loop-rest : goal.decreases-loop-rest
decreases-loop-rest l = length l.rest
