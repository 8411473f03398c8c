use Rattle.std.proofs.Common.{arith}
use Rattle.pgrules.proofs.Keeping.{keeps_none}
use Rattle.pgrules.proofs.guarded.Guarded.read_watched.Goals as goal

pub returns-in-Err-clause-bytes : goal.returns-in-Err-clause-bytes
returns-in-Err-clause-bytes g c =
    keeps_none c.args.self.now.kept c.args.self.now.room.items _ _ (omega (arith, c.requires)) c.in-Err.ensures.bytes
