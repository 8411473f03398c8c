use Rattle.pgstore.proofs.AsLeft.{closed_is_left, crash_is_left}
use Rattle.pgstore.proofs.laws.left_files_may_be_trusted.Goals as goal

pub returns : goal.returns
returns g c = record { crashed = crash_is_left g.D.Disk; closed = closed_is_left g.D.Disk }
