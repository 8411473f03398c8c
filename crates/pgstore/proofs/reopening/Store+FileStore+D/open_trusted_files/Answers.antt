use Rattle.sqlite.specs.Files.{over_files}
use Rattle.pgstore.proofs.Reopened.{left_is_reopened}
use Rattle.pgstore.proofs.reopening.Store+FileStore+D.open_trusted_files.Goals as goal

pub returns-in-Ok-clause-reopens : goal.returns-in-Ok-clause-reopens
returns-in-Ok-clause-reopens g c honest old left = left_is_reopened g.D.Disk over_files old _ _ left (c.in-Ok.ensures.stood honest)
