use Rattle.pgfeed.proofs.Lasting.{outlast}
use Rattle.pgfeed.proofs.laws.feeds_outlast_crashes.Goals as goal

pub returns : goal.returns
returns g c =
    outlast g.F.File.Disk.seen g.F.File.Disk.may_leave g.F.File.Disk.is_clean g.F.Folder.is_true g.F.Folder.places g.F.Folder.has
    g.met.F.File.Disk.seen_may_stay
