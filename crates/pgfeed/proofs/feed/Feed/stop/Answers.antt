use Rattle.std.proofs.Common.{refl}
use Rattle.pgfeed.proofs.Following.{all_stays, goes_stays, stays_stopped}
use Rattle.pgfeed.proofs.feed.Feed.stop.Goals as goal

pub returns-clause-goes : goal.returns-clause-goes
returns-clause-goes g c =
    goes_stays g.F.File.Disk.seen g.F.File.Disk.may_leave g.F.File.Disk.is_clean g.F.Folder.is_true g.F.Folder.places g.F.Folder.has
    c.args.self.now _
    (stays_stopped g.F.File.Disk.seen g.F.File.Disk.may_leave g.F.File.Disk.is_clean g.F.Folder.is_true g.F.Folder.places g.F.Folder.has
    c.args.self.now _ refl refl refl c.stop.ensures)

pub returns-clause-kept : goal.returns-clause-kept
returns-clause-kept g c =
    all_stays g.F.File.Disk.seen g.F.File.Disk.may_leave g.F.File.Disk.is_clean g.F.Folder.is_true g.F.Folder.places g.F.Folder.has
    c.args.self.now _
    (stays_stopped g.F.File.Disk.seen g.F.File.Disk.may_leave g.F.File.Disk.is_clean g.F.Folder.is_true g.F.Folder.places g.F.Folder.has
    c.args.self.now _ refl refl refl c.stop.ensures)
