use Rattle.std.proofs.Common.{refl}
use Rattle.pgfeed.proofs.Following.{all_quiet, goes_quiet, on_behind}
use Rattle.pgfeed.proofs.feed.Feed.drop_draft.Goals as goal

pub returns-clause-goes : goal.returns-clause-goes
returns-clause-goes g c =
    let done = c.drop_draft.ensures in
    goes_quiet g.F.File.Disk.seen g.F.File.Disk.may_leave g.F.File.Disk.is_clean g.F.Folder.is_true g.F.Folder.places g.F.Folder.has
    c.args.self.now _
    (on_behind g.F.File.Disk.seen g.F.File.Disk.may_leave g.F.File.Disk.is_clean g.F.Folder.is_true g.F.Folder.places g.F.Folder.has
    c.args.self.now _ refl refl refl done.base done.last done.size done.behind done.clean)
    c.requires done.size done.last done.told

pub returns-clause-kept : goal.returns-clause-kept
returns-clause-kept g c =
    let done = c.drop_draft.ensures in
    all_quiet g.F.File.Disk.seen g.F.File.Disk.may_leave g.F.File.Disk.is_clean g.F.Folder.is_true g.F.Folder.places g.F.Folder.has
    c.args.self.now _
    (on_behind g.F.File.Disk.seen g.F.File.Disk.may_leave g.F.File.Disk.is_clean g.F.Folder.is_true g.F.Folder.places g.F.Folder.has
    c.args.self.now _ refl refl refl done.base done.last done.size done.behind done.clean)
    c.requires done.size done.last done.told
