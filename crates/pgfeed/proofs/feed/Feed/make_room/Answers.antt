use Rattle.pgfeed.proofs.Following.{goes_on_by}
use Rattle.pgfeed.proofs.feed.Feed.make_room.Goals as goal

pub returns-in_err-begin_next-clause-goes : goal.returns-in_err-begin_next-clause-goes
returns-in_err-begin_next-clause-goes g c =
    goes_on_by g.F.File.Disk.seen g.F.File.Disk.may_leave g.F.File.Disk.is_clean g.F.Folder.is_true g.F.Folder.places g.F.Folder.has _ _ _
    c.let_settled_go.ensures.goes c.begin_next.ensures.goes

pub returns-then-ends_before-clause-goes : goal.returns-then-ends_before-clause-goes
returns-then-ends_before-clause-goes g c =
    goes_on_by g.F.File.Disk.seen g.F.File.Disk.may_leave g.F.File.Disk.is_clean g.F.Folder.is_true g.F.Folder.places g.F.Folder.has _ _ _
    c.let_settled_go.ensures.goes c.begin_next.ensures.goes
