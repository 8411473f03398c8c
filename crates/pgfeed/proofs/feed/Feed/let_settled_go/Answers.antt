use Rattle.pgfeed.proofs.Following.{all_returned, goes_returned}
use Rattle.pgfeed.proofs.feed.Feed.let_settled_go.Goals as goal

pub returns-then-eq-clause-goes : goal.returns-then-eq-clause-goes
returns-then-eq-clause-goes g c =
    let done = c.let_go.ensures in
    goes_returned g.F.File.Disk.seen g.F.File.Disk.may_leave g.F.File.Disk.is_clean g.F.Folder.is_true g.F.Folder.places g.F.Folder.has
    c.args.self.now _
    (record { alone = done.ended; segment_is = done.segment; begins_is = done.begins; back = done.back })

pub returns-then-eq-clause-kept : goal.returns-then-eq-clause-kept
returns-then-eq-clause-kept g c =
    let done = c.let_go.ensures in
    all_returned g.F.File.Disk.seen g.F.File.Disk.may_leave g.F.File.Disk.is_clean g.F.Folder.is_true g.F.Folder.places g.F.Folder.has
    c.args.self.now _
    (record { alone = done.ended; segment_is = done.segment; begins_is = done.begins; back = done.back })
