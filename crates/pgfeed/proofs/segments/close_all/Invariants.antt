use Rattle.std.proofs.Common.{vec_len}
use Rattle.pgfeed.proofs.Folders.{TakesSome}
use Rattle.pgfeed.proofs.segments.close_all.Given as goal

abbrev pub invariant-closed : goal.invariant-closed
invariant-closed g l =
    g.F.Folder.is_true l.folder
    → TakesSome g.F.File.Disk.may_leave g.F.File.Disk.is_clean g.F.Folder.is_true g.F.Folder.places g.F.Folder.has l.fn.ended.items
    l.ended.items l.fn.folder l.folder

abbrev pub decreases-closed : goal.decreases-closed
decreases-closed g l = vec_len l.ended
