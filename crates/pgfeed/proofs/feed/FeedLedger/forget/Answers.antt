use Rattle.std.proofs.Common.{inl, refl}
use Rattle.pgfeed.proofs.Beside.{rest_rests}
use Rattle.pgfeed.proofs.Following.{goes_stays, stays_beside}
use Rattle.pgfeed.proofs.feed.FeedLedger.forget.Goals as goal

pub returns-clause-rests : goal.returns-clause-rests
returns-clause-rests g c =
    let after = record c.args.self.now { hearing = c.forget.new.self } in
    rest_rests g.F.File.Disk.seen g.F.File.Disk.may_leave g.F.File.Disk.is_clean g.F.Folder.is_true g.F.Folder.places
    g.F.Folder.has c.args.self.now after refl refl
    (goes_stays g.F.File.Disk.seen g.F.File.Disk.may_leave g.F.File.Disk.is_clean g.F.Folder.is_true g.F.Folder.places g.F.Folder.has
    c.args.self.now after
    (stays_beside g.F.File.Disk.seen g.F.File.Disk.may_leave g.F.File.Disk.is_clean g.F.Folder.is_true g.F.Folder.places g.F.Folder.has
    c.args.self.now after refl refl refl (inl refl)))

pub returns-clause-within : goal.returns-clause-within
returns-clause-within g c = c.forget.ensures.within c.args.self.now.limits.messages
