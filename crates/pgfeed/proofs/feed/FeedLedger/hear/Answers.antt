use Rattle.std.proofs.Common.{inl, inr, refl, Some}
use Rattle.pgfeed.specs.declared.fault.MessageFault.TheVariants.{Streamed}
use Rattle.pgfeed.proofs.Beside.{rest_keeps, rest_rests}
use Rattle.pgfeed.proofs.Following.{all_stays, goes_stays, stays_beside}
use Rattle.pgfeed.proofs.feed.FeedLedger.hear.Goals as goal

pub returns-then-message-clause-kept : goal.returns-then-message-clause-kept
returns-then-message-clause-kept g c =
    let after = record c.args.self.now { segment = c.stop.new.self; hearing = c.lose.new.self; cause = Some Streamed } in
    rest_keeps g.F.File.Disk.seen g.F.File.Disk.may_leave g.F.File.Disk.is_clean g.F.Folder.is_true g.F.Folder.places
    g.F.Folder.has c.args.self.now after refl
    (all_stays g.F.File.Disk.seen g.F.File.Disk.may_leave g.F.File.Disk.is_clean g.F.Folder.is_true g.F.Folder.places g.F.Folder.has
    c.args.self.now after
    (stays_beside g.F.File.Disk.seen g.F.File.Disk.may_leave g.F.File.Disk.is_clean g.F.Folder.is_true g.F.Folder.places g.F.Folder.has
    c.args.self.now after refl refl refl (inr c.stop.ensures)))

pub returns-then-message-clause-rests : goal.returns-then-message-clause-rests
returns-then-message-clause-rests g c =
    let after = record c.args.self.now { segment = c.stop.new.self; hearing = c.lose.new.self; cause = Some Streamed } in
    rest_rests g.F.File.Disk.seen g.F.File.Disk.may_leave g.F.File.Disk.is_clean g.F.Folder.is_true g.F.Folder.places
    g.F.Folder.has c.args.self.now after refl refl
    (goes_stays g.F.File.Disk.seen g.F.File.Disk.may_leave g.F.File.Disk.is_clean g.F.Folder.is_true g.F.Folder.places g.F.Folder.has
    c.args.self.now after
    (stays_beside g.F.File.Disk.seen g.F.File.Disk.may_leave g.F.File.Disk.is_clean g.F.Folder.is_true g.F.Folder.places g.F.Folder.has
    c.args.self.now after refl refl refl (inr c.stop.ensures)))

pub returns-clause-rests : goal.returns-clause-rests
returns-clause-rests g c =
    let after = record c.args.self.now { hearing = c.hear.new.self } in
    rest_rests g.F.File.Disk.seen g.F.File.Disk.may_leave g.F.File.Disk.is_clean g.F.Folder.is_true g.F.Folder.places
    g.F.Folder.has c.args.self.now after refl refl
    (goes_stays g.F.File.Disk.seen g.F.File.Disk.may_leave g.F.File.Disk.is_clean g.F.Folder.is_true g.F.Folder.places g.F.Folder.has
    c.args.self.now after
    (stays_beside g.F.File.Disk.seen g.F.File.Disk.may_leave g.F.File.Disk.is_clean g.F.Folder.is_true g.F.Folder.places g.F.Folder.has
    c.args.self.now after refl refl refl (inl refl)))
