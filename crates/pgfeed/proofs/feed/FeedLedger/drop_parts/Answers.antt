use Rattle.std.proofs.Common.{◌∙◌}
use Rattle.pgfeed.proofs.Beside.{rest_rests}
use Rattle.pgfeed.proofs.Following.{goes_on_by}
use Rattle.pgfeed.proofs.feed.FeedLedger.drop_parts.Goals as goal

pub returns-then-is_err-clause-rests : goal.returns-then-is_err-clause-rests
returns-then-is_err-clause-rests g c =
    let done = c.drop_draft.ensures in
    rest_rests g.F.File.Disk.seen g.F.File.Disk.may_leave g.F.File.Disk.is_clean g.F.Folder.is_true g.F.Folder.places g.F.Folder.has
    c.args.self.now c.stop.new.self (c.stop.ensures.begins ∙ done.begins) (c.stop.ensures.limits ∙ done.limits)
    (goes_on_by g.F.File.Disk.seen g.F.File.Disk.may_leave g.F.File.Disk.is_clean g.F.Folder.is_true g.F.Folder.places g.F.Folder.has
    c.args.self.now c.drop_draft.new.self c.stop.new.self done.goes c.stop.ensures.goes)

pub returns-else-is_err-clause-rests : goal.returns-else-is_err-clause-rests
returns-else-is_err-clause-rests g c =
    let done = c.drop_draft.ensures in
    rest_rests g.F.File.Disk.seen g.F.File.Disk.may_leave g.F.File.Disk.is_clean g.F.Folder.is_true g.F.Folder.places g.F.Folder.has
    c.args.self.now c.drop_draft.new.self done.begins done.limits done.goes
