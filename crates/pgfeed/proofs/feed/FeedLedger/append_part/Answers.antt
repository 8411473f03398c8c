use Rattle.std.proofs.Common.{◌∙◌}
use Rattle.pgfeed.proofs.Beside.{rest_keeps, rest_rests}
use Rattle.pgfeed.proofs.Following.{goes_on_by}
use Rattle.pgfeed.proofs.feed.FeedLedger.append_part.Goals as goal

pub returns-in-Ok-clause-rests : goal.returns-in-Ok-clause-rests
returns-in-Ok-clause-rests g c =
    let done = c.in-Ok.ensures in
    rest_rests g.F.File.Disk.seen g.F.File.Disk.may_leave g.F.File.Disk.is_clean g.F.Folder.is_true g.F.Folder.places g.F.Folder.has
    c.args.self.now c.add_to_draft.new.self done.begins done.limits done.goes

pub returns-in-Err-clause-rests : goal.returns-in-Err-clause-rests
returns-in-Err-clause-rests g c =
    let failed = c.in-Err.ensures in
    rest_rests g.F.File.Disk.seen g.F.File.Disk.may_leave g.F.File.Disk.is_clean g.F.Folder.is_true g.F.Folder.places g.F.Folder.has
    c.args.self.now c.stop.new.self (c.stop.ensures.begins ∙ failed.begins) (c.stop.ensures.limits ∙ failed.limits)
    (goes_on_by g.F.File.Disk.seen g.F.File.Disk.may_leave g.F.File.Disk.is_clean g.F.Folder.is_true g.F.Folder.places g.F.Folder.has
    c.args.self.now c.add_to_draft.new.self c.stop.new.self failed.goes c.stop.ensures.goes)

pub returns-in-Ok-clause-kept : goal.returns-in-Ok-clause-kept
returns-in-Ok-clause-kept g c =
    let done = c.in-Ok.ensures in
    rest_keeps g.F.File.Disk.seen g.F.File.Disk.may_leave g.F.File.Disk.is_clean g.F.Folder.is_true g.F.Folder.places g.F.Folder.has
    c.args.self.now c.add_to_draft.new.self done.begins done.kept

pub returns-in-Err-clause-kept : goal.returns-in-Err-clause-kept
returns-in-Err-clause-kept g c =
    let failed = c.in-Err.ensures in
    rest_keeps g.F.File.Disk.seen g.F.File.Disk.may_leave g.F.File.Disk.is_clean g.F.Folder.is_true g.F.Folder.places g.F.Folder.has
    c.args.self.now c.stop.new.self (c.stop.ensures.begins ∙ failed.begins) (λ es kept. c.stop.ensures.kept es (failed.kept es kept))
