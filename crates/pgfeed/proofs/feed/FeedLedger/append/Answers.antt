use Rattle.std.proofs.Common.{◌∙◌, subst, sym}
use Rattle.pgledger.specs.Entries.{entry_of}
use Rattle.pgfeed.specs.Feeds.{MayEnd, heard_by}
use Rattle.pgfeed.proofs.Beside.{rest_appends, rest_at_most, rest_rests}
use Rattle.pgfeed.proofs.Ending.{ends_same}
use Rattle.pgfeed.proofs.Following.{goes_on_by}
use Rattle.pgfeed.proofs.feed.FeedLedger.append.Goals as goal

pub returns-in-Ok-clause-rests : goal.returns-in-Ok-clause-rests
returns-in-Ok-clause-rests g c =
    let done = c.in-Ok.ensures in
    rest_rests g.F.File.Disk.seen g.F.File.Disk.may_leave g.F.File.Disk.is_clean g.F.Folder.is_true g.F.Folder.places
    g.F.Folder.has c.args.self.now c.write.new.self done.begins done.limits done.goes

pub returns-in-Ok-clause-appended : goal.returns-in-Ok-clause-appended
returns-in-Ok-clause-appended g c =
    let done = c.in-Ok.ensures in
    rest_appends g.F.File.Disk.seen g.F.File.Disk.may_leave g.F.File.Disk.is_clean g.F.Folder.is_true g.F.Folder.places
    g.F.Folder.has c.args.self.now c.write.new.self done.begins
    (entry_of c.args.commit.now.end c.args.commit.now.about (heard_by c.args.self.now) c.args.commit.now.work.now.changes
    c.args.images.now) done.appended

pub returns-in-Err-clause-refused : goal.returns-in-Err-clause-refused
returns-in-Err-clause-refused g c =
    let failed = c.in-Err.ensures in
    rest_at_most g.F.File.Disk.seen g.F.File.Disk.may_leave g.F.File.Disk.is_clean g.F.Folder.is_true g.F.Folder.places g.F.Folder.has
    c.args.self.now c.stop.new.self (c.stop.ensures.begins ∙ failed.begins)
    c.args.commit.now.end (λ es kept. c.stop.ensures.kept es (failed.kept es kept))

pub returns-in-Err-clause-rests : goal.returns-in-Err-clause-rests
returns-in-Err-clause-rests g c =
    let failed = c.in-Err.ensures in
    rest_rests g.F.File.Disk.seen g.F.File.Disk.may_leave g.F.File.Disk.is_clean g.F.Folder.is_true g.F.Folder.places g.F.Folder.has
    c.args.self.now c.stop.new.self (c.stop.ensures.begins ∙ failed.begins) (c.stop.ensures.limits ∙ failed.limits)
    (goes_on_by g.F.File.Disk.seen g.F.File.Disk.may_leave g.F.File.Disk.is_clean g.F.Folder.is_true g.F.Folder.places g.F.Folder.has
    c.args.self.now c.write.new.self c.stop.new.self failed.goes c.stop.ensures.goes)

pub returns-in-Err-clause-ends : goal.returns-in-Err-clause-ends
returns-in-Err-clause-ends g c =
    subst (λ after. MayEnd g.F.File.Disk.seen g.F.File.Disk.may_leave g.F.File.Disk.is_clean c.args.self.now.synced
    c.args.self.now.ended.items after c.args.self.now.segment c.stop.new.self.segment) (sym c.stop.ensures.ended)
    (ends_same _ _ _ _ _ _ _ _ c.stop.new.self.segment c.in-Err.ensures.ends c.stop.ensures.base)
