use Rattle.std.proofs.Common.{◌∙◌, inr, refl}
use Rattle.pgfeed.specs.Drafts.{drafted}
use Rattle.pgfeed.specs.Feeds.{heard_by}
use Rattle.pgfeed.proofs.Beside.{rest_appends, rest_at_most, rest_rests}
use Rattle.pgfeed.proofs.Following.{goes_on_by}
use Rattle.pgfeed.proofs.feed.FeedLedger.end_parts.Goals as goal

pub returns-in-Ok-clause-rests : goal.returns-in-Ok-clause-rests
returns-in-Ok-clause-rests g c =
    let done = c.in-Ok.ensures in
    rest_rests g.F.File.Disk.seen g.F.File.Disk.may_leave g.F.File.Disk.is_clean g.F.Folder.is_true g.F.Folder.places g.F.Folder.has
    c.args.self.now c.end_draft.new.self done.begins done.limits done.goes

pub returns-in-Err-clause-rests : goal.returns-in-Err-clause-rests
returns-in-Err-clause-rests g c =
    let failed = c.in-Err.ensures in
    rest_rests g.F.File.Disk.seen g.F.File.Disk.may_leave g.F.File.Disk.is_clean g.F.Folder.is_true g.F.Folder.places g.F.Folder.has
    c.args.self.now c.stop.new.self (c.stop.ensures.begins ∙ failed.begins) (c.stop.ensures.limits ∙ failed.limits)
    (goes_on_by g.F.File.Disk.seen g.F.File.Disk.may_leave g.F.File.Disk.is_clean g.F.Folder.is_true g.F.Folder.places g.F.Folder.has
    c.args.self.now c.end_draft.new.self c.stop.new.self failed.goes c.stop.ensures.goes)

pub returns-in-Ok-clause-appended : goal.returns-in-Ok-clause-appended
returns-in-Ok-clause-appended g c ls has =
    let done = c.in-Ok.ensures in
    rest_appends g.F.File.Disk.seen g.F.File.Disk.may_leave g.F.File.Disk.is_clean g.F.Folder.is_true g.F.Folder.places g.F.Folder.has
    c.args.self.now c.end_draft.new.self done.begins
    (drafted c.args.end c.args.about (heard_by c.args.self.now) ls) (done.appended ls has)

pub returns-in-Ok-clause-at_most : goal.returns-in-Ok-clause-at_most
returns-in-Ok-clause-at_most g c es kept =
    let done = c.in-Ok.ensures in
    let e = drafted c.args.end c.args.about (heard_by c.args.self.now) c.requires.0 in
    inr (
      e,
      refl,
      rest_appends g.F.File.Disk.seen g.F.File.Disk.may_leave g.F.File.Disk.is_clean g.F.Folder.is_true g.F.Folder.places g.F.Folder.has
          c.args.self.now c.end_draft.new.self done.begins e (done.appended c.requires.0 c.requires.1) es kept,
    )

pub returns-in-Err-clause-at_most : goal.returns-in-Err-clause-at_most
returns-in-Err-clause-at_most g c =
    let failed = c.in-Err.ensures in
    rest_at_most g.F.File.Disk.seen g.F.File.Disk.may_leave g.F.File.Disk.is_clean g.F.Folder.is_true g.F.Folder.places g.F.Folder.has
    c.args.self.now c.stop.new.self (c.stop.ensures.begins ∙ failed.begins)
    c.args.end (λ es kept. c.stop.ensures.kept es (failed.kept es kept))
