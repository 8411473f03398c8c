use Rattle.std.proofs.Common.{refl, inl}
use Rattle.pgfeed.specs.Drafts.{drafted}
use Rattle.pgfeed.specs.Feeds.{heard_by}
use Rattle.pgfeed.proofs.Following.{all_more, all_quiet, goes_end, goes_nowhere, goes_quiet}
use Rattle.pgfeed.proofs.Following.{on_behind, on_draft, on_err}
use Rattle.pgfeed.proofs.feed.Feed.end_draft.Goals as goal

pub returns-in_err-test-clause-goes : goal.returns-in_err-test-clause-goes
returns-in_err-test-clause-goes g c =
    goes_nowhere g.F.File.Disk.seen g.F.File.Disk.may_leave g.F.File.Disk.is_clean g.F.Folder.is_true g.F.Folder.places g.F.Folder.has
    c.args.self.now

pub returns-in_err-end_draft-clause-goes : goal.returns-in_err-end_draft-clause-goes
returns-in_err-end_draft-clause-goes g c =
    let done = c.in_err-end_draft.ensures in
    goes_quiet g.F.File.Disk.seen g.F.File.Disk.may_leave g.F.File.Disk.is_clean g.F.Folder.is_true g.F.Folder.places g.F.Folder.has
    c.args.self.now _
    (on_behind g.F.File.Disk.seen g.F.File.Disk.may_leave g.F.File.Disk.is_clean g.F.Folder.is_true g.F.Folder.places g.F.Folder.has
    c.args.self.now _ refl refl refl done.base done.undone.1 done.undone.0 done.behind done.clean)
    c.requires.free done.undone.0 done.undone.1 done.untold

pub returns-in_err-end_draft-clause-kept : goal.returns-in_err-end_draft-clause-kept
returns-in_err-end_draft-clause-kept g c =
    let done = c.in_err-end_draft.ensures in
    on_err c.from_residual-in_err-end_draft.result
    (all_quiet g.F.File.Disk.seen g.F.File.Disk.may_leave g.F.File.Disk.is_clean g.F.Folder.is_true g.F.Folder.places g.F.Folder.has
    c.args.self.now _
    (on_behind g.F.File.Disk.seen g.F.File.Disk.may_leave g.F.File.Disk.is_clean g.F.Folder.is_true g.F.Folder.places g.F.Folder.has
    c.args.self.now _ refl refl refl done.base done.undone.1 done.undone.0 done.behind done.clean)
    c.requires.free done.undone.0 done.undone.1 done.untold)

pub returns-clause-goes : goal.returns-clause-goes
returns-clause-goes g c =
    let done = c.in_ok-end_draft.ensures in
    let ls = c.requires.draft.0 in
    let adds = done.adds (heard_by c.args.self.now) ls c.requires.draft.1 in
    let e = drafted c.args.end c.args.about (heard_by c.args.self.now) ls in
    goes_end g.F.File.Disk.seen g.F.File.Disk.may_leave g.F.File.Disk.is_clean g.F.Folder.is_true g.F.Folder.places g.F.Folder.has
    c.args.self.now _ e
    (on_draft g.F.File.Disk.seen g.F.File.Disk.may_leave g.F.File.Disk.is_clean g.F.Folder.is_true g.F.Folder.places g.F.Folder.has
    c.args.self.now _ e refl refl refl done.base adds done.behind done.clean) c.requires.free adds

pub returns-clause-appended : goal.returns-clause-appended
returns-clause-appended g c ls has =
    let done = c.in_ok-end_draft.ensures in
    let adds = done.adds (heard_by c.args.self.now) ls has in
    let e = drafted c.args.end c.args.about (heard_by c.args.self.now) ls in
    all_more g.F.File.Disk.seen g.F.File.Disk.may_leave g.F.File.Disk.is_clean g.F.Folder.is_true g.F.Folder.places g.F.Folder.has
    c.args.self.now _ e
    (on_draft g.F.File.Disk.seen g.F.File.Disk.may_leave g.F.File.Disk.is_clean g.F.Folder.is_true g.F.Folder.places g.F.Folder.has
    c.args.self.now _ e refl refl refl done.base adds done.behind done.clean) c.requires.free adds

pub returns-clause-first : goal.returns-clause-first
returns-clause-first g c = inl (c.in_ok-end_draft.ensures.base, c.first_time-self.ensures)
