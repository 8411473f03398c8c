use Rattle.std.proofs.Common.{[], refl, subst}
use Rattle.std.proofs.lemmas.Result.{on_ok_weaker}
use Rattle.pgfeed.specs.Drafts.{HasDraft}
use Rattle.pgfeed.proofs.Ending.{ends_same}
use Rattle.pgfeed.proofs.Following.{all_quiet, goes_nowhere, goes_on_by, goes_quiet, on_behind}
use Rattle.pgfeed.proofs.feed.Feed.begin_draft.Goals as goal

pub returns-in_err-test-clause-goes : goal.returns-in_err-test-clause-goes
returns-in_err-test-clause-goes g c =
    goes_nowhere g.F.File.Disk.seen g.F.File.Disk.may_leave g.F.File.Disk.is_clean g.F.Folder.is_true g.F.Folder.places g.F.Folder.has
    c.args.self.now

pub returns-clause-goes : goal.returns-clause-goes
returns-clause-goes g c =
    let done = c.begin_draft.ensures in
    let room = c.in_ok-make_room.ensures in
    goes_on_by g.F.File.Disk.seen g.F.File.Disk.may_leave g.F.File.Disk.is_clean g.F.Folder.is_true g.F.Folder.places g.F.Folder.has
    _ c.make_room.new.self _ room.goes
    (goes_quiet g.F.File.Disk.seen g.F.File.Disk.may_leave g.F.File.Disk.is_clean g.F.Folder.is_true g.F.Folder.places g.F.Folder.has
    c.make_room.new.self _
    (on_behind g.F.File.Disk.seen g.F.File.Disk.may_leave g.F.File.Disk.is_clean g.F.Folder.is_true g.F.Folder.places g.F.Folder.has
    c.make_room.new.self _ refl refl refl done.base done.last done.size done.behind done.clean)
    room.free done.size done.last done.told)

pub returns-clause-kept : goal.returns-clause-kept
returns-clause-kept g c es kept =
    let done = c.begin_draft.ensures in
    let room = c.in_ok-make_room.ensures in
    all_quiet g.F.File.Disk.seen g.F.File.Disk.may_leave g.F.File.Disk.is_clean g.F.Folder.is_true g.F.Folder.places g.F.Folder.has
    c.make_room.new.self _
    (on_behind g.F.File.Disk.seen g.F.File.Disk.may_leave g.F.File.Disk.is_clean g.F.Folder.is_true g.F.Folder.places g.F.Folder.has
    c.make_room.new.self _ refl refl refl done.base done.last done.size done.behind done.clean)
    room.free done.size done.last done.told es (room.kept es kept)

pub returns-clause-begun : goal.returns-clause-begun
returns-clause-begun g c =
    on_ok_weaker c.begin_draft.result
    (λ has. subst (λ heard. HasDraft g.F.File.Disk.seen c.begin_draft.new.self heard []) c.messages.ensures has) c.begin_draft.ensures.begun

pub returns-clause-ends : goal.returns-clause-ends
returns-clause-ends g c = ends_same _ _ _ _ _ _ _ _ c.begin_draft.new.self c.in_ok-make_room.ensures.ends c.begin_draft.ensures.base
