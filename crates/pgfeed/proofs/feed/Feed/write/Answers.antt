use Rattle.std.proofs.Common.{List, arith, refl, subst}
use Rattle.pgledger.specs.Entries.{Entry, entry_of, messages_of}
use Rattle.pgfeed.specs.declared.hearing.Hearing.{Hearing}
use Rattle.pgfeed.specs.Hearing.{all_heard}
use Rattle.pgfeed.specs.Next.{Adds, IsNext}
use Rattle.pgfeed.proofs.Ending.{ends_same, timed}
use Rattle.pgfeed.proofs.Following.{Writes, adds_piece, all_more, all_quiet, goes_end}
use Rattle.pgfeed.proofs.Following.{goes_nowhere, goes_on_by, goes_quiet}
use Rattle.pgfeed.proofs.Following.{on_err, writes_line}
use Rattle.pgfeed.proofs.feed.Feed.write.Goals as goal

pub returns-in_err-test-clause-goes : goal.returns-in_err-test-clause-goes
returns-in_err-test-clause-goes g c =
    goes_nowhere g.F.File.Disk.seen g.F.File.Disk.may_leave g.F.File.Disk.is_clean g.F.Folder.is_true g.F.Folder.places g.F.Folder.has
    c.args.self.now

pub returns-in_err-put-clause-goes : goal.returns-in_err-put-clause-goes
returns-in_err-put-clause-goes g c =
    let failed = c.in_err-put.ensures in
    let room = c.in_ok-is_same.ensures in
    let writes = writes_line g.F.File.Disk.seen g.F.File.Disk.may_leave c.make_room.new.self.segment c.put.new.self failed.base
    failed.undone.1 failed.undone.0 failed.behind in
    goes_on_by g.F.File.Disk.seen g.F.File.Disk.may_leave g.F.File.Disk.is_clean g.F.Folder.is_true g.F.Folder.places g.F.Folder.has _
    c.make_room.new.self _ room.goes
    (goes_quiet g.F.File.Disk.seen g.F.File.Disk.may_leave g.F.File.Disk.is_clean g.F.Folder.is_true g.F.Folder.places g.F.Folder.has
    c.make_room.new.self _
    (record { folder_is = refl; ended_is = refl; begins_is = refl; writes = writes; clean = failed.clean })
    room.free failed.undone.0 failed.undone.1 failed.untold)

pub returns-in_err-put-clause-kept : goal.returns-in_err-put-clause-kept
returns-in_err-put-clause-kept g c =
    let failed = c.in_err-put.ensures in
    let room = c.in_ok-is_same.ensures in
    let writes = writes_line g.F.File.Disk.seen g.F.File.Disk.may_leave c.make_room.new.self.segment c.put.new.self failed.base
    failed.undone.1 failed.undone.0 failed.behind in
    on_err c.from_residual-in_err-put.result
    (λ (es : List Entry) kept.
    all_quiet g.F.File.Disk.seen g.F.File.Disk.may_leave g.F.File.Disk.is_clean g.F.Folder.is_true g.F.Folder.places g.F.Folder.has
    c.make_room.new.self _
    (record { folder_is = refl; ended_is = refl; begins_is = refl; writes = writes; clean = failed.clean })
    room.free failed.undone.0 failed.undone.1 failed.untold es (room.kept es kept))

pub returns-clause-goes : goal.returns-clause-goes
returns-clause-goes g c =
    let done = c.in_ok-put.ensures in
    let room = c.in_ok-is_same.ensures in
    let told : Hearing → Entry = λ h. entry_of c.args.commit.now.end c.args.commit.now.about (messages_of (all_heard h))
    c.args.commit.now.work.now.changes c.args.images.now in
    let e : Entry = told c.args.self.now.hearing in
    let adds : Adds g.F.File.Disk.seen c.make_room.new.self.segment c.put.new.self e =
    adds_piece g.F.File.Disk.seen c.make_room.new.self.segment c.put.new.self e c.in_ok-piece-2.piece
    (subst (λ h. IsNext c.make_room.new.self.segment (told h) c.in_ok-piece-2.piece) room.hearing c.in_ok-piece-2.ensures.next)
    done.written done.size done.last done.told in
    let writes : Writes g.F.File.Disk.seen g.F.File.Disk.may_leave c.make_room.new.self.segment c.put.new.self = record {
      base_is = done.base;
      size_up = omega (arith, done.size);
      last_up = omega (arith, done.last, adds.above);
      behind = done.behind;
    } in
    goes_on_by g.F.File.Disk.seen g.F.File.Disk.may_leave g.F.File.Disk.is_clean g.F.Folder.is_true g.F.Folder.places g.F.Folder.has _
    c.make_room.new.self _ room.goes
    (goes_end g.F.File.Disk.seen g.F.File.Disk.may_leave g.F.File.Disk.is_clean g.F.Folder.is_true g.F.Folder.places g.F.Folder.has
    c.make_room.new.self _ e
    (record { folder_is = refl; ended_is = refl; begins_is = refl; writes = writes; clean = done.clean }) room.free adds)

pub returns-clause-appended : goal.returns-clause-appended
returns-clause-appended g c = λ es kept.
    let done = c.in_ok-put.ensures in
    let room = c.in_ok-is_same.ensures in
    let told : Hearing → Entry = λ h. entry_of c.args.commit.now.end c.args.commit.now.about (messages_of (all_heard h))
    c.args.commit.now.work.now.changes c.args.images.now in
    let e : Entry = told c.args.self.now.hearing in
    let adds : Adds g.F.File.Disk.seen c.make_room.new.self.segment c.put.new.self e =
    adds_piece g.F.File.Disk.seen c.make_room.new.self.segment c.put.new.self e c.in_ok-piece-2.piece
    (subst (λ h. IsNext c.make_room.new.self.segment (told h) c.in_ok-piece-2.piece) room.hearing c.in_ok-piece-2.ensures.next)
    done.written done.size done.last done.told in
    let writes : Writes g.F.File.Disk.seen g.F.File.Disk.may_leave c.make_room.new.self.segment c.put.new.self = record {
      base_is = done.base;
      size_up = omega (arith, done.size);
      last_up = omega (arith, done.last, adds.above);
      behind = done.behind;
    } in
    all_more g.F.File.Disk.seen g.F.File.Disk.may_leave g.F.File.Disk.is_clean g.F.Folder.is_true g.F.Folder.places g.F.Folder.has
    c.make_room.new.self _ e
    (record { folder_is = refl; ended_is = refl; begins_is = refl; writes = writes; clean = done.clean }) room.free adds es
    (room.kept es kept)

pub returns-in_err-put-clause-ends : goal.returns-in_err-put-clause-ends
returns-in_err-put-clause-ends g c = ends_same _ _ _ _ _ _ _ _ c.put.new.self c.in_ok-is_same.ensures.ends c.in_err-put.ensures.base

pub returns-clause-ends : goal.returns-clause-ends
returns-clause-ends g c = ends_same _ _ _ _ _ _ _ _ c.put.new.self c.in_ok-is_same.ensures.ends c.in_ok-put.ensures.base

pub returns-clause-first : goal.returns-clause-first
returns-clause-first g c =
    timed c.args.self.now.first c.make_room.new.self.first c.first_time-self.result c.args.commit.now.about c.args.self.now.segment
    c.make_room.new.self.segment c.put.new.self c.in_ok-is_same.ensures.first c.in_ok-put.ensures.base c.first_time-self.ensures
