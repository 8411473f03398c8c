use Rattle.std.proofs.Common.{◌≡◌, ◌∙◌, ◌++◌, ◌∷◌, [], List, ap, inr, refl, subst, sym}
use Rattle.std.specs.Prelude.{IsTrue}
use Rattle.pgledger.specs.Entries.{Entry}
use Rattle.pgfeed.specs.Feeds.{IsFresh}
use Rattle.pgfeed.specs.Folders.{AreBelow, HasNoMoreElse, MakesAtMost}
use Rattle.pgfeed.specs.Segments.{HasHead, IsFinished, KeepsEntries}
use Rattle.pgfeed.specs.declared.segment.Segment.{Segment}
use Rattle.pgfeed.proofs.Ending.{all_begins, all_ends, goes_begins, goes_ends}
use Rattle.pgfeed.proofs.Following.{Writes, all_quiet, goes_quiet, writes_line}
use Rattle.pgfeed.proofs.feed.Feed.begin_next.Goals as goal

pub returns-in_err-finish-clause-goes : goal.returns-in_err-finish-clause-goes
returns-in_err-finish-clause-goes g c =
    let done = c.in_err-finish.ensures in
    goes_quiet g.F.File.Disk.seen g.F.File.Disk.may_leave g.F.File.Disk.is_clean g.F.Folder.is_true g.F.Folder.places g.F.Folder.has
    c.args.self.now _
    (record {
      folder_is = refl;
      ended_is = refl;
      begins_is = refl;
      writes = writes_line g.F.File.Disk.seen g.F.File.Disk.may_leave c.args.self.now.segment c.finish.new.self done.base done.last
          done.size done.behind;
      clean = done.clean;
    }) c.requires.free done.size done.last done.told

pub returns-in_err-finish-clause-kept : goal.returns-in_err-finish-clause-kept
returns-in_err-finish-clause-kept g c =
    let done = c.in_err-finish.ensures in
    all_quiet g.F.File.Disk.seen g.F.File.Disk.may_leave g.F.File.Disk.is_clean g.F.Folder.is_true g.F.Folder.places g.F.Folder.has
    c.args.self.now _
    (record {
      folder_is = refl;
      ended_is = refl;
      begins_is = refl;
      writes = writes_line g.F.File.Disk.seen g.F.File.Disk.may_leave c.args.self.now.segment c.finish.new.self done.base done.last
          done.size done.behind;
      clean = done.clean;
    }) c.requires.free done.size done.last done.told

pub returns-in_err-reserve-clause-goes : goal.returns-in_err-reserve-clause-goes
returns-in_err-reserve-clause-goes g c =
    let done = c.in_ok-finish.ensures in
    goes_quiet g.F.File.Disk.seen g.F.File.Disk.may_leave g.F.File.Disk.is_clean g.F.Folder.is_true g.F.Folder.places g.F.Folder.has
    c.args.self.now _
    (record {
      folder_is = refl;
      ended_is = c.reserve.ensures.items;
      begins_is = refl;
      writes = writes_line g.F.File.Disk.seen g.F.File.Disk.may_leave c.args.self.now.segment c.finish.new.self done.base done.last
          done.size done.behind;
      clean = done.clean;
    }) c.requires.free done.size done.last done.told

pub returns-in_err-reserve-clause-kept : goal.returns-in_err-reserve-clause-kept
returns-in_err-reserve-clause-kept g c =
    let done = c.in_ok-finish.ensures in
    all_quiet g.F.File.Disk.seen g.F.File.Disk.may_leave g.F.File.Disk.is_clean g.F.Folder.is_true g.F.Folder.places g.F.Folder.has
    c.args.self.now _
    (record {
      folder_is = refl;
      ended_is = c.reserve.ensures.items;
      begins_is = refl;
      writes = writes_line g.F.File.Disk.seen g.F.File.Disk.may_leave c.args.self.now.segment c.finish.new.self done.base done.last
          done.size done.behind;
      clean = done.clean;
    }) c.requires.free done.size done.last done.told

pub returns-in_err-segment-clause-goes : goal.returns-in_err-segment-clause-goes
returns-in_err-segment-clause-goes g c =
    let done = c.in_ok-finish.ensures in
    goes_ends g.F.File.Disk.seen g.F.File.Disk.may_leave g.F.File.Disk.is_clean g.F.Folder.is_true g.F.Folder.places g.F.Folder.has
    c.args.self.now _
    (record {
      ended_is = c.reserve.ensures.items;
      begins_is = refl;
      writes = writes_line g.F.File.Disk.seen g.F.File.Disk.may_leave c.args.self.now.segment c.finish.new.self done.base done.last
          done.size done.behind;
      size_is = done.size;
      last_is = done.last;
      told_is = done.told;
      clean = done.clean;
      rises = c.requires.some;
      finished = done.finished;
      made = λ honest. subst (λ base. MakesAtMost g.F.Folder.has g.F.Folder.is_true g.F.Folder.places base (HasHead base)
          c.args.self.now.folder c.begin_segment.new.folder) c.last-base.ensures (c.begin_segment.ensures.at_most honest);
      was = c.requires.free;
      stuck = done.stuck;
    })

pub returns-in_err-segment-clause-kept : goal.returns-in_err-segment-clause-kept
returns-in_err-segment-clause-kept g c =
    let done = c.in_ok-finish.ensures in
    all_ends g.F.File.Disk.seen g.F.File.Disk.may_leave g.F.File.Disk.is_clean g.F.Folder.is_true g.F.Folder.places g.F.Folder.has
    c.args.self.now _
    (record {
      ended_is = c.reserve.ensures.items;
      begins_is = refl;
      writes = writes_line g.F.File.Disk.seen g.F.File.Disk.may_leave c.args.self.now.segment c.finish.new.self done.base done.last
          done.size done.behind;
      size_is = done.size;
      last_is = done.last;
      told_is = done.told;
      clean = done.clean;
      rises = c.requires.some;
      finished = done.finished;
      made = λ honest. subst (λ base. MakesAtMost g.F.Folder.has g.F.Folder.is_true g.F.Folder.places base (HasHead base)
          c.args.self.now.folder c.begin_segment.new.folder) c.last-base.ensures (c.begin_segment.ensures.at_most honest);
      was = c.requires.free;
      stuck = done.stuck;
    })

pub returns-clause-goes : goal.returns-clause-goes
returns-clause-goes g c =
    let begun = c.in_ok-segment.ensures in
    let done = c.in_ok-finish.ensures in
    let is : c.replace-ended.result ≡ c.finish.new.self = c.replace-ended.ensures.value in
    goes_begins g.F.File.Disk.seen g.F.File.Disk.may_leave g.F.File.Disk.is_clean g.F.Folder.is_true g.F.Folder.places g.F.Folder.has
    c.args.self.now _
    (record {
      done = c.replace-ended.result;
      ended_is = c.push_reserved.ensures.items ∙ ap (λ xs. xs ++ c.replace-ended.result ∷ []) c.reserve.ensures.items;
      begins_is = refl;
      line = subst (Writes g.F.File.Disk.seen g.F.File.Disk.may_leave c.args.self.now.segment) (sym is)
          (writes_line g.F.File.Disk.seen g.F.File.Disk.may_leave
          c.args.self.now.segment c.finish.new.self done.base done.last done.size done.behind);
      clean = subst (λ (s : Segment g.row.F-File.Denot). IsTrue (g.F.File.Disk.is_clean s.disk)
          → IsTrue (g.F.File.Disk.is_clean c.args.self.now.segment.disk)) (sym is) done.clean;
      rises = c.requires.some;
      finished = subst (λ (s : Segment g.row.F-File.Denot). IsTrue (g.F.File.Disk.is_clean s.disk) → (es : List Entry)
          → KeepsEntries c.args.self.now.segment.base c.args.self.now.segment.last c.args.self.now.segment.size
          c.args.self.now.segment.told.items (g.F.File.Disk.seen c.args.self.now.segment.disk) es
          → IsFinished c.args.self.now.segment.base c.args.self.now.segment.last es (g.F.File.Disk.seen s.disk)
          (g.F.File.Disk.may_leave s.disk)) (sym is) done.finished;
      fresh = subst (IsFresh g.F.File.Disk.seen g.F.File.Disk.may_leave) (sym c.replace-ended.ensures.after) begun.fresh;
      next = ap (λ (s : Segment g.row.F-File.Denot). s.base) c.replace-ended.ensures.after ∙ begun.base ∙ c.last-base.ensures;
      was = c.requires.free;
      was_true = λ honest. (c.begin_segment.ensures.at_most honest).was_true;
      made = subst (λ base. g.F.Folder.is_true c.begin_segment.new.folder → AreBelow base (g.F.Folder.places c.args.self.now.folder)
          → g.F.Folder.places c.begin_segment.new.folder ≡ g.F.Folder.places c.args.self.now.folder ++ base ∷ []) c.last-base.ensures
          begun.made;
      others = λ honest. subst (λ base. HasNoMoreElse g.F.Folder.has base c.args.self.now.folder c.begin_segment.new.folder)
          c.last-base.ensures (c.begin_segment.ensures.at_most honest).others;
    })

pub returns-clause-kept : goal.returns-clause-kept
returns-clause-kept g c =
    let begun = c.in_ok-segment.ensures in
    let done = c.in_ok-finish.ensures in
    let is : c.replace-ended.result ≡ c.finish.new.self = c.replace-ended.ensures.value in
    all_begins g.F.File.Disk.seen g.F.File.Disk.may_leave g.F.File.Disk.is_clean g.F.Folder.is_true g.F.Folder.places g.F.Folder.has
    c.args.self.now _
    (record {
      done = c.replace-ended.result;
      ended_is = c.push_reserved.ensures.items ∙ ap (λ xs. xs ++ c.replace-ended.result ∷ []) c.reserve.ensures.items;
      begins_is = refl;
      line = subst (Writes g.F.File.Disk.seen g.F.File.Disk.may_leave c.args.self.now.segment) (sym is)
          (writes_line g.F.File.Disk.seen g.F.File.Disk.may_leave
          c.args.self.now.segment c.finish.new.self done.base done.last done.size done.behind);
      clean = subst (λ (s : Segment g.row.F-File.Denot). IsTrue (g.F.File.Disk.is_clean s.disk)
          → IsTrue (g.F.File.Disk.is_clean c.args.self.now.segment.disk)) (sym is) done.clean;
      rises = c.requires.some;
      finished = subst (λ (s : Segment g.row.F-File.Denot). IsTrue (g.F.File.Disk.is_clean s.disk) → (es : List Entry)
          → KeepsEntries c.args.self.now.segment.base c.args.self.now.segment.last c.args.self.now.segment.size
          c.args.self.now.segment.told.items (g.F.File.Disk.seen c.args.self.now.segment.disk) es
          → IsFinished c.args.self.now.segment.base c.args.self.now.segment.last es (g.F.File.Disk.seen s.disk)
          (g.F.File.Disk.may_leave s.disk)) (sym is) done.finished;
      fresh = subst (IsFresh g.F.File.Disk.seen g.F.File.Disk.may_leave) (sym c.replace-ended.ensures.after) begun.fresh;
      next = ap (λ (s : Segment g.row.F-File.Denot). s.base) c.replace-ended.ensures.after ∙ begun.base ∙ c.last-base.ensures;
      was = c.requires.free;
      was_true = λ honest. (c.begin_segment.ensures.at_most honest).was_true;
      made = subst (λ base. g.F.Folder.is_true c.begin_segment.new.folder → AreBelow base (g.F.Folder.places c.args.self.now.folder)
          → g.F.Folder.places c.begin_segment.new.folder ≡ g.F.Folder.places c.args.self.now.folder ++ base ∷ []) c.last-base.ensures
          begun.made;
      others = λ honest. subst (λ base. HasNoMoreElse g.F.Folder.has base c.args.self.now.folder c.begin_segment.new.folder)
          c.last-base.ensures (c.begin_segment.ensures.at_most honest).others;
    })

pub returns-clause-ends : goal.returns-clause-ends
returns-clause-ends g c =
    let begun = c.in_ok-segment.ensures in
    let done = c.in_ok-finish.ensures in
    let is : c.replace-ended.result ≡ c.finish.new.self = c.replace-ended.ensures.value in
    inr (record {
      next = ap (λ (s : Segment g.row.F-File.Denot). s.base) c.replace-ended.ensures.after ∙ begun.base ∙ c.last-base.ensures;
      ended = c.replace-ended.result;
      stays = c.push_reserved.ensures.items ∙ ap (λ xs. xs ++ c.replace-ended.result ∷ []) c.reserve.ensures.items;
      base_is = ap (λ (s : Segment g.row.F-File.Denot). s.base) is ∙ done.base;
      last_is = ap (λ (s : Segment g.row.F-File.Denot). s.last) is ∙ done.last;
      finished = subst (λ (s : Segment g.row.F-File.Denot). IsTrue (g.F.File.Disk.is_clean s.disk) → (es : List Entry)
          → KeepsEntries c.args.self.now.segment.base c.args.self.now.segment.last c.args.self.now.segment.size
          c.args.self.now.segment.told.items (g.F.File.Disk.seen c.args.self.now.segment.disk) es
          → IsFinished c.args.self.now.segment.base c.args.self.now.segment.last es (g.F.File.Disk.seen s.disk)
          (g.F.File.Disk.may_leave s.disk)) (sym is) done.finished;
    })
