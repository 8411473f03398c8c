use Rattle.std.proofs.Common.{◌≡◌, ◌<◌, ◌++◌, [], length, rules, sym, ◌∙◌}
use Rattle.std.specs.List.{AllByRecursion}
use Rattle.pgfeed.proofs.Folders.{first_cuts, found_cuts, no_items, some_items}
use Rattle.pgfeed.proofs.segments.last_segment.Goals as goal

pub returns-then-is_empty-clause-cuts : goal.returns-then-is_empty-clause-cuts
returns-then-is_empty-clause-cuts g c = λ honest clean.
    let begun = c.in_ok-segment.ensures in
    let most = begun.at_most honest in
    let stays = c.bases.ensures.stays most.was_true in
    let empty : length c.in_ok-bases.bases.items ≡ 0 = search rules in
    let none : g.F.Folder.places c.args.folder.now ≡ [] =
    sym (c.in_ok-bases.ensures.found most.was_true) ∙ no_items c.in_ok-bases.bases.items empty in
    first_cuts g.F.File.Disk.seen g.F.File.Disk.may_leave g.F.File.Disk.is_clean g.F.Folder.is_true g.F.Folder.places g.F.Folder.has
    c.args.folder.now c.bases.new.self c.begin_segment.new.folder c.args.position c.in_ok-segment.segment none stays
    (begun.made honest) most begun.base begun.fresh

pub returns-clause-cuts : goal.returns-clause-cuts
returns-clause-cuts g c = λ honest clean.
    let gone = c.in_ok-remove_all.ensures.removed honest in
    let away = c.segment_at.ensures.stays gone.was_true in
    let stays = c.bases.ensures.stays away.was_true in
    let split : g.F.Folder.places c.args.folder.now ≡ c.split_at.result.0.now ++ c.split_at.result.1.now =
    sym (c.in_ok-bases.ensures.found away.was_true) ∙ sym c.deref-2.ensures.value ∙ c.split_at.ensures.by_index.0 in
    let high : AllByRecursion (λ b. c.args.position < b) c.split_at.result.1.now = c.if-not-are_above.ensures in
    let is_first = sym c.in-Some-Some.ensures.value in
    let is_last = sym c.in-Some-Some.ensures'.value in
    found_cuts g.F.File.Disk.seen g.F.File.Disk.may_leave g.F.File.Disk.is_clean g.F.Folder.is_true g.F.Folder.places g.F.Folder.has
    c.args.folder.now c.bases.new.self c.segment_at.new.folder c.remove_all.new.folder c.args.position
    c.in_ok-segment-2.segment c.split_at.result.0.now c.split_at.result.1.now c.in-Some-Some.first.now c.in-Some-Some.last.now split is_last
    is_first high stays away gone c.in_ok-segment-2.ensures.base (c.in_ok-segment-2.ensures.opened gone.was_true clean)
    (some_items c.split_at.result.0.now c.in-Some-Some.first.now is_first)
