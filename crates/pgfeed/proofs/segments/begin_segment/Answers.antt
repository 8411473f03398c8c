use Rattle.std.proofs.Common.{subst}
use Rattle.pgfeed.proofs.Folders.{fresh_heads, named}
use Rattle.pgfeed.proofs.segments.begin_segment.Goals as goal

pub returns-in_err-name-clause-at_most : goal.returns-in_err-name-clause-at_most
returns-in_err-name-clause-at_most g c = λ honest.
    let begun = c.in_ok-segment.ensures in
    let most = c.name.ensures.at_most honest in
    named g.F.Folder.has g.F.Folder.is_true g.F.Folder.places c.args.folder.now c.make.new.self c.name.new.self c.args.base _
    (c.make.ensures.stays most.was_true) most
    (λ text may. fresh_heads g.F.File.Disk.seen g.F.File.Disk.may_leave c.in_ok-segment.segment c.args.base begun.base begun.fresh text
    (subst (λ d. g.F.File.Disk.may_leave d text) c.disk.ensures may))

pub returns-clause-at_most : goal.returns-clause-at_most
returns-clause-at_most g c = λ honest.
    let begun = c.in_ok-segment.ensures in
    let most = c.name.ensures.at_most honest in
    named g.F.Folder.has g.F.Folder.is_true g.F.Folder.places c.args.folder.now c.make.new.self c.name.new.self c.args.base _
    (c.make.ensures.stays most.was_true) most
    (λ text may. fresh_heads g.F.File.Disk.seen g.F.File.Disk.may_leave c.in_ok-segment.segment c.args.base begun.base begun.fresh text
    (subst (λ d. g.F.File.Disk.may_leave d text) c.disk.ensures may))
