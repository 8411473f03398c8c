use Rattle.std.proofs.Common.{sym, ◌∙◌, arith}
use Rattle.sqlite_trees.specs.View.{IsClean}
use Rattle.pgrows.proofs.Found.{open_of, reads_under}
use Rattle.pgrows.proofs.Walked.{any_row}
use Rattle.pgrows.proofs.walk.has_rows.Goals as goal

pub returns-clause-told : goal.returns-clause-told
returns-clause-told g c clean =
    any_row c.args.oid (g.S.Store.view c.args.store.now).trees c.seek_next.new.found c.in_ok-met.met (c.in_ok-met.ensures.found clean)

pub returns-clause-rows : goal.returns-clause-rows
returns-clause-rows g c clean _ =
    let store = c.args.store.now in
    let was : IsClean (g.S.Store.view store) = omega (arith, c.seek_next.ensures.quiet.clean) in
    let unbroken = sym (c.is_broken.ensures was) ∙ c.if-is_broken.false in
    let up = open_of (g.S.Store.view store) (g.met.S.Store.broken_if_shut store) unbroken in
    reads_under (g.S.Store.view store) (g.S.Store.view c.seek_next.new.store) c.args._last (c.in_ok-met.ensures.same clean)
    (c.requires was up)
