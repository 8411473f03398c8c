use Rattle.std.proofs.Common.{sym, ap, ◌∙◌, arith}
use Rattle.sqlite_trees.specs.View.{View, IsClean}
use Rattle.pgtables.specs.Kept.{tables_in}
use Rattle.pgrows.proofs.Found.{open_of, opened, reads_under, keeps_reads}
use Rattle.pgrows.proofs.dump.give_all.Goals as goal

pub give_rows-requires : goal.give_rows-requires
give_rows-requires g c clean =
    let store = c.args.store.now in
    let unbroken = sym (c.is_broken.ensures clean) ∙ c.if-is_broken.false in
    let up = open_of (g.S.Store.view store) (g.met.S.Store.broken_if_shut store) unbroken in
    (c.requires clean up).good

pub returns-clause-made : goal.returns-clause-made
returns-clause-made g c clean =
    let store = c.args.store.now in
    let was : IsClean (g.S.Store.view store) = omega (arith, c.give_rows.ensures.quiet.clean) in
    let unbroken = sym (c.is_broken.ensures was) ∙ c.if-is_broken.false in
    let up = open_of (g.S.Store.view store) (g.met.S.Store.broken_if_shut store) unbroken in
    let same = c.in_ok-all.ensures.same clean in
    record {
      was_open = up;
      is_open = opened (g.S.Store.view c.args.store.now) (g.S.Store.view c.give_rows.new.store) same up;
      made = ap (λ (v : View). tables_in v.trees) same;
    }

pub returns-clause-rows : goal.returns-clause-rows
returns-clause-rows g c clean _ =
    let store = c.args.store.now in
    let was : IsClean (g.S.Store.view store) = omega (arith, c.give_rows.ensures.quiet.clean) in
    let unbroken = sym (c.is_broken.ensures was) ∙ c.if-is_broken.false in
    let up = open_of (g.S.Store.view store) (g.met.S.Store.broken_if_shut store) unbroken in
    reads_under (g.S.Store.view c.args.store.now) (g.S.Store.view c.give_rows.new.store) c.args._last (c.in_ok-all.ensures.same clean)
    (c.requires was up)

pub returns-clause-keeps : goal.returns-clause-keeps
returns-clause-keeps g c clean = keeps_reads g.S.Store c.args.store.now c.give_rows.new.store (c.in_ok-all.ensures.same clean)
