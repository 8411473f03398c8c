use Rattle.std.proofs.Common.{None, sym, ◌∙◌, arith, rules, to_z-of_z, SFits, w64}
use Rattle.std.proofs.lemmas.Result.{IfOk-weaker}
use Rattle.sqlite_trees.specs.View.{IsClean}
use Rattle.pgrows.specs.Rows.{IsUnder}
use Rattle.pgrows.proofs.Found.{open_of, known_under}
use Rattle.pgrows.proofs.insert.top_of.Goals as goal

pub read_top-requires : goal.read_top-requires
read_top-requires g c clean =
    let store = c.args.store.now in
    let unbroken = sym (c.is_broken.ensures clean) ∙ c.if-is_broken.false in
    let up = open_of (g.S.Store.view store) (g.met.S.Store.broken_if_shut store) unbroken in
    (c.requires clean up).good

pub returns-in-Some-clause-under : goal.returns-in-Some-clause-under
returns-in-Some-clause-under g c clean =
    let store = c.args.store.now in
    let unbroken = sym (c.is_broken.ensures clean) ∙ c.if-is_broken.false in
    let up = open_of (g.S.Store.view store) (g.met.S.Store.broken_if_shut store) unbroken in
    let fits : SFits w64 c.in-Some.last = search rules in
    let under = rw c.in-Some.is at (c.requires clean up) in
    simp to_z-of_z under

pub returns-in-None-clause-under : goal.returns-in-None-clause-under
returns-in-None-clause-under g c clean =
    let store = c.args.store.now in
    let was : IsClean (g.S.Store.view store) = omega (arith, c.read_top.ensures.quiet.clean) in
    let unbroken = sym (c.is_broken.ensures was) ∙ c.if-is_broken.false in
    let up = open_of (g.S.Store.view store) (g.met.S.Store.broken_if_shut store) unbroken in
    let under : IsUnder (g.S.Store.view store) None = rw c.in-None.is at (c.requires was up) in
    IfOk-weaker c.read_top.result _ _ (λ n below. known_under (g.S.Store.view store) n under below) (c.read_top.ensures.below clean)
