use Rattle.std.proofs.Common.{sym, ap, subst, arith}
use Rattle.sqlite.specs.Tree.{Trees}
use Rattle.sqlite.specs.View.{View, IsClean}
use Rattle.pgstore.specs.Trees.{HaveValue, HoldsOpened, StaysOpened}
use Rattle.pgstore.proofs.TreesRead.{fresh_still, if_all, if_err, if_ok, if_some, left_have}
use Rattle.pgstore.proofs.TreesRead.{opened_still}
use Rattle.pgstore.proofs.store.Store.of_trusted.Goals as goal

pub of_found-requires-clause-opened : goal.of_found-requires-clause-opened
of_found-requires-clause-opened g c clean =
    fresh_still (g.S.Store.view c.args.store) (g.S.Store.view c.read_trusted.new.store) (c.in-Ok.ensures.same clean)
    (c.requires.opened (omega (arith, c.read_trusted.ensures.quiet.clean, clean)))

pub of_found-requires-clause-found : goal.of_found-requires-clause-found
of_found-requires-clause-found g c =
    if_some c.in-Ok.found _ _ (λ position read clean.
    let it = read clean in
    let was : IsClean (g.S.Store.view c.args.store) = omega (arith, c.read_trusted.ensures.quiet.clean, clean) in
    subst (λ (t : Trees). HaveValue t position) (sym (ap (λ (v : View). v.trees) (c.in-Ok.ensures.same clean)))
    (left_have (g.S.Store.view c.args.store) it.0 position it.1 (c.requires.left was))) (if_all c.in-Ok.found _ _ c.in-Ok.ensures.found)

pub returns-in-Ok-clause-holds : goal.returns-in-Ok-clause-holds
returns-in-Ok-clause-holds g c =
    let now = c.read_trusted.new.store in
    if_ok c.of_found.result (HoldsOpened g.S.Store now) (HoldsOpened g.S.Store c.args.store) (λ it held honest.
    let was = held honest in (
      omega (arith, c.read_trusted.ensures.quiet.clean, was.0),
      λ content finds. was.1 content
          (opened_still (g.S.Store.view c.args.store) (g.S.Store.view now) content (c.in-Ok.ensures.same was.0) finds),
    ))
    c.of_found.ensures.holds

pub returns-in-Ok-clause-stays : goal.returns-in-Ok-clause-stays
returns-in-Ok-clause-stays g c =
    let now = c.read_trusted.new.store in
    if_err c.of_found.result _ _
    (λ e stays. if_some e.1 (StaysOpened g.S.Store now) (StaysOpened g.S.Store c.args.store) (λ conn held clean.
    let was = held clean in (
      omega (arith, c.read_trusted.ensures.quiet.clean, was.0),
      λ content finds. was.1 content
          (opened_still (g.S.Store.view c.args.store) (g.S.Store.view now) content (c.in-Ok.ensures.same was.0) finds),
    )) stays)
    c.of_found.ensures.stays
