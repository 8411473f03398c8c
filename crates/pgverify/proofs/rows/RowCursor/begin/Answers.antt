use Rattle.std.proofs.Common.{arith}
use Rattle.sqlite_trees.specs.View.{IsClean}
use Rattle.pgverify.proofs.Given.{begins}
use Rattle.pgverify.proofs.rows.RowCursor.begin.Goals as goal

pub returns-clause-given : goal.returns-clause-given
returns-clause-given g c clean =
    let at : IsClean (g.S.Store.view c.seek.new.self) = omega (arith, c.step.ensures.quiet.clean, clean) in
    c.in_ok-step.ensures.given clean (begins (g.S.Store.view c.args.store.now)
    (g.S.Store.view c.seek.new.self) _ _ c.new-row.ensures (c.in_ok-seek.ensures.ok at))
