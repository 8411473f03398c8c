use Rattle.std.proofs.Common.{sym, subst, arith}
use Rattle.pgrows.specs.Rows.{tables_of}
use Rattle.pgencoded.specs.Spelled.{IsChanging}
use Rattle.pgencoded.proofs.Acting.{on_ok, if_err, added_first}
use Rattle.pgchanging.proofs.changing.add_row.Goals as goal

pub returns-then-branch-clause-made : goal.returns-then-branch-clause-made
returns-then-branch-clause-made g c clean =
    let it = c.in_ok-add_row.ensures.added clean c.if-branch.true in (
      record { was_open = it.1.was_open; is_open = it.1.is_open },
      λ cells new v rows h. added_first v c.args.def.now rows (tables_of g.S.Store c.args.rows.now) h cells c.args.identity.now
          c.args.body.now (tables_of g.S.Store c.add_row.new.self) new it.0 it.1.made,
    )

pub returns-clause-made : goal.returns-clause-made
returns-clause-made g c clean =
    let before = c.add_again.ensures.goes.survives.clean in
    let it = c.in_ok-add_row.ensures.there (omega (arith, before)) c.if-branch.false in
    on_ok c.add_again.result (c.add_again.ensures.made clean) (λ adds. (
      record { was_open = it.1.was_open; is_open = adds.0.is_open },
      λ cells new v rows h. adds.1 cells new v rows (subst (IsChanging v c.args.def.now rows) (sym it.1.made) h),
    ))

pub returns-clause-fault : goal.returns-clause-fault
returns-clause-fault g c clean =
    let before = c.add_again.ensures.goes.survives.clean in
    let it = c.in_ok-add_row.ensures.there (omega (arith, before)) c.if-branch.false in
    if_err c.add_again.result (c.add_again.ensures.fault clean)
    (λ e refuses cells new v rows h. refuses cells new v rows (subst (IsChanging v c.args.def.now rows) (sym it.1.made) h))
