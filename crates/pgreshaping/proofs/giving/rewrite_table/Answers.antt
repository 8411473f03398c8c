use Rattle.std.proofs.Common.{sym, subst, arith}
use Rattle.pgencoded.specs.Spelled.{IsSpelled, with_rows}
use Rattle.pgencoded.proofs.Acting.{on_ok, if_err}
use Rattle.pgencoded.proofs.Going.{goes_then}
use Rattle.pgreshaping.proofs.giving.rewrite_table.Goals as goal

pub returns-clause-made : goal.returns-clause-made
returns-clause-made g c clean =
    let put = c.in_ok-store_definition.ensures.made (omega (arith, c.rewrite_rows.ensures.goes.survives.clean)) in
    on_ok c.rewrite_rows.result (c.rewrite_rows.ensures.made clean) (λ all. (
      record { was_open = put.was_open; is_open = all.0.is_open },
      λ v start h readable. all.1 v start (subst (IsSpelled (with_rows v c.args.def.now start)) (sym put.made) h) readable,
    ))

pub returns-clause-fault : goal.returns-clause-fault
returns-clause-fault g c clean =
    let put = c.in_ok-store_definition.ensures.made (omega (arith, c.rewrite_rows.ensures.goes.survives.clean)) in
    if_err c.rewrite_rows.result (c.rewrite_rows.ensures.fault clean) (λ e refuses v start h readable.
    refuses v start (subst (IsSpelled (with_rows v c.args.def.now start)) (sym put.made) h) readable)

pub returns-clause-goes : goal.returns-clause-goes
returns-clause-goes g c =
    goes_then g.S.Store c.args.rows.now c.store_definition.new.rows c.rewrite_rows.new.rows c.store_definition.ensures.goes
    c.rewrite_rows.ensures.goes.keeps c.rewrite_rows.ensures.goes.survives
