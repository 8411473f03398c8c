use Rattle.std.proofs.Common.{sym, subst, arith}
use Rattle.std.specs.FinMap.{empty}
use Rattle.std.proofs.lemmas.Result.{err_from_is_err_and}
use Rattle.pgtables.specs.Kept as stored
use Rattle.pgrows.specs.Rows.{tables_of}
use Rattle.pgrows.specs.Walk.{EachFits, HasNoRow}
use Rattle.pgencoded.proofs.Acting.{on_ok, if_err, own_fault}
use Rattle.pgencoded.proofs.Going.{goes_then}
use Rattle.pgreshaping.proofs.CarriedOn.{begins_emptied, kept_aside, kept_fit}
use Rattle.pgreshaping.proofs.giving.carry_table.Goals as goal

pub returns-clause-made : goal.returns-clause-made
returns-clause-made g c clean =
    let last = c.unpark_rows.ensures.goes.survives.clean in
    let third = c.store_definition.ensures.goes.survives.clean in
    let second = c.park_rows.ensures.goes.survives.clean in
    let found = c.in_ok-park.ensures.made (omega (arith, last, third, second)) in
    let free = c.in_ok-park.ensures.free (omega (arith, last, third, second)) in
    let parks = c.in_ok-park_rows.ensures.made (omega (arith, last, third)) in
    let put = c.in_ok-store_definition.ensures.made (omega (arith, last)) in
    on_ok c.unpark_rows.result (c.unpark_rows.ensures.made clean) (λ all. (
      record { was_open = found.was_open; is_open = all.0.is_open },
      λ v entries h kept.
          let parked = parks.1 (subst (λ (t : stored.Tables). HasNoRow c.in_ok-park.park t.rows) (sym found.made) free) in
          all.1 v entries empty
          (begins_emptied c.args.def.now c.args.columns.now c.in_ok-park.park (tables_of g.S.Store c.args.rows.now) _ _ _ found.made
          parked put.made v empty h)
          (kept_aside c.args.def.now c.args.columns.now c.in_ok-park.park (tables_of g.S.Store c.args.rows.now) _ _ _ found.made
          parked put.made c.args.old.now entries kept),
    ))

pub returns-clause-fault : goal.returns-clause-fault
returns-clause-fault g c clean =
    let last = c.unpark_rows.ensures.goes.survives.clean in
    let third = c.store_definition.ensures.goes.survives.clean in
    let second = c.park_rows.ensures.goes.survives.clean in
    let found = c.in_ok-park.ensures.made (omega (arith, last, third, second)) in
    let free = c.in_ok-park.ensures.free (omega (arith, last, third, second)) in
    let parks = c.in_ok-park_rows.ensures.made (omega (arith, last, third)) in
    let put = c.in_ok-store_definition.ensures.made (omega (arith, last)) in
    if_err c.unpark_rows.result (c.unpark_rows.ensures.fault clean) (λ e refuses v entries h kept.
    let parked = parks.1 (subst (λ (t : stored.Tables). HasNoRow c.in_ok-park.park t.rows) (sym found.made) free) in
    refuses v entries empty
    (begins_emptied c.args.def.now c.args.columns.now c.in_ok-park.park (tables_of g.S.Store c.args.rows.now) _ _ _ found.made
    parked put.made v empty h)
    (kept_aside c.args.def.now c.args.columns.now c.in_ok-park.park (tables_of g.S.Store c.args.rows.now) _ _ _ found.made
    parked put.made c.args.old.now entries kept))

pub returns-clause-goes : goal.returns-clause-goes
returns-clause-goes g c =
    let found = c.free_oid.ensures.goes in
    let parked = goes_then g.S.Store c.args.rows.now c.free_oid.new.rows c.park_rows.new.rows found c.park_rows.ensures.goes.keeps
    c.park_rows.ensures.goes.survives in
    let put = goes_then g.S.Store c.args.rows.now c.park_rows.new.rows c.store_definition.new.rows parked
    c.store_definition.ensures.goes.keeps c.store_definition.ensures.goes.survives in
    goes_then g.S.Store c.args.rows.now c.store_definition.new.rows c.unpark_rows.new.rows put c.unpark_rows.ensures.goes.keeps
    c.unpark_rows.ensures.goes.survives

pub returns-in_err-park_rows-clause-fault : goal.returns-in_err-park_rows-clause-fault
returns-in_err-park_rows-clause-fault g c clean =
    let p = err_from_is_err_and c.from_residual-in_err-park_rows.result c.from_residual-in_err-park_rows.ensures.1 in
    let second = c.park_rows.ensures.goes.survives.clean in
    let found = c.in_ok-park.ensures.made (omega (arith, second)) in
    let free = c.in_ok-park.ensures.free (omega (arith, second)) in
    rw (p.1, p.2) (λ v entries h kept.
    own_fault _ _ (c.in_err-park_rows.ensures.fault clean
    (subst (λ (t : stored.Tables). HasNoRow c.in_ok-park.park t.rows) (sym found.made) free)
    (subst (λ (t : stored.Tables). EachFits c.args.def.now.oid t) (sym found.made)
    (kept_fit c.args.old.now c.args.def.now.oid entries (tables_of g.S.Store c.args.rows.now) kept))))
