use Rattle.std.proofs.Common.{sym, ap, ◌∙◌, arith, ◌+◌}
use Rattle.pgtables.specs.Kept as stored
use Rattle.pgrows.specs.Rows.{tables_of}
use Rattle.pgencoded.proofs.Acting.{on_ok, if_err, then_open, added_again, added_not, own_fault}
use Rattle.pgencoded.proofs.Formed.{own_of_read, read_refuses, row_fits}
use Rattle.pgchanging.proofs.changing.add_again.Goals as goal

pub returns-in-Some-clause-made : goal.returns-in-Some-clause-made
returns-in-Some-clause-made g c clean =
    let before = c.add_copy.ensures.goes.survives.clean in
    let found = c.in_ok-find_row.ensures.made (omega (arith, before)) in
    let some = sym (c.in_ok-find_row.ensures.found (omega (arith, before))) ∙ c.in-Some.is in
    on_ok c.add_copy.result (c.add_copy.ensures.made clean) (λ copy. (
      then_open g.S.Store c.args.rows.now c.find_row.new.self c.add_copy.new.rows _ _ found copy.made,
      λ cells new v rows h. added_again v c.args.def.now rows (tables_of g.S.Store c.args.rows.now) h cells c.args.identity.now
          c.args.body.now c.in-Some.there (tables_of g.S.Store c.add_copy.new.rows) new some copy.bag copy.below
          (copy.made.made ∙ ap (stored.with_row c.args.def.now.oid c.args.identity.now
          (record { body = c.args.body.now; copies = c.in-Some.there.copies + 1 })) found.made),
    ))

pub returns-in-Some-clause-fault : goal.returns-in-Some-clause-fault
returns-in-Some-clause-fault g c clean =
    let before = c.add_copy.ensures.goes.survives.clean in
    let some = sym (c.in_ok-find_row.ensures.found (omega (arith, before))) ∙ c.in-Some.is in
    if_err c.add_copy.result c.add_copy.ensures.fault (λ e refuses cells new v rows h.
    added_not v c.args.def.now rows (tables_of g.S.Store c.args.rows.now) h cells c.args.identity.now c.args.body.now c.in-Some.there e new
    some refuses)

pub returns-in_err-find_row-clause-fault : goal.returns-in_err-find_row-clause-fault
returns-in_err-find_row-clause-fault g c clean =
    read_refuses c.from_residual.result c.in_err-find_row.field-0.0 c.from_residual.ensures.1 (λ fault is cells new v rows h.
    let fits = row_fits v c.args.def.now rows (tables_of g.S.Store c.args.rows.now) h c.args.identity.now in
    own_fault fault _ (own_of_read _ fault (c.in_err-find_row.ensures.formed clean fits) is))
