use Rattle.std.proofs.Common.{◌∙◌}
use Rattle.std.proofs.lemmas.Result.{err_from_is_err_and}
use Rattle.pgrows.specs.Rows.{tables_of}
use Rattle.pgencoded.proofs.Acting.{own_fault}
use Rattle.pgencoded.proofs.Formed.{own_of_read, read_refuses, row_fits}
use Rattle.pgchanging.proofs.FoundRows.{row_found}
use Rattle.pgchanging.proofs.looking.find_before.Goals as goal

pub returns-in_err-identity-clause-fault : goal.returns-in_err-identity-clause-fault
returns-in_err-identity-clause-fault g c clean =
    let p = err_from_is_err_and c.from_residual.result c.from_residual.ensures.1 in
    rw (p.1, p.2) (λ v rows h. c.in_err-identity.ensures.err)

pub returns-in_err-find_row-clause-fault : goal.returns-in_err-find_row-clause-fault
returns-in_err-find_row-clause-fault g c clean =
    read_refuses c.from_residual-in_err-find_row.result c.in_err-find_row.field-0.0 c.from_residual-in_err-find_row.ensures.1
    (λ fault is v rows h.
    let fits = row_fits v c.args.def.now rows (tables_of g.S.Store c.args.rows.now) h c.as_slice.result.now in
    own_fault fault _ (own_of_read _ fault (c.in_err-find_row.ensures.formed clean fits) is))

pub returns-clause-found : goal.returns-clause-found
returns-clause-found g c clean =
    let place = c.in_ok-identity.ensures.ok in (
      place.0,
      place.1,
      λ v rows h. row_found v c.args.def.now rows (tables_of g.S.Store c.args.rows.now) h place.0 c.as_slice.result.now
          (c.as_slice.ensures.value ∙ place.2) _ (c.in_ok-find_row.ensures.found clean),
    )

pub returns-clause-stays : goal.returns-clause-stays
returns-clause-stays g c clean =
    let found = c.in_ok-find_row.ensures.made clean in
    (record { was_open = found.was_open; is_open = found.is_open }, found.made)
