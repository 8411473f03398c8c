use Rattle.std.proofs.Common.{sym, subst, ◌∙◌}
use Rattle.std.proofs.lemmas.Result.{err_from_is_err_and}
use Rattle.pgrows.specs.Rows.{tables_of}
use Rattle.pgapply.proofs.KeepsForm.{new_checked}
use Rattle.pgencoded.proofs.Acting.{if_err, if_ok, own_fault}
use Rattle.pgencoded.proofs.Deciding.{update_refused}
use Rattle.pgchanging.specs.Looks.{IsRowAt}
use Rattle.pgchanging.proofs.FoundRows.{row_there, update_found, update_missed}
use Rattle.pgchanging.proofs.looking.look_at_update.Goals as goal

pub returns-in_err-find_before-clause-fault : goal.returns-in_err-find_before-clause-fault
returns-in_err-find_before-clause-fault g c clean =
    let p = err_from_is_err_and c.from_residual.result c.from_residual.ensures.1 in
    let refuses = rw (c.reborrow_prior.ensures, c.reborrow.ensures) at c.in_err-find_before.ensures.fault in
    rw (p.1, p.2) (λ v rows h. update_refused c.args.def.now c.args.prior.now c.args.row.now rows _ (refuses clean v rows h))

pub returns-in-None-clause-image : goal.returns-in-None-clause-image
returns-in-None-clause-image g c clean v rows h =
    let finds = rw (c.reborrow_prior.ensures, c.reborrow.ensures) at c.in_ok-find_before.ensures.found in
    let found = finds clean in
    rw (c.reborrow_prior-in-None.ensures, c.reborrow-in-None.ensures)
    (update_missed c.args.def.now c.args.prior.now c.args.row.now rows found.0 found.1
    (subst (λ o. IsRowAt rows found.0 o) c.in-None.is (found.2 v rows h)))

pub returns-in-Some-clause-image : goal.returns-in-Some-clause-image
returns-in-Some-clause-image g c clean = if_ok c.updated_image.result c.updated_image.ensures.image (λ told is v rows h.
    let finds = rw (c.reborrow_prior.ensures, c.reborrow.ensures) at c.in_ok-find_before.ensures.found in
    let found = finds clean in
    let was = row_there v c.args.def.now rows (tables_of g.S.Store c.args.rows.now) h found.0 c.in-Some.there
    (subst (λ o. IsRowAt rows found.0 o) c.in-Some.is (found.2 v rows h)) in
    update_found c.args.def.now c.args.prior.now c.args.row.now rows found.0 found.1 was.0 was.1 told (is was.0.cells was.2 was.3))

pub returns-in-Some-clause-fault : goal.returns-in-Some-clause-fault
returns-in-Some-clause-fault g c clean = if_err c.updated_image.result c.updated_image.ensures.fault (λ e own v rows h.
    let finds = rw (c.reborrow_prior.ensures, c.reborrow.ensures) at c.in_ok-find_before.ensures.found in
    let found = finds clean in
    let was = row_there v c.args.def.now rows (tables_of g.S.Store c.args.rows.now) h found.0 c.in-Some.there
    (subst (λ o. IsRowAt rows found.0 o) c.in-Some.is (found.2 v rows h)) in
    own_fault e _ (own was.0.cells was.2 was.3 (new_checked c.args.def.now c.args.prior.now c.args.row.now found.0 found.1 ∙ sym was.4)))
