use Rattle.std.proofs.Common.{subst}
use Rattle.std.proofs.lemmas.Result.{err_from_is_err_and}
use Rattle.pgrows.specs.Rows.{tables_of}
use Rattle.pgencoded.proofs.Acting.{own_fault}
use Rattle.pgencoded.proofs.Deciding.{delete_refused}
use Rattle.pgchanging.specs.Looks.{IsRowAt}
use Rattle.pgchanging.proofs.FoundRows.{delete_found, delete_missed, row_there}
use Rattle.pgchanging.proofs.looking.look_at_delete.Goals as goal

pub returns-in_err-find_before-clause-fault : goal.returns-in_err-find_before-clause-fault
returns-in_err-find_before-clause-fault g c clean =
    let p = err_from_is_err_and c.from_residual.result c.from_residual.ensures.1 in
    let refuses = rw c.reborrow.ensures at c.in_err-find_before.ensures.fault in
    rw (p.1, p.2) (λ v rows h. delete_refused c.args.def.now c.args.kind c.args.row.now rows _ (refuses clean v rows h))

pub returns-in_err-stored_cells-in-Some-clause-fault : goal.returns-in_err-stored_cells-in-Some-clause-fault
returns-in_err-stored_cells-in-Some-clause-fault g c clean =
    let p = err_from_is_err_and c.from_residual-in_err-stored_cells-in-Some.result c.from_residual-in_err-stored_cells-in-Some.ensures.1 in
    let finds = rw c.reborrow.ensures at c.in_ok-find_before.ensures.found in
    let found = finds clean in
    rw (p.1, p.2) (λ v rows h.
    let was = row_there v c.args.def.now rows (tables_of g.S.Store c.args.rows.now) h found.0 c.in-Some.there
    (subst (λ o. IsRowAt rows found.0 o) c.in-Some.is (found.2 v rows h)) in
    own_fault _ _ (c.in_err-stored_cells-in-Some.ensures.fault was.0.cells was.2 was.3))

pub returns-in-None-clause-image : goal.returns-in-None-clause-image
returns-in-None-clause-image g c clean v rows h =
    let finds = rw c.reborrow.ensures at c.in_ok-find_before.ensures.found in
    let found = finds clean in
    rw c.reborrow-in-None.ensures
    (delete_missed c.args.def.now c.args.kind c.args.row.now rows found.0 found.1
    (subst (λ o. IsRowAt rows found.0 o) c.in-None.is (found.2 v rows h)))

pub returns-in_ok-stored_cells-in-Some-clause-image : goal.returns-in_ok-stored_cells-in-Some-clause-image
returns-in_ok-stored_cells-in-Some-clause-image g c clean v rows h =
    let finds = rw c.reborrow.ensures at c.in_ok-find_before.ensures.found in
    let found = finds clean in
    let was = row_there v c.args.def.now rows (tables_of g.S.Store c.args.rows.now) h found.0 c.in-Some.there
    (subst (λ o. IsRowAt rows found.0 o) c.in-Some.is (found.2 v rows h)) in
    delete_found c.args.def.now c.args.kind c.args.row.now rows found.0 found.1 was.0 was.1 _
    (c.in_ok-stored_cells-in-Some.ensures.cells was.0.cells was.2 was.3)
