use Rattle.std.proofs.Common.{true, false, sym, ap, ◌∙◌, arith}
use Rattle.std.specs.Prelude.{not}
use Rattle.std.proofs.lemmas.Result.{err_from_is_err_and}
use Rattle.pgrows.specs.Rows.{tables_of}
use Rattle.pgencoded.specs.Acts.{taken_row}
use Rattle.pgencoded.proofs.Deciding.{delete_refused, deleted_not, deleted_one}
use Rattle.pgencoded.proofs.Acting.{own_fault}
use Rattle.pgencoded.proofs.Formed.{own_of_read, read_refuses, row_fits}
use Rattle.pgchanging.proofs.Updating.{deleted_keyed}
use Rattle.pgchanging.proofs.Missing.{delete_misses, told_none, told_some}
use Rattle.pgchanging.proofs.changing.delete.Goals as goal

pub returns-in_err-identity-clause-fault : goal.returns-in_err-identity-clause-fault
returns-in_err-identity-clause-fault g c clean =
    let p = err_from_is_err_and c.from_residual.result c.from_residual.ensures.1 in
    rw (p.1, p.2) (λ v rows h.
    delete_refused c.args.def.now c.args.kind c.args.row.now rows _ (rw c.reborrow.ensures at c.in_err-identity.ensures.err))

pub returns-then-keyed-clause-made : goal.returns-then-keyed-clause-made
returns-then-keyed-clause-made g c clean =
    let identity = rw c.reborrow.ensures at c.in_ok-identity.ensures.ok in
    let gone = c.in_ok-was_there.ensures.made clean in (
      record { was_open = gone.was_open; is_open = gone.is_open },
      λ v rows h. deleted_keyed c.args.def.now c.args.kind c.args.row.now rows identity.0 identity.1 c.as_slice-bytes.result.now
          (c.as_slice-bytes.ensures.value ∙ identity.2) v (tables_of g.S.Store c.args.rows.now) h
          (tables_of g.S.Store c.delete_row.new.self) (sym c.keyed.ensures ∙ c.if-keyed.true) gone.made,
    )

pub returns-in-None-clause-made : goal.returns-in-None-clause-made
returns-in-None-clause-made g c clean =
    let identity = rw c.reborrow.ensures at c.in_ok-identity.ensures.ok in
    let found = c.in_ok-find_row.ensures.made clean in
    let none = sym (c.in_ok-find_row.ensures.found clean) ∙ c.in-None.is in (
      record { was_open = found.was_open; is_open = found.is_open },
      λ v rows h. deleted_not c.args.def.now c.args.kind c.args.row.now rows identity.0 identity.1 c.as_slice-bytes.result.now
          (c.as_slice-bytes.ensures.value ∙ identity.2) v (tables_of g.S.Store c.args.rows.now) h (tables_of g.S.Store c.find_row.new.self)
          none found.made,
    )

pub returns-clause-made : goal.returns-clause-made
returns-clause-made g c clean =
    let before = c.take_row.ensures.goes.survives.clean in
    let identity = rw c.reborrow.ensures at c.in_ok-identity.ensures.ok in
    let found = c.in_ok-find_row.ensures.made (omega (arith, before)) in
    let some = sym (c.in_ok-find_row.ensures.found (omega (arith, before))) ∙ c.in-Some.is in
    let takes = c.in_ok-take_row-in-Some.ensures.made clean in (
      record { was_open = found.was_open; is_open = takes.is_open },
      λ v rows h. deleted_one c.args.def.now c.args.kind c.args.row.now rows identity.0 identity.1 c.as_slice-bytes.result.now
          (c.as_slice-bytes.ensures.value ∙ identity.2) v (tables_of g.S.Store c.args.rows.now) h c.in-Some.there
          (tables_of g.S.Store c.take_row.new.rows) some
          (takes.made ∙ ap (taken_row c.args.def.now.oid c.as_slice-bytes.result.now c.in-Some.there) found.made),
    )

pub returns-then-keyed-clause-missed : goal.returns-then-keyed-clause-missed
returns-then-keyed-clause-missed g c clean v rows h =
    let identity = rw c.reborrow.ensures at c.in_ok-identity.ensures.ok in
    delete_misses v c.args.def.now rows (tables_of g.S.Store c.args.rows.now) h c.as_slice-bytes.result.now identity.0
    (c.as_slice-bytes.ensures.value ∙ identity.2) _ (ap not (c.in_ok-was_there.ensures.told clean)) c.args.kind c.args.row.now identity.1

pub returns-in-None-clause-missed : goal.returns-in-None-clause-missed
returns-in-None-clause-missed g c clean v rows h =
    let identity = rw c.reborrow.ensures at c.in_ok-identity.ensures.ok in
    let none = sym (c.in_ok-find_row.ensures.found clean) ∙ c.in-None.is in
    delete_misses v c.args.def.now rows (tables_of g.S.Store c.args.rows.now) h c.as_slice-bytes.result.now identity.0
    (c.as_slice-bytes.ensures.value ∙ identity.2) true
    (told_none c.args.def.now.oid c.as_slice-bytes.result.now (tables_of g.S.Store c.args.rows.now) none)
    c.args.kind c.args.row.now identity.1

pub returns-clause-missed : goal.returns-clause-missed
returns-clause-missed g c clean v rows h =
    let before = c.take_row.ensures.goes.survives.clean in
    let identity = rw c.reborrow.ensures at c.in_ok-identity.ensures.ok in
    let some = sym (c.in_ok-find_row.ensures.found (omega (arith, before))) ∙ c.in-Some.is in
    delete_misses v c.args.def.now rows (tables_of g.S.Store c.args.rows.now) h c.as_slice-bytes.result.now identity.0
    (c.as_slice-bytes.ensures.value ∙ identity.2) false
    (told_some c.args.def.now.oid c.as_slice-bytes.result.now (tables_of g.S.Store c.args.rows.now) c.in-Some.there some) c.args.kind
    c.args.row.now identity.1

pub returns-in_err-find_row-clause-fault : goal.returns-in_err-find_row-clause-fault
returns-in_err-find_row-clause-fault g c clean =
    read_refuses c.from_residual-in_err-find_row.result c.in_err-find_row.field-0.0 c.from_residual-in_err-find_row.ensures.1
    (λ fault is v rows h.
    let fits = row_fits v c.args.def.now rows (tables_of g.S.Store c.args.rows.now) h c.as_slice-bytes.result.now in
    own_fault fault _ (own_of_read _ fault (c.in_err-find_row.ensures.formed clean fits) is))
