use Rattle.std.proofs.Common.{true, false, sym, subst, ◌∙◌, arith}
use Rattle.std.proofs.lemmas.Result.{err_from_is_err_and}
use Rattle.pgrows.specs.Rows.{tables_of}
use Rattle.pgencoded.specs.Acts.{KeepsPlace, StaysWhole}
use Rattle.pgencoded.specs.Spelled.{IsChanging}
use Rattle.pgencoded.proofs.Acting.{on_ok, if_ok}
use Rattle.pgencoded.proofs.Deciding.{update_refused, updated_not, updated_one, updated_fault}
use Rattle.pgencoded.proofs.Acting.{own_fault}
use Rattle.pgencoded.proofs.Formed.{own_of_read, read_refuses, row_fits}
use Rattle.pgchanging.proofs.Updating.{updated_whole}
use Rattle.pgchanging.proofs.Missing.{told_none, told_some, update_misses}
use Rattle.pgchanging.proofs.changing.update.Goals as goal

pub returns-in_err-identity-clause-fault : goal.returns-in_err-identity-clause-fault
returns-in_err-identity-clause-fault g c clean =
    let p = err_from_is_err_and c.from_residual.result c.from_residual.ensures.1 in
    rw (p.1, p.2) (λ v rows h.
    update_refused c.args.def.now c.args.prior.now c.args.row.now rows _
    (rw (c.reborrow_prior.ensures, c.reborrow.ensures) at c.in_err-identity.ensures.err))

pub returns-then-stays_whole-clause-made : goal.returns-then-stays_whole-clause-made
returns-then-stays_whole-clause-made g c clean =
    let identity = rw (c.reborrow_prior.ensures, c.reborrow.ensures) at c.in_ok-identity.ensures.ok in
    let at = c.as_slice-bytes.ensures.value ∙ identity.2 in
    let stays = c.stays_whole.ensures c.if-stays_whole.true identity.0 identity.1 in
    on_ok c.set_row.result (c.set_row.ensures.made clean) (λ sets. (
      record { was_open = sets.was_open; is_open = sets.is_open },
      λ v rows h. updated_whole c.args.def.now c.args.prior.now c.args.row.now rows identity.0 identity.1 c.as_slice-bytes.result.now at v
          (tables_of g.S.Store c.args.rows.now) h (tables_of g.S.Store c.set_row.new.rows)
          (subst (λ p. StaysWhole c.args.def.now p c.args.row.now) (sym at) stays) c.set_row.ensures.tuple sets.made,
    ))

pub returns-in-None-clause-made : goal.returns-in-None-clause-made
returns-in-None-clause-made g c clean =
    let identity = rw (c.reborrow_prior.ensures, c.reborrow.ensures) at c.in_ok-identity.ensures.ok in
    let found = c.in_ok-find_row.ensures.made clean in
    let none = sym (c.in_ok-find_row.ensures.found clean) ∙ c.in-None.is in (
      record { was_open = found.was_open; is_open = found.is_open },
      λ v rows h. updated_not c.args.def.now c.args.prior.now c.args.row.now rows identity.0 identity.1 c.as_slice-bytes.result.now
          (c.as_slice-bytes.ensures.value ∙ identity.2) v (tables_of g.S.Store c.args.rows.now) h (tables_of g.S.Store c.find_row.new.self)
          none found.made,
    )

pub returns-clause-made : goal.returns-clause-made
returns-clause-made g c clean =
    let before = c.replace_row.ensures.goes.survives.clean in
    let identity = rw (c.reborrow_prior.ensures, c.reborrow.ensures) at c.in_ok-identity.ensures.ok in
    let found = c.in_ok-find_row.ensures.made (omega (arith, before)) in
    let some = sym (c.in_ok-find_row.ensures.found (omega (arith, before))) ∙ c.in-Some.is in
    let replaces = c.in_ok-replace_row-in-Some.ensures.made clean in (
      record { was_open = found.was_open; is_open = replaces.0.is_open },
      λ v rows h. updated_one c.args.def.now c.args.prior.now c.args.row.now rows identity.0 identity.1 c.as_slice-bytes.result.now
          (c.as_slice-bytes.ensures.value ∙ identity.2) v (tables_of g.S.Store c.args.rows.now) h c.in-Some.there
          (tables_of g.S.Store c.replace_row.new.rows) some
          (λ was at. replaces.1 v rows was (subst (IsChanging v c.args.def.now rows) (sym found.made) h) at),
    )

pub returns-in_err-replace_row-in-Some-clause-fault : goal.returns-in_err-replace_row-in-Some-clause-fault
returns-in_err-replace_row-in-Some-clause-fault g c clean =
    let before = c.replace_row.ensures.goes.survives.clean in
    let p = err_from_is_err_and c.from_residual-in_err-replace_row-in-Some.result c.from_residual-in_err-replace_row-in-Some.ensures.1 in
    let identity = rw (c.reborrow_prior.ensures, c.reborrow.ensures) at c.in_ok-identity.ensures.ok in
    let found = c.in_ok-find_row.ensures.made (omega (arith, before)) in
    let some = sym (c.in_ok-find_row.ensures.found (omega (arith, before))) ∙ c.in-Some.is in
    let refuses = c.in_err-replace_row-in-Some.ensures.fault clean in
    rw (p.1, p.2) (λ v rows h.
    updated_fault c.args.def.now c.args.prior.now c.args.row.now rows identity.0 identity.1 c.as_slice-bytes.result.now
    (c.as_slice-bytes.ensures.value ∙ identity.2) v (tables_of g.S.Store c.args.rows.now) h c.in-Some.there _ some
    (λ was at. refuses v rows was (subst (IsChanging v c.args.def.now rows) (sym found.made) h) at))

pub returns-then-stays_whole-clause-missed : goal.returns-then-stays_whole-clause-missed
returns-then-stays_whole-clause-missed g c clean =
    let identity = rw (c.reborrow_prior.ensures, c.reborrow.ensures) at c.in_ok-identity.ensures.ok in
    if_ok c.set_row.result (c.set_row.ensures.missed clean) (λ missed told v rows h.
    update_misses v c.args.def.now rows (tables_of g.S.Store c.args.rows.now) h c.as_slice-bytes.result.now identity.0
    (c.as_slice-bytes.ensures.value ∙ identity.2) missed told c.args.prior.now c.args.row.now identity.1)

pub returns-in-None-clause-missed : goal.returns-in-None-clause-missed
returns-in-None-clause-missed g c clean v rows h =
    let identity = rw (c.reborrow_prior.ensures, c.reborrow.ensures) at c.in_ok-identity.ensures.ok in
    let none = sym (c.in_ok-find_row.ensures.found clean) ∙ c.in-None.is in
    update_misses v c.args.def.now rows (tables_of g.S.Store c.args.rows.now) h c.as_slice-bytes.result.now identity.0
    (c.as_slice-bytes.ensures.value ∙ identity.2) true
    (told_none c.args.def.now.oid c.as_slice-bytes.result.now (tables_of g.S.Store c.args.rows.now) none) c.args.prior.now c.args.row.now
    identity.1

pub returns-clause-missed : goal.returns-clause-missed
returns-clause-missed g c clean v rows h =
    let before = c.replace_row.ensures.goes.survives.clean in
    let identity = rw (c.reborrow_prior.ensures, c.reborrow.ensures) at c.in_ok-identity.ensures.ok in
    let some = sym (c.in_ok-find_row.ensures.found (omega (arith, before))) ∙ c.in-Some.is in
    update_misses v c.args.def.now rows (tables_of g.S.Store c.args.rows.now) h c.as_slice-bytes.result.now identity.0
    (c.as_slice-bytes.ensures.value ∙ identity.2) false
    (told_some c.args.def.now.oid c.as_slice-bytes.result.now (tables_of g.S.Store c.args.rows.now) c.in-Some.there some) c.args.prior.now
    c.args.row.now identity.1

pub returns-in_err-find_row-clause-fault : goal.returns-in_err-find_row-clause-fault
returns-in_err-find_row-clause-fault g c clean =
    read_refuses c.from_residual-in_err-find_row.result c.in_err-find_row.field-0.0 c.from_residual-in_err-find_row.ensures.1
    (λ fault is v rows h.
    let fits = row_fits v c.args.def.now rows (tables_of g.S.Store c.args.rows.now) h c.as_slice-bytes.result.now in
    own_fault fault _ (own_of_read _ fault (c.in_err-find_row.ensures.formed clean fits) is))

pub replace_row-requires-clause-place : goal.replace_row-requires-clause-place
replace_row-requires-clause-place g c keeps =
    let identity = rw (c.reborrow_prior.ensures, c.reborrow.ensures) at c.in_ok-identity.ensures.ok in
    let at = c.as_slice-bytes.ensures.value ∙ identity.2 in
    subst (λ p. KeepsPlace c.args.def.now p c.args.row.now) (sym at)
    (c.keeps_place-keeps_place.ensures keeps c.args.row.now identity.0 identity.1)
