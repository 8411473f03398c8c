use Rattle.std.proofs.Common.{sym, subst, ◌∙◌}
use Rattle.std.proofs.lemmas.Result.{err_from_is_err_and}
use Rattle.pgapply.specs.Stored.{IsFault}
use Rattle.pgapply.proofs.KeepsForm.{insert_checked}
use Rattle.pgencoded.proofs.Acting.{on_ok, if_err}
use Rattle.pgencoded.proofs.Deciding.{insert_refused, insert_goes}
use Rattle.pgchanging.proofs.changing.insert.Goals as goal

pub returns-in_err-check_insert-clause-fault : goal.returns-in_err-check_insert-clause-fault
returns-in_err-check_insert-clause-fault g c clean =
    let p = err_from_is_err_and c.from_residual.result c.from_residual.ensures.1 in
    rw p.1 (λ v rows h. insert_refused c.args.def.now c.args.row.now rows p.0 _ (sym c.check_insert.ensures ∙ c.in_err-check_insert.was)
    p.2)

pub returns-clause-made : goal.returns-clause-made
returns-clause-made g c clean =
    let ok = sym c.check_insert.ensures ∙ c.in_ok-check_insert.was in
    let checked = insert_checked c.args.def.now c.args.row.now _ ok in
    on_ok c.add_row.result (c.add_row.ensures.made clean) (λ adds. (
      adds.0,
      λ v rows h.
          let made = adds.1 c.args.row.now
          (record {
            place_is = c.as_slice.ensures ∙ c.in_ok-identity.ensures.ok;
            body_is = c.as_slice-2.ensures ∙ c.in_ok-body.ensures.ok;
            tuple = c.encode.ensures.limits;
            width = checked.0;
            sent = checked.1;
          }) v rows h in
          (made.0, insert_goes c.args.def.now c.args.row.now rows _ ok ∙ made.1, made.2),
    ))

pub returns-clause-fault : goal.returns-clause-fault
returns-clause-fault g c clean =
    let ok = sym c.check_insert.ensures ∙ c.in_ok-check_insert.was in
    let checked = insert_checked c.args.def.now c.args.row.now _ ok in
    if_err c.add_row.result (c.add_row.ensures.fault clean) (λ e refuses v rows h.
    subst (IsFault e) (sym (insert_goes c.args.def.now c.args.row.now rows _ ok))
    (refuses c.args.row.now (record {
      place_is = c.as_slice.ensures ∙ c.in_ok-identity.ensures.ok;
      body_is = c.as_slice-2.ensures ∙ c.in_ok-body.ensures.ok;
      tuple = c.encode.ensures.limits;
      width = checked.0;
      sent = checked.1;
    }) v rows h))
