use Rattle.std.proofs.Common.{◌≡◌, sym, subst, ◌∙◌, arith, rules}
use Rattle.pgrows.specs.Rows.{tables_of}
use Rattle.pgapply.specs.Apply.{without_row}
use Rattle.pgencoded.specs.Spelled.{IsChanging}
use Rattle.pgencoded.proofs.Acting.{on_ok, if_err, moved_same, take_changes}
use Rattle.pgchanging.proofs.changing.move_row.Goals as goal

pub returns-then-eq-clause-made : goal.returns-then-eq-clause-made
returns-then-eq-clause-made g c clean =
    let same : c.as_slice.result.now ≡ c.args.identity.now = search rules in
    on_ok c.put_in_place.result (c.put_in_place.ensures.made clean) (λ put. (
      record { was_open = put.was_open; is_open = put.is_open },
      λ v rows was h found sent.
          moved_same v c.args.def.now rows (tables_of g.S.Store c.args.rows.now) h c.args.row.now c.args.identity.now c.args.there.now was
          (tables_of g.S.Store c.put_in_place.new.rows) found
          (sym same ∙ c.as_slice.ensures ∙ c.in_ok-next.ensures.ok) c.put_in_place.ensures.tuple c.requires.width sent put.made,
    ))

pub returns-clause-made : goal.returns-clause-made
returns-clause-made g c clean =
    let before = c.add_row.ensures.goes.survives.clean in
    let take = c.in_ok-take_row.ensures.made (omega (arith, before)) in
    on_ok c.add_row.result (c.add_row.ensures.made clean) (λ adds. (
      record { was_open = take.was_open; is_open = adds.0.is_open },
      λ v rows was h found sent.
          adds.1 c.args.row.now (record {
            place_is = c.as_slice-2.ensures ∙ c.in_ok-next.ensures.ok;
            body_is = c.as_slice-3.ensures ∙ c.in_ok-body.ensures.ok;
            tuple = c.encode.ensures.limits;
            width = c.requires.width;
            sent = sent;
          })
          v (without_row c.args.identity.now was rows)
          (subst (IsChanging v c.args.def.now (without_row c.args.identity.now was rows)) (sym take.made)
          (take_changes v c.args.def.now rows (tables_of g.S.Store c.args.rows.now) h c.args.identity.now c.args.there.now was found)),
    ))

pub returns-clause-fault : goal.returns-clause-fault
returns-clause-fault g c clean =
    let before = c.add_row.ensures.goes.survives.clean in
    let take = c.in_ok-take_row.ensures.made (omega (arith, before)) in
    if_err c.add_row.result (c.add_row.ensures.fault clean) (λ e refuses v rows was h found sent.
    refuses c.args.row.now (record {
      place_is = c.as_slice-2.ensures ∙ c.in_ok-next.ensures.ok;
      body_is = c.as_slice-3.ensures ∙ c.in_ok-body.ensures.ok;
      tuple = c.encode.ensures.limits;
      width = c.requires.width;
      sent = sent;
    })
    v (without_row c.args.identity.now was rows)
    (subst (IsChanging v c.args.def.now (without_row c.args.identity.now was rows)) (sym take.made)
    (take_changes v c.args.def.now rows (tables_of g.S.Store c.args.rows.now) h c.args.identity.now c.args.there.now was found)))
