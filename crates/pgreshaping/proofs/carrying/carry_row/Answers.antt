use Rattle.std.proofs.Common.{ap, ◌∙◌}
use Rattle.pgtables.specs.Kept as stored
use Rattle.pgrel.specs.Carried.{placed_cells}
use Rattle.pgrel.proofs.CarriedRows.{carried_by_places}
use Rattle.pgapply.specs.Apply.{moved}
use Rattle.pgencoded.proofs.Acting.{on_ok, if_err}
use Rattle.pgreshaping.proofs.Joining.{carried_row_is}
use Rattle.pgreshaping.proofs.carrying.carry_row.Goals as goal

pub returns-clause-made : goal.returns-clause-made
returns-clause-made g c clean = on_ok c.add_carried.result (c.add_carried.ensures.made clean) (λ joins. record {
  goes = joins.goes;
  beside = joins.beside;
  made = λ row kept park apart v rows h.
      let read = c.in_ok-was.ensures.ok row.cells kept.tuple (c.body.ensures ∙ ap (λ (k : stored.Copies). k.body) kept.is) in
      joins.made (moved c.args.old.now c.args.def.now row)
      (carried_row_is c.args.old.now c.args.def.now row c.args.kept.now _ _ _ _ _ kept read
      (c.borrowed-row.ensures ∙ c.in_ok-next.ensures.ok ∙ ap (placed_cells _) c.requires.carrying
      ∙ carried_by_places c.args.old.now.columns c.args.def.now.columns _) (c.as_slice.ensures ∙ c.in_ok-identity.ensures.ok)
      (c.as_slice-2.ensures ∙ c.in_ok-body.ensures.ok) c.copies.ensures c.encode.ensures.limits)
      park apart v rows h;
})

pub returns-clause-fault : goal.returns-clause-fault
returns-clause-fault g c clean = if_err c.add_carried.result (c.add_carried.ensures.fault clean) (λ e refuses row kept park apart v rows h.
    let read = c.in_ok-was.ensures.ok row.cells kept.tuple (c.body.ensures ∙ ap (λ (k : stored.Copies). k.body) kept.is) in
    refuses (moved c.args.old.now c.args.def.now row)
    (carried_row_is c.args.old.now c.args.def.now row c.args.kept.now _ _ _ _ _ kept read
    (c.borrowed-row.ensures ∙ c.in_ok-next.ensures.ok ∙ ap (placed_cells _) c.requires.carrying
    ∙ carried_by_places c.args.old.now.columns c.args.def.now.columns _) (c.as_slice.ensures ∙ c.in_ok-identity.ensures.ok)
    (c.as_slice-2.ensures ∙ c.in_ok-body.ensures.ok) c.copies.ensures c.encode.ensures.limits)
    park apart v rows h)
