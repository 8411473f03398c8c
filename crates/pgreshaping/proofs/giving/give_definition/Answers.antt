use Rattle.std.proofs.Common.{◌≡◌, Some, sym, ap, subst, ◌∙◌, arith}
use Rattle.std.specs.FinMap.{get}
use Rattle.pgtables.specs.Kept as stored
use Rattle.pgtables.specs.Kept.{with_definition}
use Rattle.pgrows.specs.Rows.{tables_of}
use Rattle.pgencoded.specs.Spelled.{IsChanging, IsStored}
use Rattle.pgencoded.proofs.Acting.{on_ok, if_err, own_fault}
use Rattle.pgencoded.proofs.Formed.{definition_fits, own_of_read, read_refuses}
use Rattle.pgreshaping.proofs.Definitions.{found_same, found_nothing, given, given_before}
use Rattle.pgreshaping.proofs.giving.give_definition.Goals as goal

pub returns-then-is_stored-clause-made : goal.returns-then-is_stored-clause-made
returns-then-is_stored-clause-made g c clean =
    let made = c.in_ok-find_definition.ensures.made clean in
    let columns = c.as_slice-columns.ensures.value ∙ c.in_ok-encoded.ensures.ok in
    let at = sym (c.in_ok-find_definition.ensures.found clean) ∙ c.in-Some.is
    ∙ ap Some (c.is_stored.ensures.same c.if-is_stored.true columns) in (
      record { was_open = made.was_open; is_open = made.is_open },
      λ v h.
          let f = found_same v c.args.def.now (tables_of g.S.Store c.args.rows.now) h c.args.op.now c.requires.definition at in (
            f.0,
            f.1,
            subst (IsChanging v c.args.def.now f.0) (sym made.made)
                (given_before v c.args.def.now (tables_of g.S.Store c.args.rows.now) h c.args.op.now f.0 f.1 f.2 at),
          ),
    )

pub returns-in-None-clause-made : goal.returns-in-None-clause-made
returns-in-None-clause-made g c clean =
    let before = c.store_definition.ensures.goes.survives.clean in
    let made = c.in_ok-find_definition.ensures.made (omega (arith, before)) in
    let none = sym (c.in_ok-find_definition.ensures.found (omega (arith, before))) ∙ c.in-None.is in
    let columns = c.as_slice-columns.ensures.value ∙ c.in_ok-encoded.ensures.ok in
    on_ok c.store_definition.result (c.store_definition.ensures.made clean) (λ put. (
      record { was_open = made.was_open; is_open = put.is_open },
      λ v h.
          let f = found_nothing v c.args.def.now (tables_of g.S.Store c.args.rows.now) h c.args.op.now none in (
            f.0,
            f.1,
            subst (IsChanging v c.args.def.now f.0)
                (sym (put.made ∙ (λ i. with_definition c.args.def.now.oid
                (record {
                  namespace = c.args.def.now.namespace;
                  name = c.args.def.now.name;
                  letter = c.args.def.now.letter;
                  columns = columns i;
                }) (made.made i))))
                (given v c.args.def.now (tables_of g.S.Store c.args.rows.now) h c.args.op.now f.0 f.1 f.2),
          ),
    ))

pub replace_definition-requires-clause-columns : goal.replace_definition-requires-clause-columns
replace_definition-requires-clause-columns g c = c.as_slice-columns.ensures.value ∙ c.in_ok-encoded.ensures.ok

pub returns-clause-made : goal.returns-clause-made
returns-clause-made g c clean =
    let before = c.replace_definition.ensures.goes.survives.clean in
    let made = c.in_ok-find_definition.ensures.made (omega (arith, before)) in
    let some = sym (c.in_ok-find_definition.ensures.found (omega (arith, before))) ∙ c.in-Some.is in
    on_ok c.replace_definition.result (c.replace_definition.ensures.made clean) (λ gives. (
      record { was_open = made.was_open; is_open = gives.0.is_open },
      λ v h. gives.1 v (subst (IsStored v) (sym made.made) h)
          (subst (λ (t : stored.Tables). get t.defined c.args.def.now.oid ≡ Some c.in-Some.stored) (sym made.made) some),
    ))

pub returns-clause-fault : goal.returns-clause-fault
returns-clause-fault g c clean =
    let before = c.replace_definition.ensures.goes.survives.clean in
    let made = c.in_ok-find_definition.ensures.made (omega (arith, before)) in
    let some = sym (c.in_ok-find_definition.ensures.found (omega (arith, before))) ∙ c.in-Some.is in
    if_err c.replace_definition.result (c.replace_definition.ensures.fault clean) (λ e refuses v h.
    refuses v (subst (IsStored v) (sym made.made) h)
    (subst (λ (t : stored.Tables). get t.defined c.args.def.now.oid ≡ Some c.in-Some.stored) (sym made.made) some))

pub returns-in_err-find_definition-clause-fault : goal.returns-in_err-find_definition-clause-fault
returns-in_err-find_definition-clause-fault g c clean =
    read_refuses c.from_residual-in_err-find_definition.result c.in_err-find_definition.field-0.0
    c.from_residual-in_err-find_definition.ensures.1 (λ fault is v h.
    let fits = definition_fits v (tables_of g.S.Store c.args.rows.now) h c.args.def.now.oid in
    own_fault fault _ (own_of_read _ fault (c.in_err-find_definition.ensures.formed clean fits) is))
