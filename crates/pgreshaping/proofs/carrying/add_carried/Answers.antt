use Rattle.std.proofs.Common.{sym, ap, subst, ◌∙◌, arith, ◌+◌, IfSome}
use Rattle.pgtables.specs.Kept as stored
use Rattle.pgtables.specs.Kept.{without_rows}
use Rattle.pgtables.specs.Shown.{FitsCopies}
use Rattle.pgrows.specs.Rows.{tables_of}
use Rattle.pgencoded.proofs.Acting.{on_ok, if_err, then_open, own_fault}
use Rattle.pgencoded.proofs.Formed.{own_of_read, read_refuses, row_fits}
use Rattle.pgreshaping.proofs.Joining.{joined_first, joined_again, joined_not, joined_clash}
use Rattle.pgreshaping.proofs.Parked.{beside_put, seen_at, seen_put}
use Rattle.pgreshaping.proofs.carrying.add_carried.Goals as goal

pub returns-then-clashes-clause-fault : goal.returns-then-clashes-clause-fault
returns-then-clashes-clause-fault g c clean =
    rw c.new.ensures (λ row is park apart v rows h.
    joined_clash v c.args.def.now rows (without_rows park (tables_of g.S.Store c.args.rows.now)) h row c.args.identity.now
    c.args.body.now c.args.copies is
    (sym c.clashes.ensures ∙ c.if-clashes.true))

pub returns-in_ok-put_row-in-None-clause-made : goal.returns-in_ok-put_row-in-None-clause-made
returns-in_ok-put_row-in-None-clause-made g c clean =
    let before = c.put_row.ensures.survives.clean in
    let found = c.in_ok-find_row.ensures.made (omega (arith, before)) in
    let none = sym (c.in_ok-find_row.ensures.found (omega (arith, before))) ∙ c.in-None.is in
    let put = c.in_ok-put_row-in-None.ensures.made clean in
    let t = tables_of g.S.Store c.args.rows.now in
    let k : stored.Copies = record { body = c.args.body.now; copies = c.args.copies } in
    let made = put.made ∙ ap (stored.with_row c.args.def.now.oid c.args.identity.now k) found.made in
    record {
      goes = then_open g.S.Store c.args.rows.now c.find_row.new.self c.put_row.new.self _ _ found put;
      beside = beside_put c.args.def.now.oid c.args.identity.now k t _ made;
      made = λ row is park apart v rows h. joined_first v c.args.def.now rows (without_rows park t) h row c.args.identity.now
          c.args.body.now c.args.copies is (without_rows park (tables_of g.S.Store c.put_row.new.self))
          (seen_at park c.args.def.now.oid t apart c.args.identity.now ∙ none)
          (sym c.clashes.ensures ∙ c.if-clashes.false)
          (ap (without_rows park) made ∙ seen_put c.args.def.now.oid c.args.identity.now k t park apart);
    }

pub returns-in-Some-clause-made : goal.returns-in-Some-clause-made
returns-in-Some-clause-made g c clean =
    let before = c.join_copies.ensures.goes.survives.clean in
    let found = c.in_ok-find_row.ensures.made (omega (arith, before)) in
    let some = sym (c.in_ok-find_row.ensures.found (omega (arith, before))) ∙ c.in-Some.is in
    let t = tables_of g.S.Store c.args.rows.now in
    let k : stored.Copies = record { body = c.args.body.now; copies = c.in-Some.there.copies + c.args.copies } in
    on_ok c.join_copies.result (c.join_copies.ensures.made clean) (λ join.
    let made = join.made.made ∙ ap (stored.with_row c.args.def.now.oid c.args.identity.now k) found.made in
    record {
      goes = then_open g.S.Store c.args.rows.now c.find_row.new.self c.join_copies.new.rows _ _ found join.made;
      beside = beside_put c.args.def.now.oid c.args.identity.now k t _ made;
      made = λ row is park apart v rows h. joined_again v c.args.def.now rows (without_rows park t) h row c.args.identity.now
          c.args.body.now c.args.copies is c.in-Some.there
          (seen_at park c.args.def.now.oid t apart c.args.identity.now ∙ some)
          (without_rows park (tables_of g.S.Store c.join_copies.new.rows)) join.bag join.few
          (ap (without_rows park) made ∙ seen_put c.args.def.now.oid c.args.identity.now k t park apart);
    })

pub returns-in-Some-clause-fault : goal.returns-in-Some-clause-fault
returns-in-Some-clause-fault g c clean =
    let before = c.join_copies.ensures.goes.survives.clean in
    let some = sym (c.in_ok-find_row.ensures.found (omega (arith, before))) ∙ c.in-Some.is in
    let t = tables_of g.S.Store c.args.rows.now in
    if_err c.join_copies.result c.join_copies.ensures.fault (λ e refuses row is park apart v rows h.
    joined_not v c.args.def.now rows (without_rows park t) h row c.args.identity.now c.args.body.now c.args.copies is
    c.in-Some.there (seen_at park c.args.def.now.oid t apart c.args.identity.now ∙ some) e refuses)

pub returns-in_err-find_row-clause-fault : goal.returns-in_err-find_row-clause-fault
returns-in_err-find_row-clause-fault g c clean =
    read_refuses c.from_residual.result c.in_err-find_row.field-0.0 c.from_residual.ensures.1
    (λ fault is row carried park apart v rows h.
    let t = tables_of g.S.Store c.args.rows.now in
    let fits = subst (λ o. IfSome o FitsCopies) (seen_at park c.args.def.now.oid t apart c.args.identity.now)
    (row_fits v c.args.def.now rows (without_rows park t) h c.args.identity.now) in
    own_fault fault _ (own_of_read _ fault (c.in_err-find_row.ensures.formed clean fits) is))
