use Rattle.std.proofs.Common.{sym, subst, ◌∙◌}
use Rattle.pgtables.specs.Kept.{with_definition}
use Rattle.pgrows.specs.Rows.{tables_of}
use Rattle.pgencoded.specs.Spelled.{IsChanging}
use Rattle.pgencoded.proofs.Acting.{on_ok, if_err}
use Rattle.pgreshaping.proofs.Definitions.{found_shape, given}
use Rattle.pgreshaping.proofs.Replacing.{emptied_finds, carried_finds, carried_refuses}
use Rattle.pgreshaping.proofs.Rewritten.{rewritten_finds, rewritten_refuses}
use Rattle.std.proofs.lemmas.Result.{err_from_is_err_and}
use Rattle.pgencoded.proofs.Formed.{spelled_there}
use Rattle.pgreshaping.proofs.giving.replace_definition.Goals as goal

pub returns-then-has_shape-clause-made : goal.returns-then-has_shape-clause-made
returns-then-has_shape-clause-made g c clean = on_ok c.store_definition.result (c.store_definition.ensures.made clean) (λ put. (
  record { was_open = put.was_open; is_open = put.is_open },
  λ v h at.
      let t = tables_of g.S.Store c.args.rows.now in
      let f = found_shape v c.args.def.now t h c.args.op.now c.args.stored.now at
      (λ old is e. sym c.if-has_shape.true ∙ c.has_shape.ensures old is e) in (
        f.0,
        f.1,
        subst (IsChanging v c.args.def.now f.0)
            (sym (put.made ∙ (λ i. with_definition c.args.def.now.oid
            (record {
              namespace = c.args.def.now.namespace;
              name = c.args.def.now.name;
              letter = c.args.def.now.letter;
              columns = c.requires.columns i;
            }) t)))
            (given v c.args.def.now t h c.args.op.now f.0 f.1 f.2),
      ),
))

pub returns-then-is_truncate-clause-made : goal.returns-then-is_truncate-clause-made
returns-then-is_truncate-clause-made g c clean = on_ok c.empty_table.result (c.empty_table.ensures.made clean) (λ empties. (
  record { was_open = empties.was_open; is_open = empties.is_open },
  λ v h at. emptied_finds v c.args.def.now (tables_of g.S.Store c.args.rows.now) h c.args.stored.now at
      (λ old is e. sym c.if-has_shape.false ∙ c.has_shape.ensures old is e) c.args.op.now
      (sym c.is_truncate.ensures ∙ c.if-is_truncate.true)
      c.args.columns.now c.requires.columns (tables_of g.S.Store c.empty_table.new.rows) empties.made,
))

pub returns-then-keeps_identity-clause-made : goal.returns-then-keeps_identity-clause-made
returns-then-keeps_identity-clause-made g c clean = on_ok c.rewrite_table.result (c.rewrite_table.ensures.made clean) (λ rewrites. (
  rewrites.0,
  λ v h at. rewritten_finds v c.args.def.now (tables_of g.S.Store c.args.rows.now) h c.args.stored.now at
      (λ old is e. sym c.if-has_shape.false ∙ c.has_shape.ensures old is e) c.args.op.now
      (sym c.is_truncate.ensures ∙ c.if-is_truncate.false)
      c.args.columns.now c.requires.columns c.in_ok-old.old c.in_ok-old.ensures.ok
      (c.keeps_identity.ensures c.if-keeps_identity.true) (tables_of g.S.Store c.rewrite_table.new.rows)
      (λ start. rewrites.1 v start),
))

pub returns-then-keeps_identity-clause-fault : goal.returns-then-keeps_identity-clause-fault
returns-then-keeps_identity-clause-fault g c clean =
    if_err c.rewrite_table.result (c.rewrite_table.ensures.fault clean) (λ e refuses v h at.
    rewritten_refuses v c.args.def.now (tables_of g.S.Store c.args.rows.now) h c.args.stored.now at
    (λ old is e. sym c.if-has_shape.false ∙ c.has_shape.ensures old is e) c.args.op.now
    (sym c.is_truncate.ensures ∙ c.if-is_truncate.false)
    c.args.columns.now c.requires.columns c.in_ok-old.old c.in_ok-old.ensures.ok
    (c.keeps_identity.ensures c.if-keeps_identity.true) e (λ start. refuses v start))

pub returns-clause-made : goal.returns-clause-made
returns-clause-made g c clean = on_ok c.carry_table.result (c.carry_table.ensures.made clean) (λ carries. (
  carries.0,
  λ v h at. carried_finds v c.args.def.now (tables_of g.S.Store c.args.rows.now) h c.args.stored.now at
      (λ old is e. sym c.if-has_shape.false ∙ c.has_shape.ensures old is e) c.args.op.now
      (sym c.is_truncate.ensures ∙ c.if-is_truncate.false)
      c.args.columns.now c.requires.columns c.in_ok-old.old c.in_ok-old.ensures.ok (tables_of g.S.Store c.carry_table.new.rows)
      (λ entries. carries.1 v entries),
))

pub returns-clause-fault : goal.returns-clause-fault
returns-clause-fault g c clean = if_err c.carry_table.result (c.carry_table.ensures.fault clean) (λ e refuses v h at.
    carried_refuses v c.args.def.now (tables_of g.S.Store c.args.rows.now) h c.args.stored.now at
    (λ old is e. sym c.if-has_shape.false ∙ c.has_shape.ensures old is e) c.args.op.now
    (sym c.is_truncate.ensures ∙ c.if-is_truncate.false)
    c.args.columns.now c.requires.columns c.in_ok-old.old c.in_ok-old.ensures.ok e (λ entries. refuses v entries))

pub returns-in_err-old-clause-fault : goal.returns-in_err-old-clause-fault
returns-in_err-old-clause-fault g c clean =
    let p = err_from_is_err_and c.from_residual.result c.from_residual.ensures.1 in
    rw (p.1, p.2) (λ v h at.
    let old = spelled_there v (tables_of g.S.Store c.args.rows.now) h c.args.def.now.oid c.args.stored.now at in
    rw (c.in_err-old.ensures.memory old.0 old.1 old.2 old.3) tt)
