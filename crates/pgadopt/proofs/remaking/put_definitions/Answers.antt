use Rattle.std.proofs.Common.{◌≡◌, ◌∷◌, ◌++◌, [], refl, sym, ap, subst, ◌∙◌, take}
use Rattle.std.proofs.lemmas.List.{take_more}
use Rattle.pgtables.specs.Kept as stored
use Rattle.pgtables.specs.Kept.{GoesOn, Makes, with_definition}
use Rattle.pgadopt.specs.Adopted.{with_definitions}
use Rattle.pgadopt.proofs.Adopted.{take_whole}
use Rattle.pgadopt.proofs.Remade.{none_put, one_put}
use Rattle.pgadopt.proofs.remaking.put_definitions.Goals as goal

pub loop-oid-init : goal.loop-oid-init
loop-oid-init g c = (refl, none_put g.S.Store c.args.tx.now.conn.now c.requires)

pub loop-oid-preserved : goal.loop-oid-preserved
loop-oid-preserved g c =
    let before = c.loop-oid.invariant in
    let xs = c.args.definitions.now in
    let i = c.loop-oid.oid-index in
    let x = c.loop-oid-item.result in
    let put = c.in_ok-put_definition.ensures in
    let is : ◌≡◌ {A = stored.Definition}
    (record { namespace = c.namespace.result.now; name = c.name.result.now; letter = c.letter.result; columns = c.columns.result.now })
    x.1 =
    λ i. record {
      namespace = c.namespace.ensures i;
      name = c.name.ensures i;
      letter = c.letter.ensures i;
      columns = c.columns.ensures i;
    } in (
      put.same_reference ∙ before.0,
      subst (λ es. GoesOn g.S.Store (with_definitions es) c.args.tx.now.conn.now c.put_definition.new.tx.conn.now)
          (ap (λ y. take i xs ++ y ∷ []) c.loop-oid-item.is ∙ sym (take_more xs i x c.loop-oid-test.true))
          (one_put g.S.Store c.args.tx.now.conn.now c.loop-oid.tx.conn.now c.put_definition.new.tx.conn.now (take i xs) x before.1
          (λ clean. subst (λ d. Makes g.S.Store (with_definition x.0 d) c.loop-oid.tx.conn.now c.put_definition.new.tx.conn.now) is
          (put.made clean)) (record { keeps = put.keeps; survives = put.survives })),
    )

pub returns-clause-made : goal.returns-clause-made
returns-clause-made g c =
    let all = subst (λ es. GoesOn g.S.Store (with_definitions es) c.args.tx.now.conn.now c.loop-oid.tx.conn.now)
    (take_whole c.loop-oid.oid-index c.args.definitions.now c.loop-oid-test.false) c.loop-oid.invariant.1 in
    all.made
