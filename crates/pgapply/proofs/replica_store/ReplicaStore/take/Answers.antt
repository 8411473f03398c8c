use Rattle.std.proofs.Common.{inl, inr, Result, Ok, Err, OnOk, ◌∙◌}
use Rattle.pgapply.proofs.replica_store.ReplicaStore.take.Goals as goal

on_ok : {T E : Type 0} (r : Result T E) (A B : Type 0) → OnOk r A → (A → B) → OnOk r B
on_ok (Ok t) A B h go = go h
on_ok (Err e) A B h go = tt

pub returns-clause-taken : goal.returns-clause-taken
returns-clause-taken g c serves = on_ok c.settle.result _ _ (c.settle.ensures.settled serves) (λ settles tables h.
    let one = c.in_ok-stage.ensures.staged (c.settle.ensures.served serves) tables (c.unstage.ensures.staged tables h) in
    (one.0, one.1, settles one.0 one.2))

pub returns-clause-crash : goal.returns-clause-crash
returns-clause-crash g c honest other left = elim (c.settle.ensures.crash honest other left) [
  | inl was ↦ inl (c.unstage.ensures.crash other (c.stage.ensures.crash (c.settle.ensures.honest honest) other was))
  | inr all ↦ inr (
    c.unstage.ensures.served (c.stage.ensures.served all.0),
    (
      (λ tables h. let one = c.in_ok-stage.ensures.staged all.0 tables (c.unstage.ensures.staged tables h) in
          (one.0, one.1, all.1.0 one.0 one.2)),
      all.1.1 ∙ c.in_ok-stage.ensures.end,
    ),
  )
]
