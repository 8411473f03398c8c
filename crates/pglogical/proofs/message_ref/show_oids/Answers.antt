use Rattle.std.proofs.Common.{List, ℕ, subst, sym}
use Rattle.pglogical.specs.Typed.{AreNumbers}
use Rattle.pglogical.proofs.message_ref.show_oids.Goals as goal

pub loop-oid-preserved : goal.loop-oid-preserved
loop-oid-preserved c = λ others.
    c.loop-oid.invariant (subst (λ (l : List ℕ). AreNumbers l) (sym c.in-Some.ensures.steps) (c.show_number.ensures, others))

pub returns : goal.returns
returns c = c.loop-oid.invariant (subst (λ (l : List ℕ). AreNumbers l) (sym c.in-None.ensures.steps.0) tt)
