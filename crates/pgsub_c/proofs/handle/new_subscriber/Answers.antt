use Rattle.std.proofs.Common.{inr, subst, sym}
use Rattle.std.proofs.lemmas.Result.{IfErr-weaker, IfOk-weaker}
use Rattle.pgembed.specs.InMemory.{IsNew}
use Rattle.pgsub_c.proofs.handle.new_subscriber.Goals as goal

pub returns-in-Ok-clause-new : goal.returns-in-Ok-clause-new
returns-in-Ok-clause-new c =
    IfOk-weaker c.boxed.result _ _ (λ held is. subst (IsNew c.args.version) (sym is) c.in-Ok.ensures.new) c.boxed.ensures.value

pub returns-in-Ok-clause-number : goal.returns-in-Ok-clause-number
returns-in-Ok-clause-number c = IfErr-weaker c.boxed.result _ _ (λ number is. inr is) c.boxed.ensures.number
