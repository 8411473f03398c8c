use Rattle.std.proofs.lemmas.Result.{IfOk-weaker}
use Rattle.pgcommand.proofs.Building.{with_arg}
use Rattle.pgcommand.proofs.commands.with_store.Goals as goal

pub returns : goal.returns
returns c app is =
    let one = with_arg _ _ _ _ _ is c.store.ensures.rule c.store.ensures.local c.in_ok-arg.ensures in
    IfOk-weaker c.arg-2.result _ _ (λ r h. with_arg _ r _ _ _ one c.cache.ensures.rule c.cache.ensures.local h) c.arg-2.ensures
