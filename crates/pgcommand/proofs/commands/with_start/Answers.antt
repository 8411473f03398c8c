use Rattle.std.proofs.lemmas.Result.{IfOk-weaker}
use Rattle.pgcommand.proofs.Building.{with_arg}
use Rattle.pgcommand.proofs.commands.with_start.Goals as goal

pub returns : goal.returns
returns c app is =
    let one = with_arg _ _ _ _ _ is c.load.ensures.rule c.load.ensures.local c.in_ok-arg.ensures in
    IfOk-weaker c.arg-2.result _ _ (λ r h. with_arg _ r _ _ _ one c.trust.ensures.rule c.trust.ensures.local h) c.arg-2.ensures
