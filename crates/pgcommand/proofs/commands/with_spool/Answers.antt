use Rattle.std.proofs.lemmas.Result.{IfOk-weaker}
use Rattle.pgcommand.proofs.Building.{with_arg}
use Rattle.pgcommand.proofs.commands.with_spool.Goals as goal

pub returns : goal.returns
returns c app is =
    let one = with_arg _ _ _ _ _ is c.spool.ensures.rule c.spool.ensures.local c.in_ok-arg.ensures in
    IfOk-weaker c.arg-2.result _ _ (λ r h. with_arg _ r _ _ _ one c.spool_memory.ensures.rule c.spool_memory.ensures.local h)
    c.arg-2.ensures
