use Rattle.std.proofs.lemmas.Result.{IfOk-weaker}
use Rattle.pgcommand.proofs.Building.{with_sub}
use Rattle.pgcommand.proofs.commands.with_subcommand.Goals as goal

pub returns : goal.returns
returns c app sub is made =
    let given = rw c.in_ok-subcommand.was at made in
    IfOk-weaker c.subcommand.result _ _ (λ r h. with_sub _ r _ _ _ is given h) c.subcommand.ensures
