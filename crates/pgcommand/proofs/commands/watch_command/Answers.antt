use Rattle.std.proofs.lemmas.Result.{IfOk-weaker}
use Rattle.pgcommand.proofs.Building.{with_arg}
use Rattle.pgcommand.proofs.commands.watch_command.Goals as goal

pub returns : goal.returns
returns c =
    IfOk-weaker c.arg-2.result _ _ (λ r h. with_arg _ r _ _ _
    (with_arg _ _ _ _ _ c.bare_watch.ensures c.proto.ensures.rule c.proto.ensures.local c.in_ok-arg.ensures)
    c.word.ensures.rule c.word.ensures.local h) c.arg-2.ensures
