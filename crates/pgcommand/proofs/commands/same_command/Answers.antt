use Rattle.std.proofs.lemmas.Result.{IfOk-weaker}
use Rattle.pgcommand.proofs.Building.{with_arg}
use Rattle.pgcommand.proofs.commands.same_command.Goals as goal

pub returns : goal.returns
returns c =
    IfOk-weaker c.arg-3.result _ _ (λ r h. with_arg _ r _ _ _ (with_arg _ _ _ _ _
    (with_arg _ _ _ _ _ c.named.ensures c.proto.ensures.rule c.proto.ensures.local c.in_ok-arg.ensures)
    c.word.ensures.rule c.word.ensures.local c.in_ok-arg-2.ensures)
    c.word-2.ensures.rule c.word-2.ensures.local h) c.arg-3.ensures
