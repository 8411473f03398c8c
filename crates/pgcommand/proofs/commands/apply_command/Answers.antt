use Rattle.std.proofs.lemmas.Result.{IfOk-weaker}
use Rattle.pgcommand.proofs.Building.{with_arg}
use Rattle.pgcommand.proofs.commands.apply_command.Goals as goal

pub returns : goal.returns
returns c =
    let one = with_arg _ _ _ _ _ c.named.ensures c.proto.ensures.rule c.proto.ensures.local c.in_ok-arg.ensures in
    let two = with_arg _ _ _ _ _ one c.raw.ensures.rule c.raw.ensures.local c.in_ok-arg-2.ensures in
    let three = with_arg _ _ _ _ _ two c.progress.ensures.rule c.progress.ensures.local c.in_ok-command.ensures in
    let fed = c.in_ok-with_feed.ensures _ (c.in_ok-command-3.ensures _ (c.in_ok-command-2.ensures _ three)) in
    IfOk-weaker c.arg-4.result _ _ (λ r h. with_arg _ r _ _ _ fed c.word.ensures.rule c.word.ensures.local h) c.arg-4.ensures
