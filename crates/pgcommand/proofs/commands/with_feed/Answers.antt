use Rattle.std.proofs.lemmas.Result.{IfOk-weaker}
use Rattle.pgcommand.proofs.Building.{with_arg}
use Rattle.pgcommand.proofs.commands.with_feed.Goals as goal

pub returns : goal.returns
returns c app is =
    let one = with_arg _ _ _ _ _ is c.feed.ensures.rule c.feed.ensures.local c.in_ok-arg.ensures in
    let two = with_arg _ _ _ _ _ one c.feed_text.ensures.rule c.feed_text.ensures.local c.in_ok-arg-2.ensures in
    let three = with_arg _ _ _ _ _ two c.feed_text-2.ensures.rule c.feed_text-2.ensures.local c.in_ok-arg-3.ensures in
    let four = with_arg _ _ _ _ _ three c.feed_text-3.ensures.rule c.feed_text-3.ensures.local c.in_ok-arg-4.ensures in
    let five = with_arg _ _ _ _ _ four c.feed_bytes.ensures.rule c.feed_bytes.ensures.local c.in_ok-arg-5.ensures in
    let six = with_arg _ _ _ _ _ five c.feed_seconds.ensures.rule c.feed_seconds.ensures.local c.in_ok-arg-6.ensures in
    IfOk-weaker c.arg-7.result _ _ (λ r h. with_arg _ r _ _ _ six c.messages.ensures.rule c.messages.ensures.local h)
    c.arg-7.ensures
