use Rattle.std.proofs.Common.{◌≡◌, subst}
use Rattle.pgwire.specs.declared.message.ServerMsg.{ServerMsg}
use Rattle.pgwire.specs.Borrowed.{message_value}
use Rattle.pgwire.specs.Payloads.{payload, IsServerMessage}
use Rattle.pgrules.proofs.Frames.{data_heard, data_ended, keepalive_heard}
use Rattle.pgrules.proofs.hearing.hear_payload.Goals as goal

pub returns-in-Data-clause-heard : goal.returns-in-Data-clause-heard
returns-in-Data-clause-heard c none =
    let bytes = c.args.payload.now in
    let said = subst (λ (m : ServerMsg). IsServerMessage (message_value m) × (bytes ≡ payload (message_value m))) c.in-Data.is
    c.in-Ok.ensures.found in
    data_heard c.in-Data.start c.in-Data.end c.in-Data.clock c.in-Data.body.now bytes said.0 said.1 c.hear_body.result c.args.watch.now
    c.hear_body.new.watch c.args.seen.now c.hear_body.new.seen c.args.at (c.hear_body.ensures.heard none)

pub returns-in-Data-clause-ended : goal.returns-in-Data-clause-ended
returns-in-Data-clause-ended c none =
    let bytes = c.args.payload.now in
    let said = subst (λ (m : ServerMsg). IsServerMessage (message_value m) × (bytes ≡ payload (message_value m))) c.in-Data.is
    c.in-Ok.ensures.found in
    data_ended c.in-Data.start c.in-Data.end c.in-Data.clock c.in-Data.body.now bytes said.0 said.1 c.hear_body.result c.args.watch.now
    c.args.at (c.hear_body.ensures.ended none)

pub returns-in-Keepalive-clause-heard : goal.returns-in-Keepalive-clause-heard
returns-in-Keepalive-clause-heard c none =
    let bytes = c.args.payload.now in
    let said = subst (λ (m : ServerMsg). IsServerMessage (message_value m) × (bytes ≡ payload (message_value m))) c.in-Keepalive.is
    c.in-Ok.ensures.found in
    keepalive_heard c.in-Keepalive.end c.in-Keepalive.clock c.in-Keepalive.reply bytes c.args.watch.now c.hear_keepalive.new.watch
    c.args.seen.now c.hear_keepalive.new.seen c.args.at said.0 said.1 (c.hear_keepalive.ensures none)
