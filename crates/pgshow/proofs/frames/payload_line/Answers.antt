use Rattle.std.proofs.Common.{◌≡◌, ℤ, IfOk, subst, string_bytes}
use Rattle.std.specs.Int.{w64}
use Rattle.std.proofs.lemmas.Int.{to_z-of_z}
use Rattle.std.proofs.lemmas.Result.{IfOk-weaker}
use Rattle.pgwire.specs.declared.message.ServerMsg.{ServerMsg}
use Rattle.pgwire.specs.Borrowed.{message_value}
use Rattle.pgwire.specs.Payloads.{payload, IsServerMessage}
use Rattle.pgjson.specs.Lines.{keepalive_data, line}
use Rattle.pgshow.specs.Steps.{TakesData}
use Rattle.pgshow.proofs.Messages.{refuses_line, takes_data, takes_keepalive}
use Rattle.pgshow.proofs.frames.payload_line.Goals as goal

pub returns-in-Data-clause-taken : goal.returns-in-Data-clause-taken
returns-in-Data-clause-taken c =
    let bytes = c.args.payload.now in
    let said = subst (λ (m : ServerMsg). IsServerMessage (message_value m) × (bytes ≡ payload (message_value m))) c.in-Data.is
    c.in-Ok.ensures.found in
    let taken = subst (λ (z : ℤ).
    IfOk c.xlog_line.result (λ text.
    TakesData c.in-Data.start c.in-Data.end z c.in-Data.body.now (string_bytes text) c.args.order.now c.xlog_line.new.order))
    (to_z-of_z w64 c.in-Data.clock said.0.2) c.xlog_line.ensures.taken in
    IfOk-weaker c.xlog_line.result _ _
    (λ text t. takes_data c.in-Data.start c.in-Data.end c.in-Data.clock c.in-Data.body.now bytes (string_bytes text) c.args.order.now
    c.xlog_line.new.order said.0 said.1 t) taken

pub returns-in-Data-clause-refused : goal.returns-in-Data-clause-refused
returns-in-Data-clause-refused c =
    let bytes = c.args.payload.now in
    let said = subst (λ (m : ServerMsg). IsServerMessage (message_value m) × (bytes ≡ payload (message_value m))) c.in-Data.is
    c.in-Ok.ensures.found in
    refuses_line c.in-Data.start c.in-Data.end c.in-Data.clock c.in-Data.body.now bytes c.args.order.now said.0 said.1 c.xlog_line.result
    c.xlog_line.ensures.refused

pub returns-in_ok-line-in-Keepalive-clause-taken : goal.returns-in_ok-line-in-Keepalive-clause-taken
returns-in_ok-line-in-Keepalive-clause-taken c =
    let bytes = c.args.payload.now in
    let text = string_bytes c.in_ok-line-in-Keepalive.line in
    let said = subst (λ (m : ServerMsg). IsServerMessage (message_value m) × (bytes ≡ payload (message_value m))) c.in-Keepalive.is
    c.in-Ok.ensures.found in
    let is = subst (λ (z : ℤ). text ≡ line (keepalive_data c.in-Keepalive.end z c.in-Keepalive.reply))
    (to_z-of_z w64 c.in-Keepalive.clock said.0.1) c.in_ok-line-in-Keepalive.ensures in
    takes_keepalive c.in-Keepalive.end c.in-Keepalive.clock c.in-Keepalive.reply bytes text c.args.order.now said.0 said.1 is
