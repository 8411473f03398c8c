use Rattle.std.proofs.Common.{◌≡◌, ℕ, ℤ, List, Bool, subst}
use Rattle.std.proofs.lemmas.Result.{IfErr-weaker}
use Rattle.pgwire.specs.declared.message.ServerMsg.{ServerMsg}
use Rattle.pgwire.specs.Borrowed.{message_value}
use Rattle.pgwire.specs.Payloads.{XLogData, payload}
use Rattle.pgshow.specs.declared.fault.Fault.{Fault}
use Rattle.pgshow.specs.declared.fault.Fault.TheVariants.{Wire, Decode, Order, Memory}
use Rattle.pgembed.specs.Decoded.{IsRefused, IsRefusedBody}
use Rattle.pgembed.proofs.decoding.decode.Goals as goal

-- a payload has the fault of its body
of_body : (in_block : Bool) (start end : ℕ) (clock : ℤ) (body bytes : List ℕ) → bytes ≡ payload (XLogData start end clock body)
    → (fault : Fault) → IsRefusedBody in_block body fault → IsRefused in_block bytes fault
of_body in_block start end clock body bytes is Memory told = told
of_body in_block start end clock body bytes is (Wire fault) told = absurd told
of_body in_block start end clock body bytes is (Decode fault) told = (start, end, clock, body, is, told)
of_body in_block start end clock body bytes is (Order fault) told = absurd told

pub returns-in-Data-clause-refused : goal.returns-in-Data-clause-refused
returns-in-Data-clause-refused c =
    let bytes = c.args.payload.now in
    let is = subst (λ (m : ServerMsg). bytes ≡ payload (message_value m)) c.in-Data.is c.in-Ok.ensures.found.1 in
    IfErr-weaker c.xlog_line.result _ _ (of_body c.args.in_block c.in-Data.start c.in-Data.end c.in-Data.clock c.in-Data.body.now bytes is)
    c.xlog_line.ensures.refused
