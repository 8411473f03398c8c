use Rattle.pglogical.specs.Borrowed.{message_value}
use Rattle.pgshow.proofs.Messages.{on_told, refuses_message, takes_body, unreadable}
use Rattle.pgshow.proofs.frames.next_message.Goals as goal

pub returns-in-Err-clause-refused : goal.returns-in-Err-clause-refused
returns-in-Err-clause-refused c =
    unreadable c.in_block.result c.args.body.now c.args.order.now c.in-Err.fault c.in_block.ensures c.in-Err.ensures.fault

pub returns-clause-taken : goal.returns-clause-taken
returns-clause-taken c =
    takes_body c.in_block.result (message_value c.in-Ok.message) c.args.body.now c.args.order.now c.step.new.self _
    c.in_ok-step.ensures.shape c.in_ok-step.ensures.taken c.in_ok-step.ensures.version c.in-Ok.ensures.found

pub returns-in_err-step-clause-refused : goal.returns-in_err-step-clause-refused
returns-in_err-step-clause-refused c = on_told c.from_residual.result _ _ c.from_residual.ensures.1
    (λ told is. refuses_message c.in_block.result (message_value c.in-Ok.message) c.args.body.now c.args.order.now c.in_err-step.field-0.0
    told c.in_err-step.ensures.shape is c.in-Ok.ensures.found)
