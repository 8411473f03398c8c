-- How bodies, payloads and frames go on, and where they stop.
use Rattle.std.proofs.Common.{◌≡◌, ℕ, ℤ, List, [], ◌∷◌, ◌++◌, Bool, Result, Ok, Err, IfErr, refl}
use Rattle.std.proofs.Common.{sym, ap, subst, ◌∙◌, append-nil}
use Rattle.std.specs.Prelude.{IsErrAnd}
use Rattle.pgwire.specs.Frames.{Frame, CopyData, CopyDone}
use Rattle.pgwire.specs.Payloads.{XLogData, Keepalive as KeepaliveMessage, payload, IsServerMessage}
use Rattle.pglogical.specs.Laws as laws
use Rattle.pglogical.specs.declared.fault.DecodeFault.{DecodeFault}
use Rattle.pglogical.specs.declared.message.Message.{Message}
use Rattle.pglogical.specs.Spelling.{Says}
use Rattle.pgorder.specs.declared.Version.{Version}
use Rattle.pgorder.specs.declared.Event.{Event}
use Rattle.pgorder.specs.declared.fault.OrderFault.{OrderFault}
use Rattle.pgorder.specs.Laws.{AnswersByShape}
use Rattle.pgorder.specs.States.{StreamOrder, is_in_block}
use Rattle.pgorder.specs.Steps.{OrderState, StepResult, initial_order, order_run, order_step}
use Rattle.pgorder.specs.Steps.{then_order}
use Rattle.pgshow.specs.declared.fault.Fault.{Fault}
use Rattle.pgshow.specs.declared.fault.Fault.TheVariants.{Wire, Decode, Order, Memory}
use Rattle.pgshow.specs.Frames.{Data, Keepalive, Done, IsMisplaced}
use Rattle.pgshow.specs.Shown.{line_of}
use Rattle.pgshow.specs.Steps.{IsAfter, IsOrderFault, RefusesBody, RefusesFrame, RefusesPayload}
use Rattle.pgshow.specs.Steps.{TakesBody, TakesData, TakesFrame}

-- the state after one more message
run_push : (v : Version) (ms : List Message) (m : Message) (old final next : OrderState) (e : Event) → order_run v old ms ≡ Ok final
    → order_step v final m ≡ Ok (next, e) → order_run v old (ms ++ m ∷ []) ≡ Ok next
run_push v [] m old final next e h step =
    let same : old ≡ final = cc in
    subst (λ (s : OrderState). then_order (order_step v s m) (λ new. Ok new) ≡ Ok next) (sym same)
    (ap (λ (r : StepResult). then_order r (λ new. Ok new)) step)
run_push v (x ∷ ms) m old final next e h step = go (order_step v old x) h (λ s run. run_push v ms m s final next e run step)
  where
    go : (r : StepResult) → then_order r (λ s. order_run v s ms) ≡ Ok final
        → ((s : OrderState) → order_run v s ms ≡ Ok final → order_run v s (ms ++ m ∷ []) ≡ Ok next)
        → then_order r (λ s. order_run v s (ms ++ m ∷ [])) ≡ Ok next
    go (Ok stepped) h rest = rest stepped.0 h
    go (Err f) h rest = absurd (cc)

-- a message that the order takes
pub takes_body : (in_block : Bool) (m : Message) (body : List ℕ) (old new : StreamOrder) (event : Event)
    → AnswersByShape old.version old.state m (Ok event)
    → order_step old.version old.state m ≡ Ok (new.state, event) → new.version ≡ old.version → Says in_block m body
    → TakesBody body m old new
takes_body in_block m body old new event shape step version says = (
  says.spelled,
  says.wire,
  λ v messages after.
      let answer = subst (λ w. AnswersByShape w old.state m (Ok event)) after.version shape messages after.shape after.run in
      let stepped : order_step v old.state m ≡ Ok (new.state, event) =
      subst (λ w. order_step w old.state m ≡ Ok (new.state, event)) after.version step in
      record {
        shape = answer.0;
        version = version ∙ after.version;
        run = run_push v messages m initial_order old.state new.state event after.run stepped;
      },
)

-- a message that the order refuses
pub refuses_message : (in_block : Bool) (m : Message) (body : List ℕ) (old : StreamOrder) (fault : OrderFault) (told : Fault)
    → AnswersByShape old.version old.state m (Err fault) → IsOrderFault fault told
    → Says in_block m body → RefusesBody body old told
refuses_message in_block m body old fault Memory shape is says = λ v messages after. tt
refuses_message in_block m body old fault (Wire other) shape is says = absurd is
refuses_message in_block m body old fault (Decode other) shape is says = absurd is
refuses_message in_block m body old fault (Order told) shape is says = λ v messages after.
    let answer = subst (λ w. AnswersByShape w old.state m (Err fault)) after.version shape messages after.shape after.run is.1 in
    subst (λ (f : OrderFault). IsMisplaced v messages body f) (sym is.0) (m, says.spelled, says.wire, answer.0, answer.1)

-- a body that can't be read
pub unreadable : (in_block : Bool) (body : List ℕ) (old : StreamOrder) (fault : DecodeFault) → in_block ≡ is_in_block old.state.context
    → laws.IsFaultOf in_block body fault → RefusesBody body old (Decode fault)
unreadable in_block body old fault at is = λ v messages after. (old.state, after.run, subst (λ b. laws.IsFaultOf b body fault) at is)

-- XLogData whose body is taken
pub takes_data : (start end : ℕ) (clock : ℤ) (body bytes line : List ℕ) (old new : StreamOrder)
    → IsServerMessage (XLogData start end clock body) → bytes ≡ payload (XLogData start end clock body)
    → TakesData start end clock body line old new → TakesFrame (CopyData bytes) line old new
takes_data start end clock body bytes line old new number spelled (m, taken, is) =
    (Data start end clock m, ap CopyData (spelled ∙ ap (λ b. payload (XLogData start end clock b)) taken.0), (number, taken.1), is, taken.2)

pub refuses_data : (start end : ℕ) (clock : ℤ) (body bytes : List ℕ) (old : StreamOrder) → IsServerMessage (XLogData start end clock body)
    → bytes ≡ payload (XLogData start end clock body)
    → (fault : Fault) → RefusesBody body old fault → RefusesPayload bytes old fault
refuses_data start end clock body bytes old number spelled Memory r = λ v messages after. tt
refuses_data start end clock body bytes old number spelled (Wire fault) r = λ v messages after. absurd (r v messages after)
refuses_data start end clock body bytes old number spelled (Decode fault) r =
    λ v messages after. (start, end, clock, body, number, spelled, r v messages after)
refuses_data start end clock body bytes old number spelled (Order fault) r =
    λ v messages after. (start, end, clock, body, number, spelled, r v messages after)

pub refuses_line : {T : Type 0} (start end : ℕ) (clock : ℤ) (body bytes : List ℕ) (old : StreamOrder)
    → IsServerMessage (XLogData start end clock body) → bytes ≡ payload (XLogData start end clock body)
    → (r : Result T Fault) → IfErr r (RefusesBody body old) → IfErr r (RefusesPayload bytes old)
refuses_line start end clock body bytes old number spelled (Ok line) h = tt
refuses_line start end clock body bytes old number spelled (Err fault) h =
    refuses_data start end clock body bytes old number spelled fault h

-- a keepalive
pub takes_keepalive : (end : ℕ) (clock : ℤ) (reply : Bool) (bytes line : List ℕ) (old : StreamOrder)
    → IsServerMessage (KeepaliveMessage end clock reply) → bytes ≡ payload (KeepaliveMessage end clock reply)
    → line ≡ line_of (Keepalive end clock reply) → TakesFrame (CopyData bytes) line old old
takes_keepalive end clock reply bytes line old number spelled is = (
  Keepalive end clock reply,
  ap CopyData spelled,
  number,
  is,
  λ v messages after. subst (λ ms. IsAfter v ms old) (sym (append-nil messages)) after,
)

-- CopyDone
pub takes_done : (line : List ℕ) (old : StreamOrder) → line ≡ line_of Done → TakesFrame CopyDone line old old
takes_done line old is = (Done, refl, tt, is, λ v messages after. subst (λ ms. IsAfter v ms old) (sym (append-nil messages)) after)

-- memory may run out at each frame
pub memory_refuses : (frame : Frame) (old : StreamOrder) (fault : Fault) → fault ≡ Memory → RefusesFrame frame old fault
memory_refuses frame old fault is = subst (RefusesFrame frame old) (sym is) (go frame)
  where
    go : (f : Frame) → RefusesFrame f old Memory
    go (CopyData bytes) = λ v messages after. tt
    go CopyDone = λ v messages after. tt

-- what holds of each fault that this one is turned into holds of the result
pub on_told : {T E : Type 0} (r : Result T E) (Q P : E → Type 0) → IsErrAnd r Q → ((e : E) → Q e → P e) → IfErr r P
on_told (Ok t) Q P h go = tt
on_told (Err e) Q P h go = go e h

-- a fault that `?` hands on
pub on_residual : {T E : Type 0} (r : Result T E) (e : E) (P : E → Type 0) → IsErrAnd r (λ y. y ≡ e) → P e → IfErr r P
on_residual (Ok t) e P h p = tt
on_residual (Err y) e P h p = subst P (sym h) p

pub memory_stops : (bytes : List ℕ) (old : StreamOrder) (fault : Fault) → fault ≡ Memory → RefusesBody bytes old fault
memory_stops bytes old fault is = subst (RefusesBody bytes old) (sym is) (λ v messages after. tt)

pub memory_spoils : (bytes : List ℕ) (old : StreamOrder) (fault : Fault) → fault ≡ Memory → RefusesPayload bytes old fault
memory_spoils bytes old fault is = subst (RefusesPayload bytes old) (sym is) (λ v messages after. tt)
