-- The frames that are taken, of any stream, are messages that are taken.
use Rattle.std.proofs.Common.{◌≡◌, ◌≤◌, ℕ, ℤ, List, [], ◌∷◌, Bool, true, false, cond, Result, Ok}
use Rattle.std.proofs.Common.{Err, refl, sym, ap, subst, ◌∙◌}
use Rattle.pglogical.specs.Reading.{message_at}
use Rattle.pglogical.specs.declared.message.Message.{Message}
use Rattle.pglogical.specs.declared.fault.DecodeFault.{DecodeFault}
use Rattle.pgorder.specs.States.{is_in_block}
use Rattle.pgorder.specs.Steps.{OrderState}
use Rattle.pgspool.specs.declared.fault.SpoolFault.TheVariants as spool
use Rattle.pgwire.specs.Frames.{Frame, CopyData, CopyDone}
use Rattle.pgwire.specs.Payloads as wire
use Rattle.pgwire.specs.Payloads.{ServerMessage, payload_at}
use Rattle.pgwire.specs.declared.fault.WireFault.{WireFault}
use Rattle.pgsub_core.specs.declared.fault.Fault.{Fault}
use Rattle.pgsub_core.specs.declared.fault.Fault.TheVariants as fault
use Rattle.pgsub_core.specs.Server.Stream.{Sent, Data, Keepalive, Kind, BeginsPair, CommitsPair}
use Rattle.pgsub_core.specs.Server.Stream.{Holds, StartsBlock, StopsBlock, CommitsStream}
use Rattle.pgsub_core.specs.Server.Stream.{AbortsStream, ChangesNothing, kind}
use Rattle.pgsub_core.specs.Server.Stream.{commits_and_keepalives}
use Rattle.pgsub_core.specs.Machine.Replica.{Outcome, Running, Stopped, then_run, apply_all}
use Rattle.pgsub_core.specs.Machine.ApplyState.{ApplyState, ApplyResult, step}
use Rattle.pgsub_core.specs.Server.Reached.{reached, disconnected}
use Rattle.pgsub_core.specs.Server.Readings.{SaysMessage, SayMessages, block_after}
use Rattle.pgsub_core.specs.Subscriber.Subscribed.{Subscribed, apply_state_of, disconnect}
use Rattle.pgsub_core.specs.Subscriber.Subscribed.{progress_of, replica_of}
use Rattle.pgsub_core.specs.Machine.Taking.{take, taken_with, take_all, take_message, take_payload}
use Rattle.pgsub_core.specs.Machine.Taking.{take_frames, handled, passes_limit}
use Rattle.pgsub_core.specs.Machine.Taking.{message_passes_limit}
use Rattle.pgsub_core.proofs.FrameMessages.{in_block_behind, same_block}
use Rattle.pgsub_core.proofs.Steps.{running, goes_through}
use Rattle.pgsub_core.proofs.Taken.{taken_reaches, taken_applies}

-- whether CopyDone has come is nothing to a message
abbrev with_done : Bool → Subscribed → Subscribed
with_done d s = record s { copy_done = d }

abbrev over : Bool → Outcome Subscribed Fault → Outcome Subscribed Fault
over d (Running s) = Running (with_done d s)
over d (Stopped s why) = Stopped (with_done d s) why

passes_over : (d : Bool) (s : Subscribed) (k : Kind) → passes_limit (with_done d s) k ≡ passes_limit s k
passes_over d s (BeginsPair xid) = refl
passes_over d s (CommitsPair lsn end time) = refl
passes_over d s (Holds subxid item) = refl
passes_over d s (StartsBlock xid first) = refl
passes_over d s StopsBlock = refl
passes_over d s (CommitsStream xid lsn end time) = refl
passes_over d s (AbortsStream xid subxid) = refl
passes_over d s ChangesNothing = refl

limit_over : (d : Bool) (s : Subscribed) (m : Sent) → message_passes_limit (with_done d s) m ≡ message_passes_limit s m
limit_over d s (Data start end clock m) = passes_over d s (kind m)
limit_over d s (Keepalive end clock asks) = refl

handled_over : (now : ℤ) (d : Bool) (s : Subscribed) (m : Sent) (state : ApplyState)
    → handled now m state (with_done d s) ≡ with_done d (handled now m state s)
handled_over now d s (Data start end clock m) state = refl
handled_over now d s (Keepalive end clock true) state = refl
handled_over now d s (Keepalive end clock false) state = refl

taken_over : (now : ℤ) (d : Bool) (s : Subscribed) (m : Sent) (res : ApplyResult)
    → taken_with now (with_done d s) m res ≡ over d (taken_with now s m res)
taken_over now d s m (Stopped state why) = refl
taken_over now d s m (Running state) =
    ap (λ b. cond b (Stopped (with_done d s) (fault.Spool spool.SpoolFull)) (Running (handled now m state (with_done d s))))
    (limit_over d s m) ∙ by_limit (message_passes_limit s m)
  where
    by_limit : (b : Bool) → cond b (Stopped (with_done d s) (fault.Spool spool.SpoolFull)) (Running (handled now m state (with_done d s)))
        ≡ over d (cond b (Stopped s (fault.Spool spool.SpoolFull)) (Running (handled now m state s)))
    by_limit true = refl
    by_limit false = ap Running (handled_over now d s m state)

take_over : (now : ℤ) (d : Bool) (s : Subscribed) (m : Sent) → take now (with_done d s) m ≡ over d (take now s m)
take_over now d s m = taken_over now d s m (step s.version (apply_state_of s) m)

-- what a payload that is taken says
record IsOfMessage (now : ℤ) (bytes : List ℕ) (old new : Subscribed) : Type 0 where
  message : Sent
  says : SaysMessage (is_in_block old.order.context) bytes message
  takes : take now old message ≡ Running new

body_says : (now : ℤ) (bytes : List ℕ) (start end : ℕ) (clock : ℤ) (body : List ℕ) (old new : Subscribed)
    → payload_at bytes ≡ Ok (wire.XLogData start end clock body) → (r : Result Message DecodeFault)
    → message_at (is_in_block old.order.context) body ≡ r → take_message now old start end clock r ≡ Running new
    → IsOfMessage now bytes old new
body_says now bytes start end clock body old new at (Ok m) reads h =
    record { message = Data start end clock m; says = (body, at, reads); takes = h }
body_says now bytes start end clock body old new at (Err k) reads h = absurd (cc)

payload_says : (now : ℤ) (bytes : List ℕ) (old new : Subscribed) (r : Result ServerMessage WireFault) → payload_at bytes ≡ r
    → take_payload now old r ≡ Running new → IsOfMessage now bytes old new
payload_says now bytes old new (Ok (wire.XLogData start end clock body)) at h =
    body_says now bytes start end clock body old new at (message_at (is_in_block old.order.context) body) refl h
payload_says now bytes old new (Ok (wire.Keepalive end clock asks)) at h =
    record { message = Keepalive end clock asks; says = at; takes = h }
payload_says now bytes old new (Err k) at h = absurd (cc)

block_behind : (now : ℤ) (old new : Subscribed) (m : Sent) → take now old m ≡ Running new
    → is_in_block new.order.context ≡ block_after (is_in_block old.order.context) m
block_behind now old new (Data start end clock m) h = in_block_behind now old new start end clock m h
block_behind now old new (Keepalive end clock asks) h =
    ap (λ (o : OrderState). is_in_block o.context) (sym (same_block now old new end clock asks h))

record AreOfMessages (now : ℤ) (fs : List Frame) (old new : Subscribed) : Type 0 where
  sent : List Sent
  say : SayMessages (is_in_block old.order.context) fs sent
  takes : (d : Bool) → take_all now (with_done d old) sent ≡ Running (with_done d new)

frames_say : (now : ℤ) (fs : List Frame) (old new : Subscribed) → take_frames now old fs ≡ Running new → AreOfMessages now fs old new
frames_say now [] old new h = record { sent = []; say = refl; takes = λ d. ap (λ s. Running (with_done d s)) (running h) }
frames_say now (CopyDone ∷ fs) old new h =
    let behind = frames_say now fs (with_done true old) new h in
    record { sent = behind.sent; say = behind.say; takes = behind.takes }
frames_say now (CopyData bytes ∷ fs) old new h =
    let through = goes_through (take_payload now old (payload_at bytes)) (λ next. take_frames now next fs) new h in
    let mid = through.0 in
    let one = payload_says now bytes old mid (payload_at bytes) refl through.1 in
    let behind = frames_say now fs mid new through.2 in
    record {
      sent = one.message ∷ behind.sent;
      say = (one.says, subst (λ b. SayMessages b fs behind.sent) (block_behind now old mid one.message one.takes) behind.say);
      takes = λ d. ap (λ o. then_run o (λ next. take_all now next behind.sent)) (take_over now d old one.message ∙ ap (over d) one.takes)
          ∙ behind.takes d;
    }

-- from a disconnection on
pub frames_reach : (now : ℤ) (old new : Subscribed) (fs : List Frame) → old.position ≤ old.confirmed
    → take_frames now (disconnect old) fs ≡ Running new
    → (sent : List Sent) × SayMessages false fs sent × (progress_of new ≡ reached (disconnected (progress_of old)) [] sent)
    × (apply_all (replica_of (disconnect old)) (commits_and_keepalives [] sent) ≡ Running (replica_of new))
frames_reach now old new fs below h =
    let are = frames_say now fs (disconnect old) new h in
    let takes : take_all now (disconnect old) are.sent ≡ Running (with_done false new) = are.takes false in (
      are.sent,
      are.say,
      taken_reaches now old (with_done false new) are.sent below takes,
      taken_applies now old (with_done false new) are.sent takes,
    )
