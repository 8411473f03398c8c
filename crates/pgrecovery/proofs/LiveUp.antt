-- Following a server never makes the position fall.
use Rattle.std.proofs.Common.{◌≡◌, ◌≤◌, inl, inr, ℕ, ℤ, List, [], ◌∷◌, Bool, true, false, cond}
use Rattle.std.proofs.Common.{Option, Some, None, Result, Ok, Err, ap, arith, subst, sym, refl}
use Rattle.std.specs.Prelude.{nat_lt}
use Rattle.std.proofs.lemmas.Bool.Decides.{nat_tests}
use Rattle.std.specs.FinMap as map
use Rattle.pglogical.specs.Reading.{message_at}
use Rattle.pglogical.specs.declared.fault.DecodeFault.{DecodeFault}
use Rattle.pglogical.specs.declared.message.Item.{Item}
use Rattle.pglogical.specs.declared.message.Message.{Message}
use Rattle.pgorder.specs.States.{is_in_block}
use Rattle.pgorder.specs.Steps.{OrderState, order_step}
use Rattle.pgorder.specs.declared.Event.{Event}
use Rattle.pgorder.specs.declared.Event.TheVariants as event
use Rattle.pgorder.specs.declared.Version.{Version}
use Rattle.pgorder.specs.declared.fault.OrderFault.{OrderFault}
use Rattle.pgspool.specs.Labels.{held_of, items_of}
use Rattle.pgwire.specs.Frames as wire
use Rattle.pgwire.specs.Payloads.{payload_at}
use Rattle.pgwire.specs.declared.fault.WireFault.{WireFault}
use Rattle.pgapply.specs.declared.fault.StoreFault.{StoreFault}
use Rattle.pgapply.specs.Apply.{Change, fold_changes}
use Rattle.pgapply.specs.Tallies.{Tally}
use Rattle.pgapply.specs.Value.{Tables}
use Rattle.pgfollow.specs.declared.fault.FollowFault.{FollowFault}
use Rattle.pgfollow.specs.declared.fault.FollowFault.TheVariants as follow
use Rattle.pgfollow.specs.Live.{AreSteps, IsFedPart, IsUntold, LiveEnds, Step, StopsPart}
use Rattle.pgsub_core.specs.declared.fault.Fault.{Fault}
use Rattle.pgsub_core.specs.declared.fault.Fault.TheVariants as fault
use Rattle.pgsub_core.specs.Server.Described.{described_from}
use Rattle.pgsub_core.specs.Server.Stream.{Data, Keepalive, Sent}
use Rattle.pgsub_core.specs.Machine.ApplyState.{ApplyResult, ApplyState, committed, is_outside}
use Rattle.pgsub_core.specs.Machine.ApplyState.{on_event, on_message, step}
use Rattle.pgsub_core.specs.Machine.Feeding.{IsFed, IsFedUntil}
use Rattle.pgsub_core.specs.Machine.Replica.{Halt, Outcome, RelationCache, Replica, Running}
use Rattle.pgsub_core.specs.Machine.Replica.{Stopped, all_cached, on_commit, on_keepalive, stored}
use Rattle.pgsub_core.specs.Machine.Replica.{taken}
use Rattle.pgsub_core.specs.Machine.Taking.{take_frame, take_frames, take_message, take_payload}
use Rattle.pgsub_core.specs.Machine.Taking as taking
use Rattle.pgsub_core.specs.Server.Reached.{Progress}
use Rattle.pgsub_core.specs.Subscriber.Subscribed.{Subscribed, apply_state_of}
use Rattle.pgsub_core.specs.Subscriber.SubscriberValue.{SubscriberValue, seen}
use Rattle.pgsub_core.proofs.Steps.{goes_through, running, takes_one}

-- ---- one message

stored_up : (old new : Replica) (end : ℕ) (relations : RelationCache) (r : Result Tables StoreFault) → old.position ≤ end
    → stored old end relations r ≡ Running new → old.position ≤ new.position
stored_up old new end relations (Ok tables) up h =
    let same : end ≡ new.position = ap (λ (r : Replica). r.position) (running h) in omega arith
stored_up old new end relations (Err k) up h = absurd (cc)

taken_up : (old new : Replica) (end : ℕ) (relations : RelationCache) (r : Result (List Change) ℕ) → old.position ≤ end
    → taken old end relations r ≡ Running new → old.position ≤ new.position
taken_up old new end relations (Ok changes) up h = stored_up old new end relations (fold_changes old.tables changes) up h
taken_up old new end relations (Err oid) up h = absurd (cc)

commit_up : (old new : Replica) (end : ℕ) (items : List Item) (b : Bool) → nat_lt old.position end ≡ b
    → cond b (taken old end (all_cached old.relations items) (described_from (λ oid. map.get old.relations oid) items))
    (Running (record old { relations = all_cached old.relations items })) ≡ Running new
    → old.position ≤ new.position
commit_up old new end items true passes h =
    let up : old.position ≤ end = grind (arith, nat_tests) in
    taken_up old new end (all_cached old.relations items) (described_from (λ oid. map.get old.relations oid) items) up h
commit_up old new end items false passes h = let same : old.position ≡ new.position = ap (λ (r : Replica). r.position) (running h) in
    omega arith

keepalive_up : (old : Replica) (end : ℕ) (quiet : Bool) → (on_keepalive old end quiet).position ≡ old.position
keepalive_up old end true = refl
keepalive_up old end false = refl

abbrev place_of : ApplyState → ℕ
place_of s = s.replica.position

committed_up : (old new : ApplyState) (order : OrderState) (xid : ℕ) (o : Outcome Replica Halt)
    → ((replica : Replica) → o ≡ Running replica → place_of old ≤ replica.position)
    → committed old order xid o ≡ Running new → place_of old ≤ place_of new
committed_up old new order xid (Running replica) up h =
    let same : replica.position ≡ place_of new = ap place_of (running h) in
    let more = up replica refl in omega arith
committed_up old new order xid (Stopped replica why) up h = absurd (cc)

unmoved : (old new state : ApplyState) → place_of state ≡ place_of old → ◌≡◌ {A = ApplyResult} (Running state) (Running new)
    → place_of old ≤ place_of new
unmoved old new state kept h = let same : place_of state ≡ place_of new = ap place_of (running h) in omega arith

event_up : (old new : ApplyState) (m : Message) (order : OrderState) (e : Event) → on_event old m order e ≡ Running new
    → place_of old ≤ place_of new
event_up old new m order event.Ignore h = unmoved old new _ refl h
event_up old new m order (event.Begin xid) h = unmoved old new _ refl h
event_up old new m order (event.Hold xid subxid) h = unmoved old new _ refl h
event_up old new m order (event.Open xid) h = unmoved old new _ refl h
event_up old new m order (event.Reopen xid) h = unmoved old new _ refl h
event_up old new m order event.Close h = unmoved old new _ refl h
event_up old new m order (event.Cut xid subxid) h = unmoved old new _ refl h
event_up old new m order (event.Drop xid) h = unmoved old new _ refl h
event_up old new m order (event.CommitPair xid lsn end) h =
    committed_up old new order xid (on_commit old.replica end (items_of (held_of old.held xid)))
    (λ replica e. commit_up old.replica replica end (items_of (held_of old.held xid)) (nat_lt old.replica.position end) refl e) h
event_up old new m order (event.CommitStream xid lsn end) h =
    committed_up old new order xid (on_commit old.replica end (items_of (held_of old.held xid)))
    (λ replica e. commit_up old.replica replica end (items_of (held_of old.held xid)) (nat_lt old.replica.position end) refl e) h

message_up : (old new : ApplyState) (m : Message) (r : Result (OrderState × Event) OrderFault) → on_message old m r ≡ Running new
    → place_of old ≤ place_of new
message_up old new m (Ok (order, e)) h = event_up old new m order e h
message_up old new m (Err k) h = absurd (cc)

step_up : (v : Version) (old new : ApplyState) (m : Sent) → step v old m ≡ Running new → place_of old ≤ place_of new
step_up v old new (Data start end clock m) h = message_up old new m (order_step v old.order m) h
step_up v old new (Keepalive end clock asks) h =
    let same : (on_keepalive old.replica end (is_outside old.order.context)).position ≡ place_of new = ap place_of (running h) in
    let kept = keepalive_up old.replica end (is_outside old.order.context) in
    omega (arith, kept)

-- ---- frames

one_up : (now : ℤ) (old new : Subscribed) (m : Sent) → taking.take now old m ≡ Running new → old.position ≤ new.position
one_up now old new m h = step_up old.version (apply_state_of old) (apply_state_of new) m (takes_one now old new m h).steps

decoded_up : (now : ℤ) (old new : Subscribed) (start end : ℕ) (clock : ℤ) (r : Result Message DecodeFault)
    → take_message now old start end clock r ≡ Running new → old.position ≤ new.position
decoded_up now old new start end clock (Ok m) h = one_up now old new (Data start end clock m) h
decoded_up now old new start end clock (Err k) h = absurd (cc)

payload_up : (now : ℤ) (old new : Subscribed) (r : Result wire.ServerMessage WireFault) → take_payload now old r ≡ Running new
    → old.position ≤ new.position
payload_up now old new (Ok (wire.XLogData start end clock body)) h =
    decoded_up now old new start end clock (message_at (is_in_block old.order.context) body) h
payload_up now old new (Ok (wire.Keepalive end clock asks)) h = one_up now old new (Keepalive end clock asks) h
payload_up now old new (Err k) h = absurd (cc)

frame_up : (now : ℤ) (old new : Subscribed) (f : wire.Frame) → take_frame now old f ≡ Running new → old.position ≤ new.position
frame_up now old new (wire.CopyData bytes) h = payload_up now old new (payload_at bytes) h
frame_up now old new wire.CopyDone h = let same : old.position ≡ new.position = ap (λ (s : Subscribed). s.position) (running h) in
    omega arith

frames_up : (now : ℤ) (old new : Subscribed) (fs : List wire.Frame) → take_frames now old fs ≡ Running new → old.position ≤ new.position
frames_up now old new [] h = let same : old.position ≡ new.position = ap (λ (s : Subscribed). s.position) (running h) in omega arith
frames_up now old new (f ∷ fs) h =
    let through = goes_through (take_frame now old f) (λ next. take_frames now next fs) new h in
    let one = frame_up now old through.0 f through.1 in
    let more = frames_up now through.0 new fs through.2 in
    omega arith

fed_whole : (now : ℤ) (old new : Subscribed) (piece : List ℕ) → IsFed now old piece new None → old.position ≤ new.position
fed_whole now old new piece fed =
    let it = fed.1 in
    let up = frames_up now old it.state it.fs it.takes in
    let same : new.position ≡ it.state.position = ap (λ (s : Subscribed). s.position) it.left in
    omega arith

stopped : (now : ℤ) (old new : Subscribed) (piece : List ℕ) (f : Fault) → IsFedUntil now old piece new f → old.position ≤ new.position
stopped now old new piece f it =
    let up = frames_up now old it.state it.fs it.takes in
    let same : new.position ≡ it.state.position = ap (λ (p : Progress). p.position) it.left.progress in
    omega arith

fed_until : (now : ℤ) (old new : Subscribed) (piece : List ℕ) (f : Fault) → IsFed now old piece new (Some f)
    → old.position ≤ new.position
fed_until now old new piece fault.Closed fed = let same : new.position ≡ old.position = ap (λ (s : Subscribed). s.position) fed.1 in
    omega arith
fed_until now old new piece (fault.Wire k) fed = stopped now old new piece (fault.Wire k) fed.1
fed_until now old new piece (fault.Decode k) fed = stopped now old new piece (fault.Decode k) fed.1
fed_until now old new piece (fault.Order k) fed = stopped now old new piece (fault.Order k) fed.1
fed_until now old new piece (fault.Relation k) fed = stopped now old new piece (fault.Relation k) fed.1
fed_until now old new piece (fault.Spool k) fed = stopped now old new piece (fault.Spool k) fed.1
fed_until now old new piece (fault.Store k) fed = stopped now old new piece (fault.Store k) fed.1
fed_until now old new piece fault.Read fed = stopped now old new piece fault.Read fed.1
fed_until now old new piece fault.Memory fed = stopped now old new piece fault.Memory fed.1

-- ---- what is read and fed

module _ {C : Type 0} (holds : C → Tables → Type 0) (place : C → ℕ) (reopens : C → C → Type 0) (serves : C → Type 0)
    (count : C → Tally) where
  -- it holds tables, and its position is no lower
  abbrev Rises : ℕ → SubscriberValue C → Type 0
  Rises low s = ((tables : Tables) × holds s.applied.store tables) × (low ≤ place s.applied.store)

  over : (low : ℕ) (s s' : SubscriberValue C) → s'.applied.store ≡ s.applied.store → Rises low s → Rises low s'
  over low s s' same is = subst (λ (c : C). ((tables : Tables) × holds c tables) × (low ≤ place c)) (sym same) is

  part_up : (low : ℕ) (now : ℤ) (old : SubscriberValue C) (part : List ℕ) (fed : SubscriberValue C)
      → IsFedPart holds place reopens serves count now old part fed → Rises low old → Rises low fed
  part_up low now old part fed is rises =
      let f = is.feeds rises.0.0 rises.0.1 in
      let up = fed_whole now (seen place old rises.0.0) (seen place fed f.0) part f.2 in
      let was = rises.1 in
      ((f.0, f.1), omega arith)

  steps_up : (low : ℕ) (old : SubscriberValue C) (steps : List (Step C)) (new : SubscriberValue C)
      → AreSteps holds place reopens serves count old steps new → Rises low old → Rises low new
  steps_up low old [] new are rises = over low old new (ap (λ (s : SubscriberValue C). s.applied.store) are) rises
  steps_up low old (s ∷ steps) new are rises =
      steps_up low s.after steps new are.1 (over low s.fed s.after are.0.store (part_up low s.now old s.part s.fed are.0.is_fed rises))

  untold_up : (low : ℕ) (now : ℤ) (old : SubscriberValue C) (part : List ℕ) (new : SubscriberValue C) (front : List ℕ)
      → IsUntold holds place reopens serves count now old part new front → Rises low old → low ≤ place new.applied.store
  untold_up low now old part new front is rises =
      (over low is.fed new is.store (part_up low now old part is.fed is.is_fed rises)).1

  stops_up : (low : ℕ) (w w' : Option (List ℕ)) (part : List ℕ) (old new : SubscriberValue C) (f : FollowFault)
      → StopsPart holds place reopens serves count w w' part old new f → Rises low old → low ≤ place new.applied.store
  stops_up low w w' part old new follow.Read is rises = absurd is
  stops_up low w w' part old new follow.Write is rises = untold_up low is.0 old part new is.1 is.2 rises
  stops_up low w w' part old new (follow.Stream f) is rises = elim is.1.1 [
    | inl unfed ↦
        let stands = unfed.why in
        let fed = stands.2 rises.0.0 rises.0.1 in
        let up = fed_until is.1.0 (seen place old rises.0.0) (seen place stands.0 fed.0) part f fed.2 in
        let was = rises.1 in
        let same = stands.1.position in
        omega arith
    | inr memory ↦ untold_up low is.1.0 old part new [] memory.1 rises
  ]

  pub ends_up : (unread rest : Option (List ℕ)) (reads : ℕ) (w w' : Option (List ℕ)) (old new : SubscriberValue C)
      (ended : Option FollowFault)
      → LiveEnds holds place reopens serves count unread rest reads w w' old new ended → (tables : Tables)
      → holds old.applied.store tables → place old.applied.store ≤ place new.applied.store
  ends_up unread rest reads w w' old new None e tables held =
      (steps_up (place old.applied.store) old e.0.steps new e.0.are ((tables, held), omega arith)).1
  ends_up unread rest reads w w' old new (Some follow.Read) e tables held =
      (steps_up (place old.applied.store) old e.steps new e.are ((tables, held), omega arith)).1
  ends_up unread rest reads w w' old new (Some follow.Write) e tables held =
      stops_up (place old.applied.store) e.1 w' e.2 e.0 new follow.Write e.5
      (steps_up (place old.applied.store) old e.4.steps e.0 e.4.are ((tables, held), omega arith))
  ends_up unread rest reads w w' old new (Some (follow.Stream f)) e tables held =
      stops_up (place old.applied.store) e.1 w' e.2 e.0 new (follow.Stream f) e.5
      (steps_up (place old.applied.store) old e.4.steps e.0 e.4.are ((tables, held), omega arith))
