-- While the commits of a piece are staged: what the mark says, and what settling makes of it.
use Rattle.std.proofs.Common.{◌≡◌, ◌<◌, ℕ, ℤ, List, Bool, true, false, cond, Option, Some, Result}
use Rattle.std.proofs.Common.{Ok, Err, refl, sym, ap, ◌∙◌, arith}
use Rattle.std.specs.Prelude.{nat_lt}
use Rattle.pglogical.specs.declared.fault.DecodeFault.{DecodeFault}
use Rattle.pglogical.specs.declared.message.Item.{Item}
use Rattle.pglogical.specs.declared.message.Message.{Message}
use Rattle.pgorder.specs.States.{is_outside}
use Rattle.pgorder.specs.Steps.{OrderState, StepResult, order_step}
use Rattle.pgorder.specs.declared.Event.{Event}
use Rattle.pgorder.specs.declared.Event.TheVariants as event
use Rattle.pgorder.specs.declared.Version.{Version}
use Rattle.pgspool.specs.Labels.{items_of, held_of}
use Rattle.pgwire.specs.Frames as wire
use Rattle.pgwire.specs.Payloads.{payload_at}
use Rattle.pgwire.specs.declared.fault.WireFault.{WireFault}
use Rattle.pgapply.specs.declared.fault.StoreFault.{StoreFault}
use Rattle.pgapply.specs.Value.{Tables}
use Rattle.pgapply.specs.Apply.{Change}
use Rattle.pgsub_core.specs.declared.fault.Fault.{Fault}
use Rattle.pgsub_core.specs.Server.Stream.{Data, Keepalive, kind}
use Rattle.pgsub_core.specs.Machine.Replica.{Replica, RelationCache, Halt, Outcome, Running}
use Rattle.pgsub_core.specs.Machine.Replica.{Stopped, stored, taken, on_commit, on_keepalive}
use Rattle.pgsub_core.specs.Machine.ApplyState.{ApplyState, ApplyResult, committed, on_event}
use Rattle.pgsub_core.specs.Machine.ApplyState.{on_message, step}
use Rattle.pgsub_core.specs.Subscriber.Subscribed.{Subscribed, apply_state_of, replica_of}
use Rattle.pgsub_core.specs.Machine.Taking.{take as take_one, take_message, take_payload}
use Rattle.pgsub_core.specs.Machine.Taking.{take_frame, ReachesStore}
use Rattle.pgsub_core.specs.Subscriber.Handled.{commit_end, end_by_kind}
use Rattle.pgsub_core.specs.Machine.Feeding.{IsCommitFrame}
use Rattle.pgsub_core.proofs.Stops.{end_of_event, event_end}

-- ---- a frame behind which the position is another is a commit

was_running : {S F : Type 0} {a b : S} → ◌≡◌ {A = Outcome S F} (Running a) (Running b) → a ≡ b
was_running e = cc

never_stopped : {S F : Type 0} {a b : S} {f : F} (P : Type 0) → ◌≡◌ {A = Outcome S F} (Stopped a f) (Running b) → P
never_stopped P e = absurd cc

-- where a commit of the items moves the position, its end passes it
stored_moves : (old : Replica) (end : ℕ) (relations : RelationCache) (r : Result Tables StoreFault) (new : Replica)
    → stored old end relations r ≡ Running new → new.position ≡ end
stored_moves old end relations (Ok tables) new h = ap (λ (r : Replica). r.position) (sym (was_running h))
stored_moves old end relations (Err k) new h = never_stopped _ h

taken_moves : (old : Replica) (end : ℕ) (relations : RelationCache) (r : Result (List Change) ℕ) (new : Replica)
    → taken old end relations r ≡ Running new → new.position ≡ end
taken_moves old end relations (Ok changes) new h = stored_moves old end relations _ new h
taken_moves old end relations (Err oid) new h = never_stopped _ h

commit_moves : (old : Replica) (end : ℕ) (items : List Item) (new : Replica) → on_commit old end items ≡ Running new
    → old.position < new.position → old.position < end
commit_moves old end items new h less = by (nat_lt old.position end) refl
  where
    by : (b : Bool) → nat_lt old.position end ≡ b → old.position < end
    by true is = let at = taken_moves old end _ _ new (rw is at h) in omega (arith, at, less)
    by false is = absurd (let same : old.position ≡ new.position = ap (λ (r : Replica). r.position) (was_running (rw is at h)) in
        omega (arith, same, less))

committed_moves : (st : ApplyState) (o : OrderState) (xid : ℕ) (out : Outcome Replica Halt) (new : ApplyState)
    → committed st o xid out ≡ Running new → out ≡ Running new.replica
committed_moves st o xid (Running r) new h = ap (λ (x : ApplyState). is_running x.replica) (was_running h)
  where
    is_running : Replica → Outcome Replica Halt
    is_running x = Running x
committed_moves st o xid (Stopped r why) new h = never_stopped _ h

module _ (st : ApplyState) (m : Message) (o : OrderState) (new : ApplyState) (less : st.replica.position < new.replica.position) where
  abbrev Moves : Option ℕ → Type 0
  Moves at = (end : ℕ) × (at ≡ Some end) × (st.replica.position < end)

  stays_there : (next : ApplyState) → next.replica.position ≡ st.replica.position → ◌≡◌ {A = ApplyResult} (Running next) (Running new)
      → (P : Type 0) → P
  stays_there next same h P =
      absurd (let at : next.replica.position ≡ new.replica.position = ap (λ (x : ApplyState). x.replica.position) (was_running h) in
      omega (arith, at, same, less))

  event_moves : (e : Event) → on_event st m o e ≡ Running new → Moves (end_of_event e)
  event_moves event.Ignore h = stays_there _ refl h _
  event_moves (event.Begin xid) h = stays_there _ refl h _
  event_moves (event.Hold xid subxid) h = stays_there _ refl h _
  event_moves (event.Open xid) h = stays_there _ refl h _
  event_moves (event.Reopen xid) h = stays_there _ refl h _
  event_moves event.Close h = stays_there _ refl h _
  event_moves (event.Cut xid subxid) h = stays_there _ refl h _
  event_moves (event.Drop xid) h = stays_there _ refl h _
  event_moves (event.CommitPair xid lsn end) h =
      (end, refl, commit_moves st.replica end (items_of (held_of st.held xid)) new.replica (committed_moves st o xid _ new h) less)
  event_moves (event.CommitStream xid lsn end) h =
      (end, refl, commit_moves st.replica end (items_of (held_of st.held xid)) new.replica (committed_moves st o xid _ new h) less)

message_moves : (v : Version) (st : ApplyState) (m : Message) (r : StepResult) (new : ApplyState) → order_step v st.order m ≡ r
    → on_message st m r ≡ Running new → st.replica.position < new.replica.position
    → (end : ℕ) × (end_by_kind (kind m) ≡ Some end) × (st.replica.position < end)
message_moves v st m (Ok one) new is h less =
    let it = event_moves st m one.0 new less one.1 h in
    (it.0, sym (event_end v st.order one.0 m one.1 is) ∙ it.1, it.2)
message_moves v st m (Err k) new is h less = never_stopped _ h

-- a message that is handled leaves what its state has
within : (b : Bool) (s t u : Subscribed) (f : Fault) → ◌≡◌ {A = Outcome Subscribed Fault} (cond b (Stopped s f) (Running t)) (Running u)
    → t ≡ u
within true s t u f h = never_stopped _ h
within false s t u f h = was_running h

data_moves : (now : ℤ) (s s' : Subscribed) (start end : ℕ) (clock : ℤ) (m : Message) → take_one now s (Data start end clock m) ≡ Running s'
    → s.position < s'.position
    → (last : ℕ) × (commit_end (Data start end clock m) ≡ Some last) × (s.position < last)
data_moves now s s' start end clock m h less = by (step s.version (apply_state_of s) (Data start end clock m)) refl
  where
    by : (r : ApplyResult) → step s.version (apply_state_of s) (Data start end clock m) ≡ r
        → (last : ℕ) × (commit_end (Data start end clock m) ≡ Some last) × (s.position < last)
    by (Running state) is =
        let there = within _ s _ s' _ (rw is at h) in
        let at : state.replica.position ≡ s'.position = ap (λ (x : Subscribed). x.position) there in
        message_moves s.version (apply_state_of s) m _ state refl is (omega (arith, at, less))
    by (Stopped state why) is = never_stopped _ (rw is at h)

quiet_place : (old : Replica) (end : ℕ) (quiet : Bool) → (on_keepalive old end quiet).position ≡ old.position
quiet_place old end true = refl
quiet_place old end false = refl

keepalive_place : (now : ℤ) (s s' : Subscribed) (end : ℕ) (clock : ℤ) (asks : Bool) → take_one now s (Keepalive end clock asks) ≡ Running s'
    → s'.position ≡ s.position
keepalive_place now s s' end clock true h =
    ap (λ (x : Subscribed). x.position) (sym (was_running h)) ∙ quiet_place (replica_of s) end (is_outside s.order.context)
keepalive_place now s s' end clock false h =
    ap (λ (x : Subscribed). x.position) (sym (was_running h)) ∙ quiet_place (replica_of s) end (is_outside s.order.context)

body_moves : (now : ℤ) (s s' : Subscribed) (start end : ℕ) (clock : ℤ) (r : Result Message DecodeFault)
    → take_message now s start end clock r ≡ Running s' → s.position < s'.position
    → (m : Message) × (r ≡ Ok m) × ((last : ℕ) × (commit_end (Data start end clock m) ≡ Some last) × (s.position < last))
body_moves now s s' start end clock (Ok m) h less = (m, refl, data_moves now s s' start end clock m h less)
body_moves now s s' start end clock (Err k) h less = never_stopped _ h

payload_moves : (now : ℤ) (s s' : Subscribed) (bytes : List ℕ) (r : Result wire.ServerMessage WireFault) → payload_at bytes ≡ r
    → take_payload now s r ≡ Running s' → s.position < s'.position → IsCommitFrame s (wire.CopyData bytes)
payload_moves now s s' bytes (Ok (wire.XLogData start end clock body)) is h less =
    let it = body_moves now s s' start end clock _ h less in
    record {
      payload = bytes;
      start = start;
      current = end;
      clock = clock;
      body = body;
      message = it.0;
      end = it.2.0;
      frame = refl;
      xlog_data = is;
      decodes = it.1;
      commits = it.2.1;
      passes = it.2.2;
    }
payload_moves now s s' bytes (Ok (wire.Keepalive end clock asks)) is h less =
    absurd (let same = keepalive_place now s s' end clock asks h in omega (arith, same, less))
payload_moves now s s' bytes (Err k) is h less = never_stopped _ h

-- a frame behind which the position is greater is a commit, which the store could refuse
pub frame_moves : (now : ℤ) (s s' : Subscribed) (f : wire.Frame) → take_frame now s f ≡ Running s' → s.position < s'.position
    → IsCommitFrame s f × ReachesStore (take_frame now s f)
frame_moves now s s' (wire.CopyData bytes) h less = (payload_moves now s s' bytes (payload_at bytes) refl h less, rw h tt)
frame_moves now s s' wire.CopyDone h less =
    absurd (let same : s.position ≡ s'.position = ap (λ (x : Subscribed). x.position) (was_running h) in omega (arith, same, less))
