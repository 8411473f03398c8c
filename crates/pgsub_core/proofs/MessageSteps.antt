-- One logical message, by the event that it is.
use Rattle.std.proofs.Common.{◌≡◌, ◌≢◌, ◌<◌, ◌≤◌, ◌+◌, inl, inr, ℕ, ℤ, List, Bool, true, false}
use Rattle.std.proofs.Common.{cond, Option, Some, Ok, Err, max, refl, sym, ap, subst, ◌∙◌, arith}
use Rattle.std.specs.Prelude.{◌==◌, nat_lt}
use Rattle.std.proofs.lemmas.Bool.Decides.{nat_tests}
use Rattle.pglogical.specs.declared.message.Message.{Message}
use Rattle.pglogical.specs.declared.message.Message.TheVariants as message
use Rattle.pgorder.specs.declared.Version.{Version}
use Rattle.pgorder.specs.declared.Version.TheVariants.{One, Two}
use Rattle.pgorder.specs.declared.Event.{Event}
use Rattle.pgorder.specs.declared.Event.TheVariants as event
use Rattle.pgorder.specs.declared.fault.OrderFault.{OrderFault}
use Rattle.pgorder.specs.declared.fault.OrderFault.TheVariants as order
use Rattle.pgorder.specs.OpenXids.{is_open}
use Rattle.pgorder.specs.Steps.{Context, Outside, InPair, InBlock, OrderState, StepResult}
use Rattle.pgorder.specs.Steps.{order_step, in_version_2, step_inner, step_item, step_begin}
use Rattle.pgorder.specs.Steps.{step_commit, step_stream_start, step_stream_stop}
use Rattle.pgorder.specs.Steps.{step_stream_commit, step_stream_abort}
use Rattle.pgspool.specs.Labels.{HeldMap, cost, all_costs, items_of, held_of}
use Rattle.pgapply.specs.Value.{Tables}
use Rattle.pgsub_core.specs.declared.fault.Fault.{Fault}
use Rattle.pgsub_core.specs.Server.Stream.{Data, Kind, BeginsPair, CommitsPair, Holds, StartsBlock}
use Rattle.pgsub_core.specs.Server.Stream.{StopsBlock, CommitsStream, AbortsStream, ChangesNothing}
use Rattle.pgsub_core.specs.Server.Stream.{kind}
use Rattle.pgsub_core.specs.Machine.Replica.{Replica, Halt, UnknownRelation, StoreRefuses}
use Rattle.pgsub_core.specs.Machine.Replica.{OutOfOrder, Outcome, Running, Stopped, GoesOrStops}
use Rattle.pgsub_core.specs.Machine.Replica.{IsOfStore, on_commit}
use Rattle.pgsub_core.specs.Machine.ApplyState.{ApplyState, ApplyResult, committed, on_event}
use Rattle.pgsub_core.specs.Subscriber.Subscribed.{Subscribed}
use Rattle.pgsub_core.specs.Machine.Taking.{with_state, receive, passes_limit, fault_of, take}
use Rattle.pgsub_core.specs.Machine.Taking.{IsStoreFault, ReachesStore}
use Rattle.pgsub_core.specs.Subscriber.Handled.{end_by_kind}
use Rattle.pgsub_core.specs.Subscriber.Causes.{Cause, OutOfMemory, StatementRefused, HeaderTooLarge}
use Rattle.pgsub_core.specs.Subscriber.Causes.{ForeignBytes, NextMessage, NeverAnswered, cause}
use Rattle.pgsub_core.specs.Subscriber.Causes.{SpoolFailed}
use Rattle.pgsub_core.specs.Subscriber.Applied.{Applied, Framing, subscribed, StopsAtMessage}
use Rattle.pgsub_core.specs.Subscriber.Applied.{IsKept, Goes, Stops}
use Rattle.pgsub_core.specs.Calls.Events.{state_with, FindsRoom, FindsNoRoom, event_end}
use Rattle.pgsub_core.specs.Calls.Events.{StopsAtEvent, EventGoes, EventStops, StaysBeside}
use Rattle.pgsub_core.specs.Machine.Faults.{fault_of_order}

-- ---- what an event says of its message

pub record MeansEvent (limit : ℕ) (held : HeldMap) (s : Subscribed) (k : Kind) (e : Event) : Type 0 where
  pub ends : event_end e ≡ end_by_kind k
  pub room : FindsRoom e s.limit s.held k → passes_limit s k ≡ false
  pub full : FindsNoRoom e s.limit s.held k → passes_limit s k ≡ true

abbrev Means : Subscribed → Message → StepResult → Type 0
Means s m (Ok step) = MeansEvent s.limit s.held s (kind m) step.1
Means s m (Err f) = Unit {0}

either : (s : Subscribed) (m : Message) (b : Bool) (x y : StepResult) → Means s m x → Means s m y → Means s m (cond b x y)
either s m true x y h k = h
either s m false x y h k = k

versions : (s : Subscribed) (m : Message) (v : Version) (x : StepResult) → Means s m x → Means s m (in_version_2 v x)
versions s m One x h = tt
versions s m Two x h = h

fits_limit : (limit costs : ℕ) → costs ≤ limit → nat_lt limit costs ≡ false
fits_limit limit costs h = grind (arith, nat_tests)

over_limit : (limit costs : ℕ) → limit < costs → nat_lt limit costs ≡ true
over_limit limit costs h = grind (arith, nat_tests)

module _ (s : Subscribed) (o : OrderState) where
  inner_means : (c : Context) (m : Message) → MeansEvent s.limit s.held s (kind m) event.Ignore → Means s m (step_inner o c)
  inner_means Outside m h = tt
  inner_means (InPair lsn xid) m h = h
  inner_means (InBlock xid) m h = h

  item_means : (c : Context) (subxid : Option ℕ) (item : _) → Means s (message.Item subxid item) (step_item o c subxid)
  item_means Outside subxid item = tt
  item_means (InPair lsn xid) subxid item =
      record {
        ends = refl;
        room = fits_limit s.limit (all_costs s.held + cost item);
        full = over_limit s.limit (all_costs s.held + cost item);
      }
  item_means (InBlock xid) subxid item =
      record {
        ends = refl;
        room = fits_limit s.limit (all_costs s.held + cost item);
        full = over_limit s.limit (all_costs s.held + cost item);
      }

  begin_means : (c : Context) (l : ℕ) (t : ℤ) (x : ℕ) → Means s (message.Begin l t x) (step_begin o c l x)
  begin_means Outside l t x =
      either s (message.Begin l t x) (is_open x o.open_xids) _ _ tt (record { ends = refl; room = λ h. refl; full = λ h. absurd h })
  begin_means (InPair lsn xid) l t x = tt
  begin_means (InBlock xid) l t x = tt

  commit_means : (c : Context) (l end : ℕ) (t : ℤ) → Means s (message.Commit l end t) (step_commit o c l end)
  commit_means Outside l end t = tt
  commit_means (InPair lsn xid) l end t =
      either s (message.Commit l end t) (l == lsn) _ _ (record { ends = refl; room = λ h. refl; full = λ h. absurd h }) tt
  commit_means (InBlock xid) l end t = tt

  start_means : (c : Context) (x : ℕ) (first : Bool) → Means s (message.StreamStart x first) (step_stream_start o c x first)
  start_means Outside x true =
      either s (message.StreamStart x true) (is_open x o.open_xids) _ _ tt (record { ends = refl; room = λ h. refl; full = λ h. absurd h })
  start_means Outside x false =
      either s (message.StreamStart x false) (is_open x o.open_xids) _ _ (record { ends = refl; room = λ h. refl; full = λ h. absurd h }) tt
  start_means (InPair lsn xid) x first = tt
  start_means (InBlock xid) x first = tt

  stop_means : (c : Context) → Means s message.StreamStop (step_stream_stop o c)
  stop_means Outside = tt
  stop_means (InPair lsn xid) = tt
  stop_means (InBlock xid) = record { ends = refl; room = λ h. refl; full = λ h. absurd h }

  commit_stream_means : (c : Context) (x l end : ℕ) (t : ℤ) → Means s (message.StreamCommit x l end t) (step_stream_commit o c x l end)
  commit_stream_means Outside x l end t =
      either s (message.StreamCommit x l end t) (is_open x o.open_xids) _ _ (record { ends = refl; room = λ h. refl; full = λ h. absurd h })
      tt
  commit_stream_means (InPair lsn xid) x l end t = tt
  commit_stream_means (InBlock xid) x l end t = tt

  abort_means : (c : Context) (x label : ℕ) → Means s (message.StreamAbort x label) (step_stream_abort o c x label)
  abort_means Outside x label = either s (message.StreamAbort x label) (is_open x o.open_xids) _ _
      (either s (message.StreamAbort x label) (x == label) _ _ (record { ends = refl; room = λ h. refl; full = λ h. absurd h })
      (record { ends = refl; room = λ h. refl; full = λ h. absurd h }))
      (record { ends = refl; room = λ h. refl; full = λ h. absurd h })
  abort_means (InPair lsn xid) x label = tt
  abort_means (InBlock xid) x label = tt

step_means : (s : Subscribed) (v : Version) (o : OrderState) (m : Message) → Means s m (order_step v o m)
step_means s v o (message.Begin lsn time xid) = begin_means s o o.context lsn time xid
step_means s v o (message.Commit lsn end time) = commit_means s o o.context lsn end time
step_means s v o (message.Origin lsn name) =
    inner_means s o o.context (message.Origin lsn name) (record { ends = refl; room = λ h. refl; full = λ h. absurd h })
step_means s v o (message.TypeName xid oid namespace name) =
    inner_means s o o.context (message.TypeName xid oid namespace name) (record { ends = refl; room = λ h. refl; full = λ h. absurd h })
step_means s v o (message.Logical xid transactional lsn prefix content) = record { ends = refl; room = λ h. refl; full = λ h. absurd h }
step_means s v o (message.Item xid item) = item_means s o o.context xid item
step_means s v o (message.StreamStart xid first) = versions s (message.StreamStart xid first) v _ (start_means s o o.context xid first)
step_means s v o message.StreamStop = versions s message.StreamStop v _ (stop_means s o o.context)
step_means s v o (message.StreamCommit xid lsn end time) =
    versions s (message.StreamCommit xid lsn end time) v _ (commit_stream_means s o o.context xid lsn end time)
step_means s v o (message.StreamAbort xid label) = versions s (message.StreamAbort xid label) v _ (abort_means s o o.context xid label)

-- ---- an event from where the order stood before

module _ (st : ApplyState) (o : OrderState) (m : Message) where
  abbrev stepped : ApplyState
  stepped = record st { order = o }

  commit_runs : (xid : ℕ) (out : Outcome Replica Halt) (r : ApplyState) → committed stepped o xid out ≡ Running r
      → committed st o xid out ≡ Running r
  commit_runs xid (Running replica) r h = h
  commit_runs xid (Stopped replica why) r h = absurd (cc)

  commit_stops : (xid : ℕ) (out : Outcome Replica Halt) (s : ApplyState) (why : Halt) → committed stepped o xid out ≡ Stopped s why
      → (s' : ApplyState) × (committed st o xid out ≡ Stopped s' why)
  commit_stops xid (Running replica) s why h = absurd (cc)
  commit_stops xid (Stopped replica w) s why h = let same : w ≡ why = cc in
      (record st { replica = replica }, ap (λ (x : Halt). stopped_with replica x) same)
    where
      stopped_with : Replica → Halt → ApplyResult
      stopped_with replica x = Stopped (record st { replica = replica }) x

  event_runs : (e : Event) (r : ApplyState) → on_event stepped m o e ≡ Running r → on_event st m o e ≡ Running r
  event_runs event.Ignore r h = h
  event_runs (event.Begin xid) r h = h
  event_runs (event.Hold xid subxid) r h = h
  event_runs (event.Open xid) r h = h
  event_runs (event.Reopen xid) r h = h
  event_runs event.Close r h = h
  event_runs (event.Cut xid subxid) r h = h
  event_runs (event.Drop xid) r h = h
  event_runs (event.CommitPair xid lsn end) r h = commit_runs xid (on_commit st.replica end (items_of (held_of st.held xid))) r h
  event_runs (event.CommitStream xid lsn end) r h = commit_runs xid (on_commit st.replica end (items_of (held_of st.held xid))) r h

  event_stops : (e : Event) (s : ApplyState) (why : Halt) → on_event stepped m o e ≡ Stopped s why
      → (s' : ApplyState) × (on_event st m o e ≡ Stopped s' why)
  event_stops event.Ignore s why h = absurd (cc)
  event_stops (event.Begin xid) s why h = absurd (cc)
  event_stops (event.Hold xid subxid) s why h = absurd (cc)
  event_stops (event.Open xid) s why h = absurd (cc)
  event_stops (event.Reopen xid) s why h = absurd (cc)
  event_stops event.Close s why h = absurd (cc)
  event_stops (event.Cut xid subxid) s why h = absurd (cc)
  event_stops (event.Drop xid) s why h = absurd (cc)
  event_stops (event.CommitPair xid lsn end) s why h = commit_stops xid (on_commit st.replica end (items_of (held_of st.held xid))) s why h
  event_stops (event.CommitStream xid lsn end) s why h =
      commit_stops xid (on_commit st.replica end (items_of (held_of st.held xid))) s why h

  -- what is too much to hold is held by a step all the same
  full_runs : (e : Event) (limit : ℕ) (held : HeldMap) (k : Kind) → FindsNoRoom e limit held k
      → (r : ApplyState) × (on_event st m o e ≡ Running r)
  full_runs (event.Hold xid subxid) limit held k h = (_, refl)
  full_runs event.Ignore limit held k h = absurd h
  full_runs (event.Begin xid) limit held k h = absurd h
  full_runs (event.Open xid) limit held k h = absurd h
  full_runs (event.Reopen xid) limit held k h = absurd h
  full_runs event.Close limit held k h = absurd h
  full_runs (event.Cut xid subxid) limit held k h = absurd h
  full_runs (event.Drop xid) limit held k h = absurd h
  full_runs (event.CommitPair xid lsn end) limit held k h = absurd h
  full_runs (event.CommitStream xid lsn end) limit held k h = absurd h

-- ---- a message

-- a commit holds no item
commit_fits : (s : Subscribed) (k : Kind) (end : ℕ) → end_by_kind k ≡ Some end → passes_limit s k ≡ false
commit_fits s (BeginsPair xid) end h = refl
commit_fits s (CommitsPair lsn last time) end h = refl
commit_fits s (Holds subxid item) end h = absurd (cc)
commit_fits s (StartsBlock xid first) end h = refl
commit_fits s StopsBlock end h = refl
commit_fits s (CommitsStream xid lsn last time) end h = refl
commit_fits s (AbortsStream xid subxid) end h = refl
commit_fits s ChangesNothing end h = refl

store_reason : (why : Halt) → IsOfStore why → IsStoreFault (fault_of why)
store_reason (UnknownRelation oid) h = h
store_reason (StoreRefuses end k) h = h
store_reason (OutOfOrder k) h = h

module _ {C : Type 0} (holds : C → Tables → Type 0) (place : C → ℕ) (m : Message) (start end : ℕ) (v : Applied C) where
  -- out of order
  pub order_stops : (k : OrderFault) → (k ≢ order.Memory → order_step v.version v.order m ≡ Err k)
      → (now clock : ℤ) (framing : Framing) (tables : Tables)
      → StopsAtMessage now (subscribed place framing v tables) (Data start end clock m) (fault_of_order k) (cause (fault_of_order k))
  order_stops order.OutsideTransaction h now clock framing tables = (subscribed place framing v tables, rw (h (λ e. cc)) refl)
  order_stops order.NestedBegin h now clock framing tables = (subscribed place framing v tables, rw (h (λ e. cc)) refl)
  order_stops order.CommitWithoutBegin h now clock framing tables = (subscribed place framing v tables, rw (h (λ e. cc)) refl)
  order_stops order.CommitLsnDiffers h now clock framing tables = (subscribed place framing v tables, rw (h (λ e. cc)) refl)
  order_stops order.NestedStart h now clock framing tables = (subscribed place framing v tables, rw (h (λ e. cc)) refl)
  order_stops order.StopWithoutStart h now clock framing tables = (subscribed place framing v tables, rw (h (λ e. cc)) refl)
  order_stops order.FirstFlagOnOpen h now clock framing tables = (subscribed place framing v tables, rw (h (λ e. cc)) refl)
  order_stops order.LaterFlagOnUnknown h now clock framing tables = (subscribed place framing v tables, rw (h (λ e. cc)) refl)
  order_stops order.CommitOfUnknown h now clock framing tables = (subscribed place framing v tables, rw (h (λ e. cc)) refl)
  order_stops order.StreamInVersion1 h now clock framing tables = (subscribed place framing v tables, rw (h (λ e. cc)) refl)
  order_stops order.CommitMisplaced h now clock framing tables = (subscribed place framing v tables, rw (h (λ e. cc)) refl)
  order_stops order.AbortMisplaced h now clock framing tables = (subscribed place framing v tables, rw (h (λ e. cc)) refl)
  order_stops order.Memory h now clock framing tables = tt

  module _ (o : OrderState) (e : Event) (version : Version) (is : order_step v.version v.order m ≡ Ok (o, e)) (w : Applied C) where
    abbrev mid : Applied C
    mid = record v { order = o; version = version }

    means : (s : Subscribed) → MeansEvent s.limit s.held s (kind m) e
    means s = subst (Means s m) is (step_means s v.version v.order m)

    module _ (now clock : ℤ) (framing : Framing) (tables : Tables) where
      abbrev was : Subscribed
      was = subscribed place framing v tables

      taken_by : (r : ApplyState) → on_event (state_with place mid tables) m o e ≡ Running r → passes_limit was (kind m) ≡ false
          → take now was (Data start end clock m) ≡ Running (receive (max start end) (with_state r was))
      taken_by r h room = rw (is, event_runs (state_with place v tables) o m e r h, room) refl

      -- with the order as it stood before, the store is reached all the same
      reaches : passes_limit was (kind m) ≡ false → (out : ApplyResult) → on_event (state_with place mid tables) m o e ≡ out
          → GoesOrStops IsOfStore out → ReachesStore (take now was (Data start end clock m))
      reaches room (Running r) h own = rw (is, event_runs (state_with place v tables) o m e r h, room) tt
      reaches room (Stopped s why) h own = rw (is, (event_stops (state_with place v tables) o m e s why h).1) (store_reason why own)

      why_stops : (f : Fault) (k : Cause) → StopsAtEvent (state_with place mid tables) m e v.limit f k
          → StopsAtMessage now was (Data start end clock m) f k
      why_stops f OutOfMemory h = tt
      why_stops f SpoolFailed h = tt
      why_stops f StatementRefused h = (
        h.0,
        sym (means was).ends ∙ h.1,
        h.2,
        reaches (commit_fits was (kind m) h.0 (sym (means was).ends ∙ h.1)) (on_event (state_with place mid tables) m o e) refl h.3,
      )
      why_stops f HeaderTooLarge h = absurd h
      why_stops f ForeignBytes h = absurd h
      why_stops f NextMessage (inl h) =
          let stops = event_stops (state_with place v tables) o m e h.0 h.1 h.2 in
          (was, rw (is, stops.1, h.3) refl)
      why_stops f NextMessage (inr h) =
          let runs = full_runs (state_with place v tables) o m e v.limit v.held (kind m) h.1 in
          let full = (means was).full h.1 in
          (was, rw (is, runs.1, full, h.0) refl)
      why_stops f NeverAnswered h = absurd h

    pub message_goes : EventGoes holds place m e mid w → FindsRoom e v.limit v.held (kind m) → StaysBeside mid w → version ≡ v.version
        → (received : ℕ) → received ≡ max w.confirmed (max w.received (max start end))
        → (now clock : ℤ) → Goes holds place (λ s. take now s (Data start end clock m)) v (record w { received = received })
    message_goes goes room beside same received raised now clock framing tables h =
        let done = goes tables h in (
          done.0,
          done.1,
          taken_by now clock framing tables (state_with place w done.0) done.2 ((means (was now clock framing tables)).room room)
              ∙ (λ i. whole framing done.0 (sym (beside.version ∙ same) i) (sym beside.limit i) (sym beside.replies i)
              ((ap (λ r. max w.confirmed (max r (max start end))) (sym beside.received) ∙ sym raised) i)),
        )
      where
        whole : Framing → Tables → Version → ℕ → List ℕ → ℕ → Outcome Subscribed Fault
        whole framing tables v l replies r =
            Running (subscribed place framing (record w { version = v; limit = l; replies = replies; received = r }) tables)

    pub message_stops : (f : Fault) → EventStops holds place m e mid w f → IsKept place mid w → version ≡ v.version → (now clock : ℤ)
        → Stops holds place now (Data start end clock m) v w f
    message_stops f stops kept same now clock = record {
      kept = record {
        position = kept.position;
        confirmed = kept.confirmed;
        received = kept.received;
        version = kept.version ∙ same;
        limit = kept.limit;
        replies = kept.replies;
      };
      stays = stops.stays;
      why = λ framing tables h. why_stops now clock framing tables f (cause f) (stops.why tables h);
    }

-- ---- the same of what is seen of fields

module _ {C : Type 0} (holds : C → Tables → Type 0) (place : C → ℕ) (m : Message) (start end : ℕ) (v a : Applied C) (same : v ≡ a)
    (o : OrderState) (version : Version) (kept : version ≡ v.version) where
  pub order_refuses : (k : OrderFault) (f : Fault) → f ≡ fault_of_order k → (k ≢ order.Memory → order_step v.version v.order m ≡ Err k)
      → (now clock : ℤ)
      → Stops holds place now (Data start end clock m) a (record v { order = o; version = version }) f
  order_refuses k f is h now clock =
      subst (λ (x : Applied C). Stops holds place now (Data start end clock m) x (record v { order = o; version = version }) f) same
      (subst (Stops holds place now (Data start end clock m) v (record v { order = o; version = version })) (sym is) (record {
        kept = record { position = refl; confirmed = refl; received = refl; version = kept; limit = refl; replies = refl };
        stays = λ tables t. t;
        why = λ framing tables t. order_stops holds place m start end v k h now clock framing tables;
      }))

  pub event_takes : (e : Event) → order_step v.version v.order m ≡ Ok (o, e) → (w ev : Applied C) → w ≡ ev
      → EventGoes holds place m e (record v { order = o; version = version }) ev → FindsRoom e v.limit v.held (kind m)
      → StaysBeside (record v { order = o; version = version }) ev → (received : ℕ)
      → received ≡ max w.confirmed (max w.received (max start end))
      → (now clock : ℤ) → Goes holds place (λ s. take now s (Data start end clock m)) a (record w { received = received })
  event_takes e is w ev seen goes room beside received raised now clock =
      subst (λ (x : Applied C). Goes holds place (λ s. take now s (Data start end clock m)) x (record w { received = received })) same
      (message_goes holds place m start end v o e version is w
      (subst (EventGoes holds place m e (record v { order = o; version = version })) (sym seen) goes) room
      (subst (StaysBeside (record v { order = o; version = version })) (sym seen) beside) kept received raised now clock)
