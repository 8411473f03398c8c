-- What an event does to a store of which it is said what tables it holds.
use Rattle.std.proofs.Common.{◌≡◌, inl, ℕ, List, Bool, true, false, cond, ◌||◌, Some, refl, sym, ap}
use Rattle.std.proofs.Common.{subst, ◌∙◌}
use Rattle.std.specs.Prelude.{◌==◌}
use Rattle.std.specs.FinMap as map
use Rattle.pglogical.specs.declared.message.Item.{Item}
use Rattle.pglogical.specs.declared.message.Message.{Message}
use Rattle.pgorder.specs.declared.Event.{Event}
use Rattle.pgorder.specs.Steps.{OrderState}
use Rattle.pgspool.specs.Labels.{HeldMap, items_of, held_of}
use Rattle.pgapply.specs.Value.{Tables}
use Rattle.pgsub_core.specs.declared.fault.Fault.{Fault}
use Rattle.pgsub_core.specs.Server.Stream.{Kind, BeginsPair, CommitsPair, Holds, StartsBlock}
use Rattle.pgsub_core.specs.Server.Stream.{StopsBlock, CommitsStream, AbortsStream, ChangesNothing}
use Rattle.pgsub_core.specs.Machine.Replica.{Replica, Running, on_commit, Outcome, GoesOrStops}
use Rattle.pgsub_core.specs.Machine.Replica.{IsOfStore, Halt, Stopped, RelationCache}
use Rattle.pgsub_core.specs.Machine.ApplyState.{ApplyState, ApplyResult, pushed, committed}
use Rattle.pgsub_core.specs.Machine.ApplyState.{on_event}
use Rattle.pgsub_core.specs.Subscriber.Causes.{Cause, OutOfMemory, StatementRefused, HeaderTooLarge}
use Rattle.pgsub_core.specs.Subscriber.Causes.{ForeignBytes, NextMessage, NeverAnswered, cause}
use Rattle.pgsub_core.specs.Subscriber.Causes.{SpoolFailed}
use Rattle.pgsub_core.specs.Calls.Committing.{replica_with, StopsAtCommit, Commits, RefusesCommit}
use Rattle.pgsub_core.specs.Subscriber.Applied.{Applied}
use Rattle.pgsub_core.specs.Calls.Events.{state_with, event_end, StopsAtEvent, EventGoes}
use Rattle.pgsub_core.specs.Calls.Events.{EventStops, StaysBeside}
use Rattle.pgsub_core.proofs.Opening.{key_inserted, one_xid}

abbrev goes_on : ApplyState → ApplyResult
goes_on s = Running s

module _ {C : Type 0} (holds : C → Tables → Type 0) (place : C → ℕ) (m : Message) (e : Event) where
  -- an event that changes what is held alone
  pub goes_by : (v a : Applied C) → v ≡ a → (new held' : HeldMap) → new ≡ held'
      → ((tables : Tables) → on_event (state_with place v tables) m v.order e
      ≡ Running (record (state_with place v tables) { held = held' }))
      → (tables : Tables) → holds a.store tables
      → (tables' : Tables) × holds v.store tables'
      × (on_event (state_with place a tables) m a.order e
      ≡ Running (record { order = v.order; held = new; replica = replica_with tables' (place v.store) v.confirmed v.relations }))
  goes_by v a is new held' same step tables h = (
    tables,
    subst (λ (x : Applied C). holds x.store tables) (sym is) h,
    ap (λ (x : Applied C). on_event (state_with place x tables) m x.order e) (sym is) ∙ step tables
        ∙ ap (λ (y : HeldMap). goes_on (record (state_with place v tables) { held = y })) (sym same),
  )

  -- a commit
  module _ (a b : Applied C) (end xid : ℕ)
      (is : (st : ApplyState) → on_event st m st.order e
      ≡ committed st st.order xid (on_commit st.replica end (items_of (held_of st.held xid)))) where
    abbrev items : List Item
    items = items_of (held_of a.held xid)

    goes_commit : StaysBeside a b → b.held ≡ map.remove a.held xid
        → Commits holds place end items a.store a.confirmed a.relations b.store b.confirmed b.relations → EventGoes holds place m e a b
    goes_commit beside held commits tables h =
        let done = commits tables h in (
          done.0,
          done.1,
          is (state_with place a tables) ∙ ap (committed (state_with place a tables) a.order xid) done.2
              ∙ (λ i. leaves (sym beside.order i) (sym held i) (replica_with done.0 (place b.store) b.confirmed b.relations)),
        )
      where
        leaves : OrderState → HeldMap → Replica → ApplyResult
        leaves o h r = Running (record { order = o; held = h; replica = r })

    committed_reaches : (old : ApplyState) (o : OrderState) (x : ℕ) (out : Outcome Replica Halt) → GoesOrStops IsOfStore out
        → GoesOrStops IsOfStore (committed old o x out)
    committed_reaches old o x (Running replica) h = tt
    committed_reaches old o x (Stopped replica why) h = h

    stops_by : (limit : ℕ) (tables : Tables) (f : Fault) (ends : event_end e ≡ Some end) (k : Cause)
        → StopsAtCommit (replica_with tables (place a.store) a.confirmed a.relations) end items f k
        → StopsAtEvent (state_with place a tables) m e limit f k
    stops_by limit tables f ends OutOfMemory h = tt
    stops_by limit tables f ends SpoolFailed h = tt
    stops_by limit tables f ends StatementRefused h =
        (end, ends, h.0, rw (is (state_with place a tables)) (committed_reaches (state_with place a tables) a.order xid _ h.1))
    stops_by limit tables f ends HeaderTooLarge h = absurd h
    stops_by limit tables f ends ForeignBytes h = absurd h
    stops_by limit tables f ends NextMessage h =
        inl (_, h.0, is (state_with place a tables) ∙ ap (committed (state_with place a tables) a.order xid) h.1, h.2)
    stops_by limit tables f ends NeverAnswered h = absurd h

    stops_commit : event_end e ≡ Some end → (f : Fault) → RefusesCommit holds place end items a.store a.confirmed a.relations b.store f
        → EventStops holds place m e a b f
    stops_commit ends f refuses =
        record { stays = refuses.stays; why = λ tables h. stops_by a.limit tables f ends (cause f) (refuses.why tables h) }

  -- a commit, as the fields of what takes it tell of it
  module _ (v a : Applied C) (same : v ≡ a) (end xid : ℕ)
      (is : (st : ApplyState) → on_event st m st.order e
      ≡ committed st st.order xid (on_commit st.replica end (items_of (held_of st.held xid)))) where
    pub goes_committed : (store : C) (confirmed : ℕ) (held : HeldMap) (relations : RelationCache) → held ≡ map.remove v.held xid
        → Commits holds place end (items_of (held_of v.held xid)) v.store v.confirmed v.relations store confirmed relations
        → (tables : Tables) → holds a.store tables
        → (tables' : Tables) × holds store tables'
        × (on_event (state_with place a tables) m a.order e
        ≡ Running (record { order = v.order; held = held; replica = replica_with tables' (place store) confirmed relations }))
    goes_committed store confirmed held relations removed commits =
        let b : Applied C = record v { store = store; confirmed = confirmed; held = held; relations = relations } in
        let beside : StaysBeside v b = record { received = refl; version = refl; limit = refl; order = refl; replies = refl } in
        subst (λ (x : Applied C).
        (tables : Tables) → holds x.store tables
        → (tables' : Tables) × holds store tables'
        × (on_event (state_with place x tables) m x.order e
        ≡ Running (record { order = v.order; held = held; replica = replica_with tables' (place store) confirmed relations }))) same
        (goes_commit v b end xid is beside removed commits)

    pub stops_committed : event_end e ≡ Some end → (b : Applied C) (f : Fault)
        → RefusesCommit holds place end (items_of (held_of v.held xid)) v.store v.confirmed v.relations b.store f
        → EventStops holds place m e a b f
    stops_committed ends b f refuses =
        subst (λ (x : Applied C). EventStops holds place m e x b f) same (stops_commit v b end xid is ends f refuses)

    pub stops_uncommitted : event_end e ≡ Some end → (f : Fault)
        → RefusesCommit holds place end (items_of (held_of v.held xid)) v.store v.confirmed v.relations v.store f
        → EventStops holds place m e a a f
    stops_uncommitted ends f refuses =
        subst (λ (x : Applied C). EventStops holds place m e x x f) same (stops_commit v v end xid is ends f refuses)

-- ---- of which transactions items are held then

kept_key : (held : HeldMap) (xid x : ℕ) → map.contains_key held xid ≡ true → (b : Bool) → (xid == x) ≡ b
    → map.contains_key held x ≡ (b || map.contains_key held x)
kept_key held xid x there true test = ap (map.contains_key held) (sym (one_xid xid x test)) ∙ there
kept_key held xid x there false test = refl

pub pushed_keys : (held : HeldMap) (xid subxid : ℕ) (k : Kind) → map.contains_key held xid ≡ true → (x : ℕ)
    → map.contains_key (pushed held xid subxid k) x ≡ ((xid == x) || map.contains_key held x)
pushed_keys held xid subxid (Holds l item) there x = key_inserted held xid _ x
pushed_keys held xid subxid (BeginsPair y) there x = kept_key held xid x there (xid == x) refl
pushed_keys held xid subxid (CommitsPair lsn end time) there x = kept_key held xid x there (xid == x) refl
pushed_keys held xid subxid (StartsBlock y first) there x = kept_key held xid x there (xid == x) refl
pushed_keys held xid subxid StopsBlock there x = kept_key held xid x there (xid == x) refl
pushed_keys held xid subxid (CommitsStream y lsn end time) there x = kept_key held xid x there (xid == x) refl
pushed_keys held xid subxid (AbortsStream y l) there x = kept_key held xid x there (xid == x) refl
pushed_keys held xid subxid ChangesNothing there x = kept_key held xid x there (xid == x) refl

pub cut_when_open : (held : HeldMap) (b : Bool) (cutted : HeldMap) → b ≡ true → cond b cutted held ≡ cutted
cut_when_open held b cutted is = ap (λ t. cond t cutted held) is
