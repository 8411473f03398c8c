-- What a run over a store that is told of comes to, said of the store and the reader within.
use Rattle.std.proofs.Common.{◌≡◌, ◌≤◌, ◌∙◌, inl, inr, ℕ, List, Option, Some, None, Result}
use Rattle.std.proofs.Common.{ap, sym, subst}
use Rattle.pgcommand.specs.declared.limits.Limits.{Limits}
use Rattle.pgorder.specs.declared.Version.{Version}
use Rattle.pgapply.specs.Value.{Tables}
use Rattle.pgsub_core.specs.declared.fault.Fault.{Fault}
use Rattle.pgsub_core.specs.declared.fault.Fault.TheVariants as fault
use Rattle.pgsub_core.specs.Subscriber.Applied.{IsKept}
use Rattle.pgsub_core.specs.Subscriber.Crashing.{IsLeftSafely}
use Rattle.pgsub_core.specs.Subscriber.Following.{FeedsSessions}
use Rattle.pgsub_core.specs.Subscriber.SubscriberValue.{SubscriberValue}
use Rattle.pgsub_cli.specs.declared.fault.Ending.{Ending}
use Rattle.pgsub_cli.specs.declared.fault.RunFault.{RunFault}
use Rattle.pgsub_cli.specs.declared.storing.Incoming.{Incoming}
use Rattle.pgsub_cli.specs.declared.storing.Incoming.TheVariants.{Sessions, Raw}
use Rattle.pgsub_cli.specs.Dumped.{PrintsHeld}
use Rattle.pgsub_cli.specs.Followed.{PrintsLed, lines_of, new_subscriber}
use Rattle.pgsub_cli.specs.Limits.{clock}
use Rattle.pgsub_cli.specs.Reports.{incoming_within, input_within}
use Rattle.pgsub_cli.specs.Runs.{AreRead, ForSessions, PrintsNew}
use Rattle.pgsub_cli.specs.StoreAfter.{FeedsIncoming, HoldsAfter, HoldsFed, LeavesFronts}
use Rattle.pgsub_cli.specs.StoreAfter.{LeavesIncomingHistory, LosesNothing, MayBeLeft}
use Rattle.pgsub_cli.specs.Storing.{LinesBefore, LinesOver, PrintsKept, PrintsOver}
use Rattle.pgsub_cli.proofs.PrintedOver.{held_weaker, left_weaker}

module _ {R Q : Type 0} (reader : Q → R) (gives begins : R → List ℕ → Type 0) (failed : R → Type 0) where
  read_within : (file : Q) (bytes : List ℕ) (stopped : Option Fault)
      → AreRead (λ q. gives (reader q)) (λ q. begins (reader q)) (λ q. failed (reader q)) file bytes stopped
      → AreRead gives begins failed (reader file) bytes stopped
  read_within file bytes None h = h
  read_within file bytes (Some fault.Read) h = h
  read_within file bytes (Some f) h = h

  came_within : (b : Incoming Q) (stopped : Option Fault) (P : List (List ℕ) → Option Fault → Type 0)
      → ForSessions (λ q. gives (reader q)) (λ q. begins (reader q)) (λ q. failed (reader q)) b stopped P
      → ForSessions gives begins failed (incoming_within reader b) stopped P
  came_within (Sessions sessions) stopped P h = h
  came_within (Raw q) stopped P h = (h.0, read_within q h.0 stopped h.1, h.2)

  -- from an empty store on
  new_within : (limits : Limits) (b : Option (Version × Incoming Q)) (stopped : Option Fault) (lines : List ℕ)
      → PrintsNew (λ q. gives (reader q)) (λ q. begins (reader q)) (λ q. failed (reader q)) limits b stopped lines
      → PrintsNew gives begins failed limits (input_within reader b) stopped lines
  new_within limits None stopped lines h = h
  new_within limits (Some (version, b)) stopped lines h =
      came_within b stopped (λ sessions f. PrintsLed lines_of (new_subscriber limits version) sessions f lines) h

  pub prints_new_within : {W : Type 0} (takes : W → List ℕ → W → Type 0) (write_failed : W → Type 0) (limits : Limits)
      (b : Option (Version × Incoming Q)) (out out' : W) (ended : Result Ending RunFault)
      → PrintsHeld takes write_failed (PrintsNew (λ q. gives (reader q)) (λ q. begins (reader q)) (λ q. failed (reader q)) limits b) out
      out' ended
      → PrintsHeld takes write_failed (PrintsNew gives begins failed limits (input_within reader b)) out out' ended
  prints_new_within takes write_failed limits b out out' ended =
      held_weaker takes write_failed (PrintsNew (λ q. gives (reader q)) (λ q. begins (reader q)) (λ q. failed (reader q)) limits b)
      (PrintsNew gives begins failed limits (input_within reader b)) out out' (λ f lines h. new_within limits b f lines h) ended

module _ {R Q C D : Type 0} (reader : Q → R) (inner : D → C) (gives begins : R → List ℕ → Type 0) (failed : R → Type 0)
    (holds : C → Tables → Type 0) (place : C → ℕ) where
  -- the subscriber over the store within
  abbrev within : SubscriberValue D → SubscriberValue C
  within s = record {
    applied = record {
      store = inner s.applied.store;
      confirmed = s.applied.confirmed;
      received = s.applied.received;
      version = s.applied.version;
      limit = s.applied.limit;
      order = s.applied.order;
      held = s.applied.held;
      relations = s.applied.relations;
      replies = s.applied.replies;
    };
    framing = s.framing;
  }

  kept_within : (s new : SubscriberValue D) → IsKept (λ d. place (inner d)) s.applied new.applied
      → IsKept place (within s).applied (within new).applied
  kept_within s new k = record
      { position = k.position; confirmed = k.confirmed; received = k.received; version = k.version; limit = k.limit; replies = k.replies }

  feeds_within : (b : Incoming Q) (old new : SubscriberValue D) (stopped : Option Fault)
      → FeedsIncoming (λ q. gives (reader q)) (λ q. begins (reader q)) (λ q. failed (reader q)) (λ d. holds (inner d))
      (λ d. place (inner d)) b old new stopped
      → FeedsIncoming gives begins failed holds place (incoming_within reader b) (within old) (within new) stopped
  feeds_within b old new stopped h =
      came_within reader gives begins failed b stopped (λ sessions f. FeedsSessions holds place clock (within old) sessions (within new) f)
      h

  lines_within : (limits : Limits) (b : Option (Version × Incoming Q)) (old new : D) (stopped : Option Fault) (said : List ℕ → Type 0)
      → LinesOver (λ q. gives (reader q)) (λ q. begins (reader q)) (λ q. failed (reader q)) (λ d. holds (inner d)) (λ d. place (inner d))
      limits b old new stopped said
      → LinesOver gives begins failed holds place limits (input_within reader b) (inner old) (inner new) stopped said
  lines_within limits None old new stopped said h = h
  lines_within limits (Some (version, b)) old new stopped said h =
      came_within reader gives begins failed b stopped
      (λ sessions f. PrintsKept holds place limits version (inner old) sessions (inner new) f said) h

  pub prints_within : (is_honest : C → Type 0) {W : Type 0} (takes : W → List ℕ → W → Type 0) (write_failed : W → Type 0) (limits : Limits)
      (b : Option (Version × Incoming Q)) (old new : D) (out out' : W) (ended : Result Ending RunFault)
      → PrintsOver (λ q. gives (reader q)) (λ q. begins (reader q)) (λ q. failed (reader q)) (λ d. holds (inner d)) (λ d. place (inner d))
      (λ d. is_honest (inner d)) takes write_failed limits b old new out out' ended
      → PrintsOver gives begins failed holds place is_honest takes write_failed limits (input_within reader b) (inner old) (inner new) out
      out' ended
  prints_within is_honest takes write_failed limits b old new out out' ended (ends, prints) = (
    ends,
    λ honest. left_weaker takes write_failed
        (LinesOver (λ q. gives (reader q)) (λ q. begins (reader q)) (λ q. failed (reader q)) (λ d. holds (inner d)) (λ d. place (inner d))
        limits b old new)
        (LinesOver gives begins failed holds place limits (input_within reader b) (inner old) (inner new))
        (LinesBefore (λ q. gives (reader q)) (λ q. begins (reader q)) (λ q. failed (reader q)) (λ d. holds (inner d))
        (λ d. place (inner d)) limits b old new)
        (LinesBefore gives begins failed holds place limits (input_within reader b) (inner old) (inner new)) out out'
        (λ f said h. lines_within limits b old new f said h)
        (λ said h. (inner h.0, h.1, (h.2.0, lines_within limits b old h.0 h.2.0 said h.2.1))) ended (prints honest),
  )

  pub holds_within : (limits : Limits) (b : Option (Version × Incoming Q)) (old new : D)
      → HoldsAfter (λ q. gives (reader q)) (λ q. begins (reader q)) (λ q. failed (reader q)) (λ d. holds (inner d)) (λ d. place (inner d))
      limits b old new
      → HoldsAfter gives begins failed holds place limits (input_within reader b) (inner old) (inner new)
  holds_within limits None old new h = h
  holds_within limits (Some (version, b)) old new h = (
    h.0,
    came_within reader gives begins failed b h.0
        (λ sessions f. HoldsFed holds place limits version (inner old) sessions (inner new) f) h.1,
  )

  -- any store may be the one within
  module _ (outer : C → D) (back : (c : C) → inner (outer c) ≡ c) (reopens : C → C → Type 0) where
    reopened : (new : D) (other : C) → reopens (inner new) other → reopens (inner new) (inner (outer other))
    reopened new other r = subst (reopens (inner new)) (sym (back other)) r

    nothing_new : (old new : D) → ((other : D) → reopens (inner new) (inner other) → reopens (inner old) (inner other)) → (other : C)
        → reopens (inner new) other → reopens (inner old) other
    nothing_new old new h other r = subst (reopens (inner old)) (back other) (h (outer other) (reopened new other r))

    fronts_within : (serves : C → Type 0) (b : Incoming Q) (begun : SubscriberValue D) (old new : D)
        → LeavesFronts (λ q. gives (reader q)) (λ q. begins (reader q)) (λ q. failed (reader q)) (λ d. holds (inner d))
        (λ d. place (inner d)) (λ d e. reopens (inner d) (inner e)) (λ d. serves (inner d)) b begun old new
        → LeavesFronts gives begins failed holds place reopens serves (incoming_within reader b) (within begun) (inner old) (inner new)
    fronts_within serves b begun old new leaves other r =
        elim (leaves (outer other) (reopened new other r)) [
          | inl was ↦ inl (subst (reopens (inner old)) (back other) was.0, was.1)
          | inr fed ↦ inr (
            fed.0,
            subst (λ (c : C). place (inner new) ≤ place c) (back other) fed.1,
            (within fed.2.0, ap inner fed.2.1 ∙ back other, feeds_within b begun fed.2.0 (Some fault.Memory) fed.2.2),
          )
        ]

    pub left_within : (serves : C → Type 0) (limits : Limits) (b : Option (Version × Incoming Q)) (old new : D)
        → MayBeLeft (λ q. gives (reader q)) (λ q. begins (reader q)) (λ q. failed (reader q)) (λ d. holds (inner d)) (λ d. place (inner d))
        (λ d e. reopens (inner d) (inner e)) (λ d. serves (inner d)) limits b old new
        → MayBeLeft gives begins failed holds place reopens serves limits (input_within reader b) (inner old) (inner new)
    left_within serves limits None old new h = nothing_new old new h
    left_within serves limits (Some (version, b)) old new h = (within h.0, (ap inner h.1.0, h.1.1), fronts_within serves b h.0 old new h.2)

    safely_within : (new : SubscriberValue D) (history : _) (other : C)
        → IsLeftSafely (λ d. holds (inner d)) (λ d. place (inner d)) history new (outer other)
        → IsLeftSafely holds place history (within new) other
    safely_within new history other left =
        subst (IsLeftSafely holds place history (within new)) (back other)
        (record { tables = left.tables; held = left.held; same = left.same; position = left.position; stored = left.stored })

    history_within : (b : Incoming Q) (old new : SubscriberValue D)
        → LeavesIncomingHistory (λ q. gives (reader q)) (λ q. begins (reader q)) (λ q. failed (reader q)) (λ d. holds (inner d))
        (λ d. place (inner d)) (λ d e. reopens (inner d) (inner e)) b old new
        → LeavesIncomingHistory gives begins failed holds place reopens (incoming_within reader b) (within old) (within new)
    history_within (Sessions xs) old new h =
        λ history all_complete tables is sent other r.
        safely_within new history other (h history all_complete tables is sent (outer other) (reopened new.applied.store other r))
    history_within (Raw q) old new h = λ history bytes all_complete tables from is sent other again.
        safely_within new history other
        (h history bytes all_complete tables (record { all = from.all; first = from.first }) is sent (outer other)
        (reopened new.applied.store other again))

    pub loses_within : (limits : Limits) (b : Option (Version × Incoming Q)) (old new : D)
        → LosesNothing (λ q. gives (reader q)) (λ q. begins (reader q)) (λ q. failed (reader q)) (λ d. holds (inner d))
        (λ d. place (inner d)) (λ d e. reopens (inner d) (inner e)) limits b old new
        → LosesNothing gives begins failed holds place reopens limits (input_within reader b) (inner old) (inner new)
    loses_within limits None old new h = nothing_new old new h
    loses_within limits (Some (version, b)) old new (begun, ended, over, is, stands, leaves) = (
      within begun,
      within ended,
      (ap inner over.0, over.1),
      ap inner is,
      (stands.0, (within stands.1.0, kept_within stands.1.0 ended stands.1.1, feeds_within b begun stands.1.0 stands.0 stands.1.2)),
      history_within b begun ended leaves,
    )
