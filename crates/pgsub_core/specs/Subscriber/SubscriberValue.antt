-- A subscriber as its contracts see it: what takes its messages, and what is known of its frames.
use Rattle.std.specs.Prelude.{◌≡◌, ℕ, ℤ, List, Bool, Some, None, refl}
use Rattle.std.specs.Coded.{Coded, code_by, coded×, coded_ℕ, coded_bool, coded_list}
use Rattle.pgwire.specs.Deframed.{Deframed, Waits}
use Rattle.pgapply.specs.Value.{Tables}
use Rattle.pgsub_core.specs.declared.fault.Fault.{Fault}
use Rattle.pgsub_core.specs.Subscriber.Subscribed.{Subscribed}
use Rattle.pgsub_core.specs.Machine.Feeding.{IsFed}
use Rattle.pgsub_core.specs.Machine.Opened.{AreOpened}
use Rattle.pgsub_core.specs.Subscriber.Applied.{Applied, Framing, applied_code, subscribed}

pub record SubscriberValue (C : Type 0) : Type 0 where
  pub applied : Applied C
  pub framing : Framing

abbrev pub framing_code : Coded Framing
framing_code = code_by (ℕ × (Bool × (List ℕ × Bool))) (coded× coded_ℕ (coded× coded_bool (coded× (coded_list coded_ℕ) coded_bool)))
    (λ f. (f.max_frame, (f.closed, (f.partial, f.copy_done))))
    (λ p. record { max_frame = p.0; closed = p.1.0; partial = p.1.1.0; copy_done = p.1.1.1 }) (λ _. refl)

abbrev pub subscriber_code : {C : Type 0} → Coded C → Coded (SubscriberValue C)
subscriber_code {C} store =
    code_by (Applied C × Framing) (coded× (applied_code store) framing_code) (λ s. (s.applied, s.framing))
    (λ p. record { applied = p.0; framing = p.1 }) (λ _. refl)

-- with these tables in its store
abbrev pub seen : {C : Type 0} → (C → ℕ) → SubscriberValue C → Tables → Subscribed
seen place s tables = subscribed place s.framing s.applied tables

-- While nothing has closed it, less than a frame is held, and items of the transactions that are
-- under way.
pub record IsReady {C : Type 0} (d : Deframed) (a : Applied C) : Type 0 where
  pub waits : Waits d
  pub sound : d.fault ≡ None
  pub opened : AreOpened a.order a.held

-- whatever tables the store held, it holds others, with which the piece was fed
abbrev pub Feeds : {C : Type 0} → (C → Tables → Type 0) → (C → ℕ) → ℤ → SubscriberValue C → List ℕ → SubscriberValue C → Type 0
Feeds holds place now old piece new =
    (tables : Tables) → holds old.applied.store tables
    → (tables' : Tables) × holds new.applied.store tables' × IsFed now (seen place old tables) piece (seen place new tables') None

-- it was fed up to the first fault, or is closed by an earlier one
abbrev pub FeedsUntil : {C : Type 0} → (C → Tables → Type 0) → (C → ℕ) → ℤ → SubscriberValue C → List ℕ → SubscriberValue C → Fault → Type 0
FeedsUntil holds place now old piece new f =
    (tables : Tables) → holds old.applied.store tables
    → (tables' : Tables) × holds new.applied.store tables' × IsFed now (seen place old tables) piece (seen place new tables') (Some f)
