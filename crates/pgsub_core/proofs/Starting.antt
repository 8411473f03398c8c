-- From a disconnection on.
use Rattle.std.proofs.Common.{◌≡◌, ◌++◌, ℕ, ℤ, List, Bool, true, false, Some, refl, sym, ap, subst}
use Rattle.std.proofs.Common.{◌∙◌, arith}
use Rattle.std.specs.Prelude.{is_some}
use Rattle.std.specs.Ordering.{nat_cmp}
use Rattle.std.specs.FinMap as map
use Rattle.std.specs.FinMap.{get-empty}
use Rattle.pgorder.specs.OpenXids.{is_open-none_open}
use Rattle.pgorder.specs.Steps.{initial_order}
use Rattle.pgwire.specs.Deframed.{Deframed, Waits, fresh}
use Rattle.pgsub_core.specs.Machine.Opened.{AreOpened}
use Rattle.pgsub_core.specs.Subscriber.Applied.{Applied}
use Rattle.pgapply.specs.Value.{Tables}
use Rattle.pgsub_core.specs.Calls.Framing.{framing_of, FeedGoes, FeedStops}
use Rattle.pgsub_core.specs.Subscriber.SubscriberValue.{SubscriberValue, seen, IsReady, Feeds}
use Rattle.pgsub_core.specs.Subscriber.SubscriberValue.{FeedsUntil}
use Rattle.pgsub_core.specs.Subscriber.Subscribed.{with_status}
use Rattle.pgwire.specs.Statuses.{status_frame}
use Rattle.pgsub_core.specs.declared.fault.Fault.{Fault}
use Rattle.pgsub_core.specs.declared.fault.Fault.TheVariants as fault
use Rattle.pgsub_core.specs.Subscriber.Subscribed.{Subscribed}
use Rattle.pgsub_core.specs.Machine.Feeding.{IsFed, IsFedUntil}

none_opened : AreOpened initial_order map.empty
none_opened = record { each = λ x. ap is_some (get-empty nat_cmp x) ∙ sym (is_open-none_open x); sound = tt }

fresh_waits : (max : ℕ) → Waits (fresh max)
fresh_waits max = record
    { partial = record { tag = λ some. absurd (omega arith); payload = λ long. absurd (omega arith) }; last = λ done. refl }

pub ready_at_first : {C : Type 0} (max : ℕ) (d : Deframed) (a : Applied C) → d ≡ fresh max → a.order ≡ initial_order → a.held ≡ map.empty
    → IsReady d a
ready_at_first max d a is order held = record { waits = rw is (fresh_waits max); sound = rw is refl; opened = rw (order, held) none_opened }

-- what stops a piece is a fault of its own
pub fed_until : (now : ℤ) (old new : Subscribed) (piece : List ℕ) (f : Fault) → old.closed ≡ false → IsFedUntil now old piece new f
    → IsFed now old piece new (Some f)
fed_until now old new piece (fault.Wire k) is until = (is, until)
fed_until now old new piece (fault.Decode k) is until = (is, until)
fed_until now old new piece (fault.Order k) is until = (is, until)
fed_until now old new piece (fault.Relation k) is until = (is, until)
fed_until now old new piece (fault.Spool k) is until = (is, until)
fed_until now old new piece (fault.Store k) is until = (is, until)
fed_until now old new piece fault.Read is until = (is, until)
fed_until now old new piece fault.Closed is until = absurd until.why
fed_until now old new piece fault.Memory is until = (is, until)

-- a piece that was fed to its parts
pub feeds : {C : Type 0} (holds : C → Tables → Type 0) (place : C → ℕ) (now : ℤ) (piece : List ℕ) (d₀ d : Deframed) (a₀ a : Applied C)
    (closed : Bool) (old : SubscriberValue C) → closed ≡ false
    → record { applied = a₀; framing = framing_of d₀ closed } ≡ old → FeedGoes holds place now d₀ a₀ piece d a
    → Feeds holds place now old piece (record { applied = a; framing = framing_of d closed })
feeds {C} holds place now piece d₀ d a₀ a closed old is same fed =
    subst (λ (x : SubscriberValue C). Feeds holds place now x piece (record { applied = a; framing = framing_of d closed })) same
    (λ tables h. let done = fed closed tables h in (done.0, done.1, (is, done.2)))

-- a piece that wasn't taken to its end
pub feeds_until : {C : Type 0} (holds : C → Tables → Type 0) (place : C → ℕ) (now : ℤ) (piece : List ℕ) (d₀ d : Deframed) (a₀ a : Applied C)
    (closed : Bool) (old : SubscriberValue C) (f : Fault) → closed ≡ false → d.max ≡ d₀.max
    → record { applied = a₀; framing = framing_of d₀ closed } ≡ old → FeedStops holds place now d₀ a₀ piece a f
    → FeedsUntil holds place now old piece (record { applied = a; framing = framing_of d true }) f
feeds_until {C} holds place now piece d₀ d a₀ a closed old f is max same stops =
    subst (λ (x : SubscriberValue C). FeedsUntil holds place now x piece (record { applied = a; framing = framing_of d true }) f) same
    (subst (λ (b : Bool). FeedsUntil holds place now (record { applied = a₀; framing = framing_of d₀ b }) piece
    (record { applied = a; framing = framing_of d true }) f) (sym is)
    (λ tables h. let done = stops (framing_of d true) tables refl max h in (done.0, done.1, fed_until now _ _ piece f refl done.2)))

-- a status behind the bytes that wait
pub status_seen : {C : Type 0} (place : C → ℕ) (now clock : ℤ) (ask : Bool) (d : Deframed) (closed : Bool) (a₀ a : Applied C)
    (old : SubscriberValue C) → record { applied = a₀; framing = framing_of d closed } ≡ old → clock ≡ now
    → a ≡ record a₀ {
      replies = a₀.replies
          ++ status_frame (record { written = a₀.received; flushed = a₀.confirmed; applied = a₀.confirmed; clock = clock; ask = ask });
    }
    → (tables : Tables) → seen place (record { applied = a; framing = framing_of d closed }) tables
    ≡ with_status now ask (seen place old tables)
status_seen {C} place now clock ask d closed a₀ a old same at is tables =
    subst (λ (x : SubscriberValue C). seen place (record { applied = a; framing = framing_of d closed }) tables
    ≡ with_status now ask (seen place x tables)) same
    (subst (λ (z : ℤ). seen place (record { applied = a; framing = framing_of d closed }) tables
    ≡ with_status z ask (seen place (record { applied = a₀; framing = framing_of d closed }) tables)) at
    (ap (λ (x : Applied C). seen place (record { applied = x; framing = framing_of d closed }) tables) is))
