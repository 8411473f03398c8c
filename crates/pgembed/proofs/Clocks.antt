-- What is said of a clock is said of an equal one.
use Rattle.std.proofs.Common.{◌≡◌, ℤ, ℕ, List, Bool, subst}
use Rattle.pgapply.specs.Value.{Tables}
use Rattle.pgsub_core.specs.declared.fault.Fault.{Fault}
use Rattle.pgsub_core.specs.Subscriber.SubscriberValue.{SubscriberValue, seen, Feeds, FeedsUntil}
use Rattle.pgsub_core.specs.Subscriber.Subscribed.{with_status}

module _ {C : Type 0} (holds : C → Tables → Type 0) (place : C → ℕ) (old new : SubscriberValue C) (piece : List ℕ) {a b : ℤ}
    (same : a ≡ b) where
  pub fed_at : Feeds holds place a old piece new → Feeds holds place b old piece new
  fed_at = subst (λ (z : ℤ). Feeds holds place z old piece new) same

  pub refused_at : (fault : Fault) → FeedsUntil holds place a old piece new fault → FeedsUntil holds place b old piece new fault
  refused_at fault = subst (λ (z : ℤ). FeedsUntil holds place z old piece new fault) same

abbrev pub HasAppended : {C : Type 0} → (C → ℕ) → ℤ → Bool → SubscriberValue C → SubscriberValue C → Type 0
HasAppended place now ask old new = (tables : Tables) → seen place new tables ≡ with_status now ask (seen place old tables)

pub asked_at : {C : Type 0} (place : C → ℕ) (ask : Bool) (old new : SubscriberValue C) {a b : ℤ} → a ≡ b → HasAppended place a ask old new
    → HasAppended place b ask old new
asked_at place ask old new same = subst (λ (z : ℤ). HasAppended place z ask old new) same
