-- The statuses that parts of any bytes are told by, one part after the other.
use Rattle.std.proofs.Common.{◌≡◌, ◌∙◌, ◌++◌, ℕ, ℤ, List, [], ◌∷◌, Bool, true, false, refl, sym}
use Rattle.std.proofs.Common.{ap, subst, arith}
use Rattle.std.specs.FinMap as map
use Rattle.pgapply.specs.Tallies.{Tally}
use Rattle.pgapply.specs.Value.{Tables}
use Rattle.pgsub_core.specs.Subscriber.Subscribed.{Subscribed}
use Rattle.pgsub_core.specs.Subscriber.SubscriberValue.{SubscriberValue, seen, Feeds}
use Rattle.pgsub_core.specs.Machine.Feeding.{IsFedWhole}
use Rattle.pgfollow.specs.Live.{Step, IsStep, AreSteps, due, news, settled, told_of, told_in}
use Rattle.pgfollow.specs.Told.{AreRising, TellsRising}
use Rattle.pgfollow.proofs.Rising.{rising_join, none_rise, fed_rises, news_rise}

settled_replies : (ends : Bool) (s : Subscribed) → (settled ends s).replies ≡ []
settled_replies false s = refl
settled_replies true s = refl

settled_confirmed : (ends : Bool) (s : Subscribed) → (settled ends s).confirmed ≡ s.confirmed
settled_confirmed false s = refl
settled_confirmed true s = refl

module _ {C : Type 0} (holds : C → Tables → Type 0) (place : C → ℕ) (reopens : C → C → Type 0) (serves : C → Type 0)
    (count : C → Tally) where
  pub after_replies : (old : SubscriberValue C) (step : Step C) → IsStep holds place reopens serves count old step
      → step.after.applied.replies ≡ []
  after_replies old step is =
      ap (λ (x : Subscribed). x.replies) (is.state map.empty) ∙ settled_replies step.ends (seen place step.fed map.empty)

  pub after_confirmed : (old : SubscriberValue C) (step : Step C) → IsStep holds place reopens serves count old step
      → step.after.applied.confirmed ≡ step.fed.applied.confirmed
  after_confirmed old step is =
      ap (λ (x : Subscribed). x.confirmed) (is.state map.empty) ∙ settled_confirmed step.ends (seen place step.fed map.empty)

  pub part_rises : (now : ℤ) (old fed : SubscriberValue C) (part : List ℕ) (tables tables' : Tables) → old.applied.replies ≡ []
      → IsFedWhole now (seen place old tables) part (seen place fed tables')
      → AreRising old.applied.confirmed (due now old fed) fed.applied.confirmed
  part_rises now old fed part tables tables' none whole =
      rising_join old.applied.confirmed fed.applied.confirmed fed.applied.confirmed fed.applied.replies (news now old.applied.confirmed fed)
      (fed_rises now (seen place old tables) (seen place fed tables') part none whole) (news_rise now old.applied.confirmed fed)

  pub steps_rise : (steps : List (Step C)) (old mid : SubscriberValue C) → old.applied.replies ≡ []
      → AreSteps holds place reopens serves count old steps mid → TellsRising holds place reopens old steps mid
  steps_rise [] old mid none are tables h =
      subst (λ (s : SubscriberValue C). AreRising old.applied.confirmed [] s.applied.confirmed) (sym are)
      (none_rise old.applied.confirmed old.applied.confirmed (omega arith))
  steps_rise (step ∷ steps) old mid none are tables h =
      let one = are.0.is_fed.feeds tables h in
      let first = part_rises step.now old step.fed step.part tables one.0 none one.2.1 in
      let rest = steps_rise steps step.after mid (after_replies old step are.0) are.1 one.0
      (subst (λ (x : C). holds x one.0) (sym are.0.store) one.1) in
      rising_join old.applied.confirmed step.fed.applied.confirmed mid.applied.confirmed (told_of old step) (told_in step.after steps) first
      (subst (λ n. AreRising n (told_in step.after steps) mid.applied.confirmed) (after_confirmed old step are.0) rest)

  -- behind them nothing waits,
  steps_quiet : (steps : List (Step C)) (old mid : SubscriberValue C) → old.applied.replies ≡ []
      → AreSteps holds place reopens serves count old steps mid → mid.applied.replies ≡ []
  steps_quiet [] old mid none are = ap (λ (s : SubscriberValue C). s.applied.replies) are ∙ none
  steps_quiet (step ∷ steps) old mid none are = steps_quiet steps step.after mid (after_replies old step are.0) are.1

  -- and the store holds some tables
  steps_hold : (steps : List (Step C)) (old mid : SubscriberValue C) (tables : Tables) → holds old.applied.store tables
      → AreSteps holds place reopens serves count old steps mid → (tables' : Tables) × holds mid.applied.store tables'
  steps_hold [] old mid tables h are = (tables, subst (λ (s : SubscriberValue C). holds s.applied.store tables) (sym are) h)
  steps_hold (step ∷ steps) old mid tables h are =
      let one = are.0.is_fed.feeds tables h in
      steps_hold steps step.after mid one.0 (subst (λ (x : C). holds x one.0) (sym are.0.store) one.1) are.1

  -- with what is to be told of a part more
  pub last_rises : (steps : List (Step C)) (old mid fed : SubscriberValue C) (now : ℤ) (part : List ℕ) → old.applied.replies ≡ []
      → AreSteps holds place reopens serves count old steps mid → Feeds holds place now mid part fed
      → (tables : Tables) → holds old.applied.store tables
      → AreRising old.applied.confirmed (told_in old steps ++ due now mid fed) fed.applied.confirmed
  last_rises steps old mid fed now part none are feeds tables h =
      let held = steps_hold steps old mid tables h are in
      let one = feeds held.0 held.1 in
      rising_join old.applied.confirmed mid.applied.confirmed fed.applied.confirmed (told_in old steps) (due now mid fed)
      (steps_rise steps old mid none are tables h)
      (part_rises now mid fed part held.0 one.0 (steps_quiet steps old mid none are) one.2.1)
