-- What is said of each call that stages, where it does nothing to its store.
use Rattle.std.proofs.Common.{ℕ, Result, Ok, Err, IfErr, refl}
use Rattle.pgapply.specs.Value.{Tables}
use Rattle.pgsub_core.specs.declared.fault.Fault.{Fault}
use Rattle.pgsub_core.specs.Machine.Faults.{IsOfFeedingOver}
use Rattle.pgsub_core.specs.Calls.Staging.{Steps}
use Rattle.pgsub_core.proofs.Marks.{rests_same}

module _ {C M : Type 0} (holds : C → Tables → Type 0) (place : C → ℕ) (reopens : C → C → Type 0) (serves is_honest : C → Type 0)
    (reach : C → ℕ) (counts stages_counts : C → M) (may_fail : Type 0) where
  pub steps_none : {T : Type 0} (r : Result T Fault) (a : C) → IfErr r (IsOfFeedingOver may_fail)
      → Steps holds place reopens serves is_honest reach counts stages_counts may_fail r a a
  steps_none (Ok t) a own = record {
    rests = rests_same holds place reopens serves is_honest a a refl;
    served = λ serves. serves;
    serves_on = λ honest serves. serves;
    honest = λ honest. honest;
    counted = refl;
    uncounted = tt;
    unstaged = tt;
    own = tt;
  }
  steps_none (Err f) a own = record {
    rests = rests_same holds place reopens serves is_honest a a refl;
    served = λ serves. serves;
    serves_on = λ honest serves. tt;
    honest = λ honest. honest;
    counted = refl;
    uncounted = refl;
    unstaged = refl;
    own = own;
  }
