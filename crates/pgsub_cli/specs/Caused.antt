-- What standard error gets of a fault whose cause the store may know.
use Rattle.std.specs.Prelude.{◌≡◌, ◌≢◌, ◌⊎◌, ◌++◌, ◌∷◌, [], List, ℕ, Option, Some, Result, Err}
use Rattle.std.specs.Prelude.{codes}
use Rattle.std.specs.List.{AllByRecursion}
use Rattle.pgapply.specs.declared.fault.StoreFault.TheVariants as store
use Rattle.pgsub_core.specs.declared.fault.Fault.TheVariants as fault
use Rattle.pgsub_cli.specs.declared.fault.Ending.{Ending}
use Rattle.pgsub_cli.specs.declared.fault.RunFault.{RunFault}
use Rattle.pgsub_cli.specs.declared.fault.RunFault.TheVariants as run
use Rattle.pgsub_cli.specs.Runs.{Tells}

abbrev pub cause_line : List ℕ → List ℕ
cause_line cause = codes "pgsub: " ++ (cause ++ 10 ∷ [])

module _ {E : Type 0} (takes : E → List ℕ → E → Type 0) (failed : E → Type 0) where
  -- Where a store refused, one line of why, if that is known. It is left out where memory runs out,
  -- or the cause is no line.
  abbrev pub TellsCause : Result Ending RunFault → Option (List ℕ) → E → E → Type 0
  TellsCause ended known old new =
      (new ≡ old) ⊎ ((ended ≡ Err (run.Stream (fault.Store store.Refused)))
      × (((cause : List ℕ) × (known ≡ Some cause) × AllByRecursion (λ b. b ≢ 10) cause × takes old (cause_line cause) new) ⊎ failed old))

  -- that line, and behind it the one of the fault
  abbrev pub TellsBecause : Option (List ℕ) → Result Ending RunFault → E → E → Type 0
  TellsBecause known ended old new = (between : E) × TellsCause ended known old between × Tells takes failed [] [] ended between new

  -- the same, whatever cause is known
  abbrev pub TellsCaused : Result Ending RunFault → E → E → Type 0
  TellsCaused ended old new = (known : Option (List ℕ)) × TellsBecause known ended old new
