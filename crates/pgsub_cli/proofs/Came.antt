-- What is said of what came.
use Rattle.std.proofs.Common.{ℕ, List, [], ◌∷◌, Option, Result, Ok, Err, IfOk, ◌≡◌, refl}
use Rattle.std.specs.Result.{result_err}
use Rattle.pgsub_core.specs.declared.fault.Fault.{Fault}
use Rattle.pgsub_core.specs.Subscriber.Handled.{fault_in}
use Rattle.pgsub_core.specs.Subscriber.Subscribed.{bytes_of}
use Rattle.pgsub_cli.specs.declared.storing.Incoming.{Incoming}
use Rattle.pgsub_cli.specs.declared.storing.Incoming.TheVariants.{Sessions, Raw}
use Rattle.pgsub_cli.specs.Runs.{ForSessions, fault_of_feeding}

pub fault_is : {A : Type 0} (r : Result A Fault) → fault_in r ≡ result_err r
fault_is (Ok done) = refl
fault_is (Err f) = refl

pub if_ok : {T E : Type 0} (r : Result T E) (P Q : T → Type 0) → IfOk r P → ((x : T) → P x → Q x) → IfOk r Q
if_ok (Ok x) P Q h go = go x h
if_ok (Err e) P Q h go = tt

pub if_both : {T E : Type 0} (r : Result T E) (P Q W : T → Type 0) → IfOk r P → IfOk r Q → ((x : T) → P x → Q x → W x) → IfOk r W
if_both (Ok x) P Q W h k go = go x h k
if_both (Err e) P Q W h k go = tt

-- more is said of it
pub for_sessions : {R : Type 0} (gives begins : R → List ℕ → Type 0) (failed : R → Type 0) (incoming : Incoming R) (stopped : Option Fault)
    (P Q : List (List ℕ) → Option Fault → Type 0)
    → ((sessions : List (List ℕ)) (f : Option Fault) → P sessions f → Q sessions f) → ForSessions gives begins failed incoming stopped P
    → ForSessions gives begins failed incoming stopped Q
for_sessions gives begins failed (Sessions sessions) stopped P Q more h = more (bytes_of sessions.items) stopped h
for_sessions gives begins failed (Raw file) stopped P Q more h = (h.0, h.1, more (h.0 ∷ []) (fault_of_feeding stopped) h.2)
