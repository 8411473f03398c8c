-- Lines that are written, and what they are said to be.
use Rattle.std.proofs.Common.{◌≡◌, ℕ, List, Option, Result, Ok, Err, IfOk, IfErr, inl, inr, sym}
use Rattle.std.proofs.Common.{subst, string_bytes, None, Some}
use Rattle.pgsub_core.specs.declared.fault.Fault.{Fault}
use Rattle.pgwire.specs.declared.session.Session.{Session}
use Rattle.pgsub_cli.specs.declared.fault.Ending.{Ending}
use Rattle.pgsub_cli.specs.declared.fault.Ending.TheVariants.{Done, Differs}
use Rattle.pgsub_cli.specs.declared.fault.RunFault.{RunFault}
use Rattle.pgsub_cli.specs.declared.fault.RunFault.TheVariants as run
use Rattle.pgsub_cli.specs.declared.printed.Printed.{Printed}
use Rattle.pgsub_cli.specs.Recorded.{Records}
use Rattle.pgsub_cli.specs.Runs.{IsPrinted, IsLost, Writes, Prints}

pub printed_is : (made : Result Printed Fault) (prints : Option Fault → List ℕ → Type 0)
    → IfOk made (λ p. prints p.stopped (string_bytes p.lines))
    → (stopped : Option Fault) (lines : List ℕ) → IsPrinted made stopped lines → prints stopped lines
printed_is made prints all stopped lines (p, is, stopped_is, lines_are) =
    let held : prints p.stopped (string_bytes p.lines) =
    subst (λ (m : Result Printed Fault). IfOk m (λ q. prints q.stopped (string_bytes q.lines))) is all in
    subst (λ (l : List ℕ). prints stopped l) (sym lines_are) (subst (λ (s : Option Fault). prints s (string_bytes p.lines)) stopped_is held)

pub lost_is : (made : Result Printed Fault) (lost : Fault → Type 0) → IfErr made lost → (f : Fault) → IsLost made f → lost f
lost_is made lost all f is = subst (λ (m : Result Printed Fault). IfErr m lost) is all

module _ {W : Type 0} (takes : W → List ℕ → W → Type 0) (failed : W → Type 0) (made : Result Printed Fault) (lost : Fault → Type 0)
    (prints : Option Fault → List ℕ → Type 0)
    (is : IfOk made (λ p. prints p.stopped (string_bytes p.lines))) (loses : IfErr made lost) (old new : W) where
  pub writes_as : (ended : Result Ending RunFault) → Writes takes failed (IsLost made) (IsPrinted made) old new ended
      → Writes takes failed lost prints old new ended
  writes_as (Ok Done) (lines, printed, wrote) = (lines, printed_is made prints is None lines printed, wrote)
  writes_as (Ok Differs) h = h
  writes_as (Err (run.Stream f)) (inl (gone, same)) = inl (lost_is made lost loses f gone, same)
  writes_as (Err (run.Stream f)) (inr (lines, printed, wrote)) = inr (lines, printed_is made prints is (Some f) lines printed, wrote)
  writes_as (Err f) h = h

-- the lines of the sessions that were read
pub prints_sessions : {R W : Type 0} (gives begins : R → List ℕ → Type 0) (read_failed : R → Type 0) (takes : W → List ℕ → W → Type 0)
    (write_failed : W → Type 0) (lost : Fault → Type 0)
    (prints : List Session → Option Fault → List ℕ → Type 0) (file : Option R) (old new : W) (ended : Result Ending RunFault)
    (made : Result Printed Fault) (sessions given : List Session)
    → given ≡ sessions → Records gives file sessions → IfOk made (λ p. prints given p.stopped (string_bytes p.lines)) → IfErr made lost
    → Writes takes write_failed (IsLost made) (IsPrinted made) old new ended
    → Prints gives begins read_failed takes write_failed lost prints file old new ended
prints_sessions gives begins read_failed takes write_failed lost prints file old new ended made sessions given same records is loses wrote =
    let said : IfOk made (λ p. prints sessions p.stopped (string_bytes p.lines)) =
    subst (λ (ss : List Session). IfOk made (λ p. prints ss p.stopped (string_bytes p.lines))) same is in
    inr (sessions, records, writes_as takes write_failed made lost (prints sessions) said loses old new ended wrote)
