-- The faults of spools over a file are those of spools that may fail.
use Rattle.std.proofs.Common.{◌≡◌, Result, Ok, Err, subst}
use Rattle.std.specs.Prelude.{IfErr}
use Rattle.pgspool.specs.declared.fault.SpoolFault.{SpoolFault}
use Rattle.pgspool.specs.declared.fault.SpoolFault.TheVariants as spool
use Rattle.pgspool.specs.Failures.{IsOfKeeping, IsFailure}
use Rattle.pgfilespools.specs.Faults.{IsOfOpening, IsOfPushing, IsOfReading}

pub of_pushing : {A : Type 0} (r : Result A SpoolFault) → IfErr r IsOfPushing → IfErr r (IsOfKeeping (Unit {0}))
of_pushing (Ok a) is = tt
of_pushing (Err spool.SpoolFull) is = tt
of_pushing (Err spool.Memory) is = tt
of_pushing (Err spool.NotWritten) is = tt
of_pushing (Err spool.NoRoom) is = tt
of_pushing (Err spool.NotRead) is = is
of_pushing (Err spool.TooManyOpen) is = tt

pub of_reading : {A : Type 0} (r : Result A SpoolFault) → IfErr r IsOfReading → IfErr r (IsFailure (Unit {0}))
of_reading (Ok a) is = tt
of_reading (Err spool.SpoolFull) is = is
of_reading (Err spool.Memory) is = tt
of_reading (Err spool.NotWritten) is = tt
of_reading (Err spool.NoRoom) is = tt
of_reading (Err spool.NotRead) is = tt
of_reading (Err spool.TooManyOpen) is = is

pub of_opening : {A : Type 0} (r : Result A SpoolFault) → IfErr r IsOfOpening → IfErr r (IsOfKeeping (Unit {0}))
of_opening (Ok a) is = tt
of_opening (Err spool.SpoolFull) is = tt
of_opening (Err spool.Memory) is = tt
of_opening (Err spool.NotWritten) is = tt
of_opening (Err spool.NoRoom) is = tt
of_opening (Err spool.NotRead) is = is
of_opening (Err spool.TooManyOpen) is = tt

-- to open a transaction never costs too many bytes
pub never_full : {A : Type 0} (r : Result A SpoolFault) → IfErr r IsOfOpening → r ≡ Err spool.SpoolFull → ⊥
never_full r is full = subst (λ (it : Result _ SpoolFault). IfErr it IsOfOpening) full is
