-- With which fault spools can answer, where what is held may fail to be written or read back as
-- told, and only so many transactions can be open.
use Rattle.pgspool.specs.declared.fault.SpoolFault.{SpoolFault}
use Rattle.pgspool.specs.declared.fault.SpoolFault.TheVariants as spool

-- opening a transaction or holding an item
abbrev pub IsOfKeeping : Type 0 → SpoolFault → Type 0
IsOfKeeping may_fail spool.SpoolFull = Unit {0}
IsOfKeeping may_fail spool.Memory = Unit {0}
IsOfKeeping may_fail spool.NotWritten = may_fail
IsOfKeeping may_fail spool.NoRoom = may_fail
IsOfKeeping may_fail spool.NotRead = ⊥
IsOfKeeping may_fail spool.TooManyOpen = may_fail

-- what can't fail in memory: cutting a transaction, or loading it
abbrev pub IsFailure : Type 0 → SpoolFault → Type 0
IsFailure may_fail spool.SpoolFull = ⊥
IsFailure may_fail spool.Memory = may_fail
IsFailure may_fail spool.NotWritten = may_fail
IsFailure may_fail spool.NoRoom = may_fail
IsFailure may_fail spool.NotRead = may_fail
IsFailure may_fail spool.TooManyOpen = ⊥
