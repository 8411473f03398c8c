-- With which fault a file isn't made that the changes of open transactions go to.
use Rattle.pgspool.specs.declared.fault.SpoolFault.{SpoolFault}
use Rattle.pgspool.specs.declared.fault.SpoolFault.TheVariants as spool

abbrev pub IsOfMaking : SpoolFault → Type 0
IsOfMaking spool.SpoolFull = ⊥
IsOfMaking spool.Memory = Unit {0}
IsOfMaking spool.NotWritten = Unit {0}
IsOfMaking spool.NoRoom = Unit {0}
IsOfMaking spool.NotRead = ⊥
IsOfMaking spool.TooManyOpen = ⊥
