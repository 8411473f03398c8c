-- Which faults a call returns.
use Rattle.pgspool.specs.declared.fault.SpoolFault.{SpoolFault}
use Rattle.pgspool.specs.declared.fault.SpoolFault.TheVariants as spool
use Rattle.pgspill.specs.declared.fault.SpillFault.{SpillFault}
use Rattle.pgspill.specs.declared.fault.SpillFault.TheVariants as spill

-- where a transaction is opened
abbrev pub IsOfOpening : SpoolFault → Type 0
IsOfOpening spool.SpoolFull = ⊥
IsOfOpening spool.Memory = Unit {0}
IsOfOpening spool.NotWritten = ⊥
IsOfOpening spool.NoRoom = ⊥
IsOfOpening spool.NotRead = ⊥
IsOfOpening spool.TooManyOpen = Unit {0}

-- where bytes go to a file
abbrev pub IsOfWriting : SpoolFault → Type 0
IsOfWriting spool.SpoolFull = ⊥
IsOfWriting spool.Memory = Unit {0}
IsOfWriting spool.NotWritten = Unit {0}
IsOfWriting spool.NoRoom = Unit {0}
IsOfWriting spool.NotRead = ⊥
IsOfWriting spool.TooManyOpen = ⊥

-- where they are read back
abbrev pub IsOfReading : SpoolFault → Type 0
IsOfReading spool.SpoolFull = ⊥
IsOfReading spool.Memory = Unit {0}
IsOfReading spool.NotWritten = ⊥
IsOfReading spool.NoRoom = ⊥
IsOfReading spool.NotRead = Unit {0}
IsOfReading spool.TooManyOpen = ⊥

-- what a fault of the bytes is to the items
abbrev pub told : SpillFault → SpoolFault
told spill.NotWritten = spool.NotWritten
told spill.NotRead = spool.NotRead
told spill.NoRoom = spool.NoRoom
told spill.Memory = spool.Memory

-- where an item is held
abbrev pub IsOfPushing : SpoolFault → Type 0
IsOfPushing spool.SpoolFull = Unit {0}
IsOfPushing spool.Memory = Unit {0}
IsOfPushing spool.NotWritten = Unit {0}
IsOfPushing spool.NoRoom = Unit {0}
IsOfPushing spool.NotRead = ⊥
IsOfPushing spool.TooManyOpen = ⊥
