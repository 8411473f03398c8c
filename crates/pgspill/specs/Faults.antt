-- Which faults a call returns.
use Rattle.std.specs.Prelude.{◌≡◌, ◌⊎◌}
use Rattle.pgspill.specs.declared.fault.SpillFault.{SpillFault}
use Rattle.pgspill.specs.declared.fault.SpillFault.TheVariants.{NotWritten, NotRead, NoRoom, Memory}

abbrev pub IsOutOfMemory : SpillFault → Type 0
IsOutOfMemory fault = fault ≡ Memory

abbrev pub IsWriteFault : SpillFault → Type 0
IsWriteFault fault = (fault ≡ NotWritten) ⊎ ((fault ≡ NoRoom) ⊎ (fault ≡ Memory))

abbrev pub IsReadFault : SpillFault → Type 0
IsReadFault fault = (fault ≡ NotRead) ⊎ (fault ≡ Memory)
