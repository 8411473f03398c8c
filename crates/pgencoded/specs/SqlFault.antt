-- What an error of SQL is told as, one of the trees, and a fault of reading rows.
use Rattle.std.specs.Prelude.{◌≡◌, ◌≢◌, ◌⊎◌}
use Rattle.sqlite.specs.declared.error.Error.{Error}
use Rattle.sqlite.specs.declared.error.Error.TheVariants.{SqliteFailure}
use Rattle.sqlite.specs.declared.error.ErrorCode.TheVariants.{OutOfMemory}
use Rattle.sqlite_trees.specs.declared.error.StoreError.{StoreError}
use Rattle.sqlite_trees.specs.declared.error.StoreError.TheVariants as tree
use Rattle.pgrows.specs.declared.fault.ReadFault.{ReadFault}
use Rattle.pgrows.specs.declared.fault.ReadFault.TheVariants.{Store, Malformed}
use Rattle.pgapply.specs.declared.fault.StoreFault.{StoreFault}
use Rattle.pgapply.specs.declared.fault.StoreFault.TheVariants.{Refused, NotAStore, Memory}
use Rattle.pgapply.specs.Stored.{IsOwnFault}

-- out of memory is told from each other cause
abbrev pub IsFaultOf : Error → StoreFault → Type 0
IsFaultOf error fault = ((error ≡ SqliteFailure OutOfMemory) × (fault ≡ Memory)) ⊎ ((error ≢ SqliteFailure OutOfMemory) × (fault ≡ Refused))

abbrev pub IsTreeFaultOf : StoreError → StoreFault → Type 0
IsTreeFaultOf error fault = ((error ≡ tree.OutOfMemory) × (fault ≡ Memory)) ⊎ ((error ≢ tree.OutOfMemory) × (fault ≡ Refused))

abbrev pub IsReadFaultOf : ReadFault → StoreFault → Type 0
IsReadFaultOf (Store error) fault = IsTreeFaultOf error fault
IsReadFaultOf Malformed fault = fault ≡ NotAStore

-- why nothing is read of tables: a fault of the store's own, or no store has written them
abbrev pub IsRefusal : StoreFault → Type 0
IsRefusal fault = IsOwnFault fault ⊎ (fault ≡ NotAStore)
