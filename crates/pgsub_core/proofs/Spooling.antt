-- What spools refuse, as the subscriber's.
use Rattle.std.proofs.Common.{◌≡◌, refl}
use Rattle.pgspool.specs.declared.fault.SpoolFault.{SpoolFault}
use Rattle.pgspool.specs.declared.fault.SpoolFault.TheVariants as spool
use Rattle.pgspool.specs.Failures.{IsOfKeeping, IsFailure}
use Rattle.pgorder.specs.declared.Event.{Event}
use Rattle.pglogical.specs.declared.message.Item.{Item}
use Rattle.pglogical.specs.declared.message.Message.{Message}
use Rattle.std.specs.Prelude.{ℕ, List}
use Rattle.pgsub_core.specs.declared.fault.Fault.{Fault}
use Rattle.pgsub_core.specs.declared.fault.Fault.TheVariants as fault
use Rattle.pgsub_core.specs.Machine.Replica.{Replica}
use Rattle.pgsub_core.specs.Machine.ApplyState.{ApplyState}
use Rattle.pgsub_core.specs.Machine.Faults.{IsOfSpools, IsOfFeeding, IsOfFeedingOver}
use Rattle.pgsub_core.specs.Machine.Faults.{fault_of_spool}
use Rattle.pgsub_core.specs.Subscriber.Causes.{cause}
use Rattle.pgsub_core.specs.Calls.Committing.{StopsAtCommit}
use Rattle.pgsub_core.specs.Calls.Events.{StopsAtEvent}

pub of_keeping : (may_fail : Type 0) (k : SpoolFault) → (k ≡ spool.SpoolFull → ⊥) → IsOfKeeping may_fail k
    → IsOfSpools may_fail (fault_of_spool k)
of_keeping may_fail spool.SpoolFull other h = absurd (other refl)
of_keeping may_fail spool.Memory other h = tt
of_keeping may_fail spool.NotWritten other h = h
of_keeping may_fail spool.NoRoom other h = h
of_keeping may_fail spool.NotRead other h = absurd h
of_keeping may_fail spool.TooManyOpen other h = h

pub of_failure : (may_fail : Type 0) (k : SpoolFault) → IsFailure may_fail k → IsOfSpools may_fail (fault_of_spool k)
of_failure may_fail spool.SpoolFull h = absurd h
of_failure may_fail spool.Memory h = tt
of_failure may_fail spool.NotWritten h = h
of_failure may_fail spool.NoRoom h = h
of_failure may_fail spool.NotRead h = h
of_failure may_fail spool.TooManyOpen h = absurd h

pub feeding_of_spools : (may_fail : Type 0) (f : Fault) → IsOfSpools may_fail f → IsOfFeedingOver may_fail f
feeding_of_spools may_fail fault.Memory h = tt
feeding_of_spools may_fail (fault.Spool spool.SpoolFull) h = tt
feeding_of_spools may_fail (fault.Spool spool.Memory) h = tt
feeding_of_spools may_fail (fault.Spool spool.NotWritten) h = h
feeding_of_spools may_fail (fault.Spool spool.NoRoom) h = h
feeding_of_spools may_fail (fault.Spool spool.NotRead) h = h
feeding_of_spools may_fail (fault.Spool spool.TooManyOpen) h = h
feeding_of_spools may_fail (fault.Wire k) h = absurd h
feeding_of_spools may_fail (fault.Decode k) h = absurd h
feeding_of_spools may_fail (fault.Order k) h = absurd h
feeding_of_spools may_fail (fault.Relation k) h = absurd h
feeding_of_spools may_fail (fault.Store k) h = absurd h
feeding_of_spools may_fail fault.Read h = absurd h
feeding_of_spools may_fail fault.Closed h = absurd h

-- what spools in memory can't refuse, others needn't either
pub feeding_over : (may_fail : Type 0) (f : Fault) → IsOfFeeding f → IsOfFeedingOver may_fail f
feeding_over may_fail fault.Memory h = tt
feeding_over may_fail (fault.Spool spool.SpoolFull) h = tt
feeding_over may_fail (fault.Spool spool.Memory) h = tt
feeding_over may_fail (fault.Spool spool.NotWritten) h = absurd h
feeding_over may_fail (fault.Spool spool.NoRoom) h = absurd h
feeding_over may_fail (fault.Spool spool.NotRead) h = absurd h
feeding_over may_fail (fault.Spool spool.TooManyOpen) h = absurd h
feeding_over may_fail (fault.Wire k) h = tt
feeding_over may_fail (fault.Decode k) h = tt
feeding_over may_fail (fault.Order k) h = tt
feeding_over may_fail (fault.Relation k) h = tt
feeding_over may_fail (fault.Store k) h = tt
feeding_over may_fail fault.Read h = absurd h
feeding_over may_fail fault.Closed h = absurd h

-- where spools refuse, an event stops
pub stops_event : (may_fail : Type 0) (old : ApplyState) (m : Message) (e : Event) (limit : ℕ) (f : Fault) → IsOfSpools may_fail f
    → StopsAtEvent old m e limit f (cause f)
stops_event may_fail old m e limit fault.Memory h = tt
stops_event may_fail old m e limit (fault.Spool spool.SpoolFull) h = absurd h
stops_event may_fail old m e limit (fault.Spool spool.Memory) h = absurd h
stops_event may_fail old m e limit (fault.Spool spool.NotWritten) h = tt
stops_event may_fail old m e limit (fault.Spool spool.NoRoom) h = tt
stops_event may_fail old m e limit (fault.Spool spool.NotRead) h = tt
stops_event may_fail old m e limit (fault.Spool spool.TooManyOpen) h = tt
stops_event may_fail old m e limit (fault.Wire k) h = absurd h
stops_event may_fail old m e limit (fault.Decode k) h = absurd h
stops_event may_fail old m e limit (fault.Order k) h = absurd h
stops_event may_fail old m e limit (fault.Relation k) h = absurd h
stops_event may_fail old m e limit (fault.Store k) h = absurd h
stops_event may_fail old m e limit fault.Read h = absurd h
stops_event may_fail old m e limit fault.Closed h = absurd h

-- and so does a commit
pub stops_commit : (may_fail : Type 0) (old : Replica) (end : ℕ) (items : List Item) (f : Fault) → IsOfSpools may_fail f
    → StopsAtCommit old end items f (cause f)
stops_commit may_fail old end items fault.Memory h = tt
stops_commit may_fail old end items (fault.Spool spool.SpoolFull) h = absurd h
stops_commit may_fail old end items (fault.Spool spool.Memory) h = absurd h
stops_commit may_fail old end items (fault.Spool spool.NotWritten) h = tt
stops_commit may_fail old end items (fault.Spool spool.NoRoom) h = tt
stops_commit may_fail old end items (fault.Spool spool.NotRead) h = tt
stops_commit may_fail old end items (fault.Spool spool.TooManyOpen) h = tt
stops_commit may_fail old end items (fault.Wire k) h = absurd h
stops_commit may_fail old end items (fault.Decode k) h = absurd h
stops_commit may_fail old end items (fault.Order k) h = absurd h
stops_commit may_fail old end items (fault.Relation k) h = absurd h
stops_commit may_fail old end items (fault.Store k) h = absurd h
stops_commit may_fail old end items fault.Read h = absurd h
stops_commit may_fail old end items fault.Closed h = absurd h
