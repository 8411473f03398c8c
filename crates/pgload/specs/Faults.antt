-- Which faults a load has.
use Rattle.std.specs.Prelude.{⊤, ℕ}
use Rattle.pgcopy.specs.declared.fault.CopyFault.{CopyFault}
use Rattle.pgcopy.specs.declared.fault.CopyFault.TheVariants as copy
use Rattle.pgwire.specs.declared.fault.WireFault.{WireFault}
use Rattle.pgwire.specs.declared.fault.WireFault.TheVariants as wire
use Rattle.pgapply.specs.declared.fault.StoreFault.{StoreFault}
use Rattle.pgapply.specs.declared.fault.StoreFault.TheVariants as store
use Rattle.pgload.specs.declared.fault.LoadFault.{LoadFault}
use Rattle.pgload.specs.declared.fault.LoadFault.TheVariants.{Line, Marker, CutLine, Order}
use Rattle.pgload.specs.declared.fault.LoadFault.TheVariants.{TooManyBatches, BadPoint, NotNew}
use Rattle.pgload.specs.declared.fault.LoadFault.TheVariants.{Store, BadInput, Wire, Memory}

abbrev pub fault_of_store : StoreFault → LoadFault
fault_of_store store.Clash = Store store.Clash
fault_of_store store.NoIdentity = Store store.NoIdentity
fault_of_store store.UnknownIdentity = Store store.UnknownIdentity
fault_of_store store.UnchangedInInsert = Store store.UnchangedInInsert
fault_of_store store.Width = Store store.Width
fault_of_store store.TooManyCopies = Store store.TooManyCopies
fault_of_store store.Refused = Store store.Refused
fault_of_store store.NotAStore = Store store.NotAStore
fault_of_store store.Memory = Memory

abbrev pub fault_of_wire : WireFault → LoadFault
fault_of_wire (wire.UnknownFrame byte) = Wire (wire.UnknownFrame byte)
fault_of_wire wire.BadLength = Wire wire.BadLength
fault_of_wire wire.TooLarge = Wire wire.TooLarge
fault_of_wire wire.AfterDone = Wire wire.AfterDone
fault_of_wire (wire.UnknownServerMessage byte) = Wire (wire.UnknownServerMessage byte)
fault_of_wire wire.Short = Wire wire.Short
fault_of_wire wire.Trailing = Wire wire.Trailing
fault_of_wire wire.BadReplyByte = Wire wire.BadReplyByte
fault_of_wire wire.Memory = Memory

-- what is wrong with a line of the table with this OID
abbrev pub text_fault : ℕ → CopyFault → LoadFault
text_fault oid (copy.Line number reason) = Line oid number reason
text_fault oid copy.Memory = Memory

-- Where rows are stored: the store's, of which this is so; no position is left for them; or memory.
abbrev pub IsStoreFault : LoadFault → Type 0 → (StoreFault → Type 0) → Type 0
IsStoreFault (Store fault) Full is = is fault
IsStoreFault TooManyBatches Full is = Full
IsStoreFault Memory Full is = ⊤
IsStoreFault (Line oid number reason) Full is = ⊥
IsStoreFault (Marker oid) Full is = ⊥
IsStoreFault (CutLine oid) Full is = ⊥
IsStoreFault Order Full is = ⊥
IsStoreFault BadPoint Full is = ⊥
IsStoreFault NotNew Full is = ⊥
IsStoreFault BadInput Full is = ⊥
IsStoreFault (Wire fault) Full is = ⊥
