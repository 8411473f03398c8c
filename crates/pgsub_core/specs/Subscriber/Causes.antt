-- Part of the statement. From where a fault comes: what has to be shown of the messages or bytes
-- that come next where a call returns it.
use Rattle.pgorder.specs.declared.fault.OrderFault.{OrderFault}
use Rattle.pgorder.specs.declared.fault.OrderFault.TheVariants as order
use Rattle.pgrel.specs.declared.fault.RelFault.{RelFault}
use Rattle.pgrel.specs.declared.fault.RelFault.TheVariants as rel
use Rattle.pgspool.specs.declared.fault.SpoolFault.{SpoolFault}
use Rattle.pgspool.specs.declared.fault.SpoolFault.TheVariants as spool
use Rattle.pgapply.specs.declared.fault.StoreFault.{StoreFault}
use Rattle.pgapply.specs.declared.fault.StoreFault.TheVariants as store
use Rattle.pgwire.specs.declared.fault.WireFault.{WireFault}
use Rattle.pgwire.specs.declared.fault.WireFault.TheVariants as wire_fault
use Rattle.pgsub_core.specs.declared.fault.Fault.{Fault}
use Rattle.pgsub_core.specs.declared.fault.Fault.TheVariants as fault

-- Memory can run out anywhere. What spools keep elsewhere than in memory can fail to be written or
-- read. The store can refuse a statement of a commit that is sound. A header can tell of a payload
-- that is too long, and something that no session holds can come. All other faults are those of the
-- next message or frame.
pub data Cause : Type 0 where
  OutOfMemory : Cause
  SpoolFailed : Cause
  StatementRefused : Cause
  HeaderTooLarge : Cause
  ForeignBytes : Cause
  NextMessage : Cause
  NeverAnswered : Cause

-- Memory can run out anywhere; in any part it is answered as Memory, never as that part's fault.
abbrev pub wire_cause : WireFault → Cause
wire_cause wire_fault.TooLarge = HeaderTooLarge
wire_cause (wire_fault.UnknownFrame byte) = ForeignBytes
wire_cause wire_fault.AfterDone = ForeignBytes
wire_cause wire_fault.BadLength = NextMessage
wire_cause (wire_fault.UnknownServerMessage byte) = NextMessage
wire_cause wire_fault.Short = NextMessage
wire_cause wire_fault.Trailing = NextMessage
wire_cause wire_fault.BadReplyByte = NextMessage
wire_cause wire_fault.Memory = NeverAnswered

abbrev pub order_cause : OrderFault → Cause
order_cause order.OutsideTransaction = NextMessage
order_cause order.NestedBegin = NextMessage
order_cause order.CommitWithoutBegin = NextMessage
order_cause order.CommitLsnDiffers = NextMessage
order_cause order.NestedStart = NextMessage
order_cause order.StopWithoutStart = NextMessage
order_cause order.FirstFlagOnOpen = NextMessage
order_cause order.LaterFlagOnUnknown = NextMessage
order_cause order.CommitOfUnknown = NextMessage
order_cause order.StreamInVersion1 = NextMessage
order_cause order.CommitMisplaced = NextMessage
order_cause order.AbortMisplaced = NextMessage
order_cause order.Memory = NeverAnswered

-- of the faults of relations only an unknown one is the subscriber's
abbrev pub relation_cause : RelFault → Cause
relation_cause (rel.UnknownRelation oid) = NextMessage
relation_cause rel.Width = NeverAnswered
relation_cause rel.UnknownIdentity = NeverAnswered
relation_cause rel.UnchangedInInsert = NeverAnswered
relation_cause rel.NoIdentity = NeverAnswered
relation_cause rel.Memory = NeverAnswered

-- of what stays in memory only SpoolFull is answered (see IsOfFeedingOver)
abbrev pub spool_cause : SpoolFault → Cause
spool_cause spool.SpoolFull = NextMessage
spool_cause spool.Memory = NeverAnswered
spool_cause spool.NotWritten = SpoolFailed
spool_cause spool.NoRoom = SpoolFailed
spool_cause spool.NotRead = SpoolFailed
spool_cause spool.TooManyOpen = SpoolFailed

-- Only opening a store answers NotAStore, unless the changes themselves had it.
abbrev pub store_cause : StoreFault → Cause
store_cause store.Clash = NextMessage
store_cause store.NoIdentity = NextMessage
store_cause store.UnknownIdentity = NextMessage
store_cause store.UnchangedInInsert = NextMessage
store_cause store.Width = NextMessage
store_cause store.TooManyCopies = NextMessage
store_cause store.Refused = StatementRefused
store_cause store.NotAStore = NextMessage
store_cause store.Memory = NeverAnswered

-- Read is the fault of a reader, and Closed changes nothing.
abbrev pub cause : Fault → Cause
cause (fault.Wire k) = wire_cause k
cause (fault.Decode k) = NextMessage
cause (fault.Order k) = order_cause k
cause (fault.Relation k) = relation_cause k
cause (fault.Spool k) = spool_cause k
cause (fault.Store k) = store_cause k
cause fault.Read = NeverAnswered
cause fault.Closed = NeverAnswered
cause fault.Memory = OutOfMemory
