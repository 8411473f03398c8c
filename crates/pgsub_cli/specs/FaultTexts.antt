-- The line of a fault on standard error: the kind of the fault, its number and its name, and what
-- belongs to it.
use Rattle.std.specs.Prelude.{ℕ, List, [], ◌∷◌, ◌++◌, codes, decimal}
use Rattle.pgwire.specs.declared.fault.WireFault.{WireFault}
use Rattle.pgwire.specs.declared.fault.WireFault.TheVariants as wire
use Rattle.pgtuple.specs.declared.fault.TupleFault.{TupleFault}
use Rattle.pgtuple.specs.declared.fault.TupleFault.TheVariants as tuple
use Rattle.pglogical.specs.declared.fault.Reason.{Reason}
use Rattle.pglogical.specs.declared.fault.Reason.TheVariants as reason
use Rattle.pgorder.specs.declared.fault.OrderFault.{OrderFault}
use Rattle.pgorder.specs.declared.fault.OrderFault.TheVariants as order
use Rattle.pgrel.specs.declared.fault.RelFault.{RelFault}
use Rattle.pgrel.specs.declared.fault.RelFault.TheVariants as relation
use Rattle.pgspool.specs.declared.fault.SpoolFault.{SpoolFault}
use Rattle.pgspool.specs.declared.fault.SpoolFault.TheVariants as spool
use Rattle.pgapply.specs.declared.fault.StoreFault.{StoreFault}
use Rattle.pgapply.specs.declared.fault.StoreFault.TheVariants as store
use Rattle.pgsub_core.specs.declared.fault.Fault.{Fault}
use Rattle.pgsub_core.specs.declared.fault.Fault.TheVariants as fault
use Rattle.pgsub_core.specs.declared.converging.Side.TheVariants.{Left, Right}
use Rattle.pgsub_cli.specs.declared.fault.RunFault.{RunFault}
use Rattle.pgsub_cli.specs.declared.fault.RunFault.TheVariants as run

abbrev pub memory_text : List ℕ
memory_text = codes "memory"

-- the byte stands in decimal
abbrev pub wire_text : WireFault → List ℕ
wire_text (wire.UnknownFrame byte) = codes "wire 1 UnknownFrame " ++ decimal byte
wire_text wire.BadLength = codes "wire 2 BadLength"
wire_text wire.TooLarge = codes "wire 3 TooLarge"
wire_text wire.AfterDone = codes "wire 4 AfterDone"
wire_text (wire.UnknownServerMessage byte) = codes "wire 5 UnknownServerMessage " ++ decimal byte
wire_text wire.Short = codes "wire 6 Short"
wire_text wire.Trailing = codes "wire 7 Trailing"
wire_text wire.BadReplyByte = codes "wire 8 BadReplyByte"
wire_text wire.Memory = memory_text

-- the place in the body, counted in bytes from 0
abbrev pub at_text : ℕ → List ℕ
at_text place = codes " at " ++ decimal place

abbrev pub tuple_text : TupleFault → ℕ → List ℕ
tuple_text (tuple.Short _) place = codes "decode 8 Tuple 1 Short" ++ at_text place
tuple_text (tuple.BadKind _) place = codes "decode 8 Tuple 2 BadKind" ++ at_text place
tuple_text (tuple.BadLength _) place = codes "decode 8 Tuple 3 BadLength" ++ at_text place
tuple_text (tuple.NotUtf8 _) place = codes "decode 8 Tuple 4 NotUtf8" ++ at_text place
tuple_text (tuple.TooManyColumns _) place = codes "decode 8 Tuple 5 TooManyColumns" ++ at_text place
tuple_text tuple.Memory place = memory_text

abbrev pub reason_text : Reason → ℕ → List ℕ
reason_text reason.UnknownMessage place = codes "decode 1 UnknownMessage" ++ at_text place
reason_text reason.Short place = codes "decode 2 Short" ++ at_text place
reason_text reason.Trailing place = codes "decode 3 Trailing" ++ at_text place
reason_text reason.BadFlag place = codes "decode 4 BadFlag" ++ at_text place
reason_text reason.BadLetter place = codes "decode 5 BadLetter" ++ at_text place
reason_text reason.NotUtf8 place = codes "decode 6 NotUtf8" ++ at_text place
reason_text reason.BadCount place = codes "decode 7 BadCount" ++ at_text place
reason_text (reason.Tuple inner) place = tuple_text inner place
reason_text reason.Memory place = memory_text

abbrev pub order_text : OrderFault → List ℕ
order_text order.OutsideTransaction = codes "order 1 OutsideTransaction"
order_text order.NestedBegin = codes "order 2 NestedBegin"
order_text order.CommitWithoutBegin = codes "order 3 CommitWithoutBegin"
order_text order.CommitLsnDiffers = codes "order 4 CommitLsnDiffers"
order_text order.NestedStart = codes "order 5 NestedStart"
order_text order.StopWithoutStart = codes "order 6 StopWithoutStart"
order_text order.FirstFlagOnOpen = codes "order 7 FirstFlagOnOpen"
order_text order.LaterFlagOnUnknown = codes "order 8 LaterFlagOnUnknown"
order_text order.CommitOfUnknown = codes "order 9 CommitOfUnknown"
order_text order.StreamInVersion1 = codes "order 10 StreamInVersion1"
order_text order.CommitMisplaced = codes "order 11 CommitMisplaced"
order_text order.AbortMisplaced = codes "order 12 AbortMisplaced"
order_text order.Memory = memory_text

-- the OID of a relation that no message has described stands behind
abbrev pub relation_text : RelFault → List ℕ
relation_text relation.Width = codes "relation 1 Width"
relation_text relation.UnknownIdentity = codes "relation 2 UnknownIdentity"
relation_text relation.UnchangedInInsert = codes "relation 3 UnchangedInInsert"
relation_text relation.NoIdentity = codes "relation 4 NoIdentity"
relation_text (relation.UnknownRelation oid) = codes "relation 5 UnknownRelation " ++ decimal oid
relation_text relation.Memory = memory_text

abbrev pub spool_text : SpoolFault → List ℕ
spool_text spool.SpoolFull = codes "spool 1 SpoolFull"
spool_text spool.Memory = memory_text
spool_text spool.NotWritten = codes "spool 3 NotWritten"
spool_text spool.NoRoom = codes "spool 4 NoRoom"
spool_text spool.NotRead = codes "spool 5 NotRead"
spool_text spool.TooManyOpen = codes "spool 6 TooManyOpen"

abbrev pub store_text : StoreFault → List ℕ
store_text store.Clash = codes "store 1 Clash"
store_text store.NoIdentity = codes "store 2 NoIdentity"
store_text store.UnknownIdentity = codes "store 3 UnknownIdentity"
store_text store.UnchangedInInsert = codes "store 4 UnchangedInInsert"
store_text store.Width = codes "store 5 Width"
store_text store.TooManyCopies = codes "store 7 TooManyCopies"
store_text store.Refused = codes "store 8 Refused"
store_text store.NotAStore = codes "store 10 NotAStore"
store_text store.Memory = memory_text

-- a fault of following
abbrev pub fault_text : Fault → List ℕ
fault_text (fault.Wire f) = wire_text f
fault_text (fault.Decode f) = reason_text f.reason f.place
fault_text (fault.Order f) = order_text f
fault_text (fault.Relation f) = relation_text f
fault_text (fault.Spool f) = spool_text f
fault_text (fault.Store f) = store_text f
fault_text fault.Read = codes "read"
fault_text fault.Closed = codes "closed"
fault_text fault.Memory = memory_text

-- what a run that stopped says behind the program's name: lines are counted from 1, and a file is
-- named by its path
abbrev pub stop_text : RunFault → List ℕ → List ℕ → List ℕ
stop_text (run.Stream f) left right = fault_text f
stop_text (run.OfSide Left f) left right = codes "left: " ++ fault_text f
stop_text (run.OfSide Right f) left right = codes "right: " ++ fault_text f
stop_text (run.NotHexadecimal line) left right = codes "capture line " ++ (decimal line ++ codes ": not hexadecimal")
stop_text run.TooLong left right = codes "capture too long"
stop_text (run.CannotRead Left) left right = codes "cannot read " ++ left
stop_text (run.CannotRead Right) left right = codes "cannot read " ++ right
stop_text run.CannotWrite left right = codes "cannot write"
stop_text run.NotAnLsn left right = codes "not an LSN"

-- the whole line, with its line feed
abbrev pub stop_line : RunFault → List ℕ → List ℕ → List ℕ
stop_line f left right = codes "pgsub: " ++ (stop_text f left right ++ 10 ∷ [])

-- where memory runs out
abbrev pub memory_line : List ℕ
memory_line = codes "pgsub: memory" ++ 10 ∷ []
