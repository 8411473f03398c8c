-- The exit status of following a server: 0 the stream ended, 1 it is rejected, 3 the file is no
-- store, 10 the spools are full, 11 a frame is too large, 12 the store can't be opened, 13 it or
-- the spools failed, 14 memory ran out, 15 standard input or output failed, 16 the stream ended and
-- changes found no row.
use Rattle.std.specs.Prelude.{ℕ, Option, None, Some, nat_lt, if◌then◌else◌}
use Rattle.pgwire.specs.declared.fault.WireFault.TheVariants as wire
use Rattle.pgspool.specs.declared.fault.SpoolFault.TheVariants as spool
use Rattle.pgapply.specs.declared.fault.StoreFault.{StoreFault}
use Rattle.pgapply.specs.declared.fault.StoreFault.TheVariants as store
use Rattle.pgsub_core.specs.declared.fault.Fault.{Fault}
use Rattle.pgsub_core.specs.declared.fault.Fault.TheVariants as fault
use Rattle.pgfollow.specs.declared.fault.FollowFault.{FollowFault}
use Rattle.pgfollow.specs.declared.fault.FollowFault.TheVariants as follow

-- of a store that is open: what a commit asks of it is the stream's fault, and the rest its own
abbrev pub status_of_store : StoreFault → ℕ
status_of_store store.Clash = 1
status_of_store store.NoIdentity = 1
status_of_store store.UnknownIdentity = 1
status_of_store store.UnchangedInInsert = 1
status_of_store store.Width = 1
status_of_store store.TooManyCopies = 1
status_of_store store.Refused = 13
status_of_store store.NotAStore = 13
status_of_store store.Memory = 14

abbrev pub status_of_fault : Fault → ℕ
status_of_fault (fault.Wire wire.TooLarge) = 11
status_of_fault (fault.Wire wire.Memory) = 14
status_of_fault (fault.Wire _) = 1
status_of_fault (fault.Decode f) = 1
status_of_fault (fault.Order f) = 1
status_of_fault (fault.Relation f) = 1
status_of_fault (fault.Spool spool.SpoolFull) = 10
status_of_fault (fault.Spool spool.Memory) = 14
status_of_fault (fault.Spool spool.NotWritten) = 13
status_of_fault (fault.Spool spool.NoRoom) = 13
status_of_fault (fault.Spool spool.NotRead) = 13
status_of_fault (fault.Spool spool.TooManyOpen) = 10
status_of_fault (fault.Store f) = status_of_store f
status_of_fault fault.Read = 15
status_of_fault fault.Closed = 1
status_of_fault fault.Memory = 14

-- by how many changes found no row, and what ended the following
abbrev pub status_of_follow : ℕ → Option FollowFault → ℕ
status_of_follow missed None = if nat_lt 0 missed then 16 else 0
status_of_follow missed (Some follow.Read) = 15
status_of_follow missed (Some follow.Write) = 15
status_of_follow missed (Some (follow.Stream f)) = status_of_fault f

-- where the store couldn't be opened
abbrev pub status_of_unfollowed : StoreFault → ℕ
status_of_unfollowed store.NotAStore = 3
status_of_unfollowed store.Memory = 14
status_of_unfollowed _ = 12
