-- Logical Streaming Replication Protocol: what a session's messages do to what is kept of it, and
-- which transactions commit.
use Rattle.std.specs.Prelude.{◌≡◌, ℕ, ℤ, Bool, true, false, Option, Some, None, Result, Ok}
use Rattle.std.specs.Prelude.{Err, pos, nat_lt, length, if◌then◌else◌}
use Rattle.pglogical.specs.declared.message.Item.{Item}
use Rattle.pglogical.specs.declared.message.Item.TheVariants as item
use Rattle.pglogical.specs.declared.message.Message.{Message}
use Rattle.pglogical.specs.declared.message.Message.TheVariants as message
use Rattle.pglogical.specs.Spelling.{item_spelling}
use Rattle.pgorder.specs.declared.Version.{Version}
use Rattle.pgorder.specs.declared.Event.{Event}
use Rattle.pgorder.specs.declared.Event.TheVariants as event
use Rattle.pgorder.specs.declared.fault.OrderFault.{OrderFault}
use Rattle.pgorder.specs.Steps.{StepResult, initial_order, order_step}
use Rattle.pgorder.specs.States.{is_in_block}
use Rattle.pgrepeats.specs.declared.digest.Change.{Change}
use Rattle.pgrepeats.specs.declared.digest.Digest.{Digest}
use Rattle.pgrepeats.specs.Digests.{change_of}
use Rattle.pgcompared.specs.declared.finding.Lost.{Lost}
use Rattle.pgcompared.specs.declared.finding.Lost.TheVariants as lost
use Rattle.pgcompared.specs.declared.session.Ended.{Ended}
use Rattle.pgcompared.specs.declared.session.Ended.TheVariants as ended
use Rattle.pgcompared.specs.declared.session.Session.{Session}
use Rattle.pgcompared.specs.Streams.{Opened, closed, digest_at, none_opened, with_block}
use Rattle.pgcompared.specs.Streams.{with_block_item, with_cut, with_item, without_block}

-- an item changes something: a Truncate of no table doesn't
abbrev pub is_change : Item → Bool
is_change (item.Relation def) = false
is_change (item.Insert oid row) = true
is_change (item.Update oid prior row) = true
is_change (item.Delete oid kind row) = true
is_change (item.Truncate options oids) = nat_lt 0 (length oids)

-- the change that an item is, as it is encoded outside blocks
abbrev pub change_in : Item → Option Change
change_in i = if is_change i then Some (change_of (item_spelling None i)) else None

-- an item of the pair, or of the block under a label
abbrev pub with_held : ℕ → Message → Opened → Opened
with_held label (message.Item None i) o = record o { pair = with_item o.pair (change_in i) }
with_held label (message.Item (Some xid) i) o = with_block_item label (change_in i) o
with_held label m o = o

-- what is open after a message with this event
abbrev pub opened_by : Message → Event → Opened → Opened
opened_by m event.Ignore o = o
opened_by m (event.Begin xid) o = record o { pair = record { changes = 0; crc = 0 } }
opened_by m (event.Hold top label) o = with_held label m o
opened_by m (event.Open xid) o = with_block xid o
opened_by m (event.Reopen xid) o = with_block xid o
opened_by m event.Close o = without_block o
opened_by m (event.Cut xid label) o = with_cut xid label o
opened_by m (event.Drop xid) o = closed xid o
opened_by m (event.CommitPair xid lsn end) o = o
opened_by m (event.CommitStream xid lsn end) o = closed xid o

-- when a transaction was committed
abbrev pub time_of : Message → ℤ
time_of (message.Commit lsn end time) = time
time_of (message.StreamCommit xid lsn end time) = time
time_of m = pos 0

abbrev pub ended_as : Message → ℕ → ℕ → ℕ → Option Digest → Ended
ended_as m xid lsn end None = ended.Over end
ended_as m xid lsn end (Some digest) = ended.Whole (record { end = end; lsn = lsn; xid = xid; time = time_of m; digest = digest })

-- the transaction that commits with a message with this event, if one does
abbrev pub ended_by : Message → Event → Opened → Option Ended
ended_by m (event.CommitPair xid lsn end) o = Some (ended_as m xid lsn end (Some o.pair))
ended_by m (event.CommitStream xid lsn end) o = Some (ended_as m xid lsn end (digest_at xid o))
ended_by m e o = None

abbrev pub at_start : Version → ℕ → Session
at_start v limit = record { order = record { version = v; state = initial_order }; opened = none_opened limit }

abbrev pub in_block_of : Session → Bool
in_block_of s = is_in_block s.order.state.context

-- the session after a message, and the transaction that commits with it, or why it can't come
abbrev pub by_order : Session → Message → StepResult → Result (Session × Option Ended) OrderFault
by_order s m (Ok stepped) = Ok (
  record { order = record { version = s.order.version; state = stepped.0 }; opened = opened_by m stepped.1 s.opened },
  ended_by m stepped.1 s.opened,
)
by_order s m (Err fault) = Err fault

abbrev pub hear : Session → Message → Result (Session × Option Ended) OrderFault
hear s m = by_order s m (order_step s.order.version s.order.state m)

abbrev pub Hears : Session → Message → Session → Result (Option Ended) Lost → Type 0
Hears s m new (Ok e) = hear s m ≡ Ok (new, e)
Hears s m new (Err (lost.Disordered fault)) = hear s m ≡ Err fault
Hears s m new (Err lost.Memory) = Unit {0}
Hears s m new (Err (lost.Unframed fault)) = ⊥
Hears s m new (Err (lost.Unsaid fault)) = ⊥
Hears s m new (Err (lost.Undecoded fault)) = ⊥
