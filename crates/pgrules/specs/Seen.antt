-- What came of a session.
use Rattle.std.specs.Prelude.{List, [], ◌∷◌, true, false, ◌||◌, ◌&&◌}
use Rattle.pglogical.specs.declared.message.Item.{Item}
use Rattle.pglogical.specs.declared.message.Item.TheVariants as item
use Rattle.pglogical.specs.declared.message.Message.{Message}
use Rattle.pglogical.specs.declared.message.Message.TheVariants as message
use Rattle.pgsub_core.specs.Server.Stream.{Sent, Data, Keepalive}
use Rattle.pgrules.specs.declared.seen.Seen.{Seen}

abbrev pub nothing_seen : Seen
nothing_seen = record { messages = false; keepalives = false; changes = false; streamed = false; commits = false; told = false }

abbrev pub with_keepalive : Seen → Seen
with_keepalive s = record s { keepalives = true }

abbrev pub with_item : Seen → Item → Seen
with_item s (item.Relation def) = s
with_item s (item.Insert oid row) = record s { changes = true }
with_item s (item.Update oid prior row) = record s { changes = true }
with_item s (item.Delete oid kind row) = record s { changes = true }
with_item s (item.Truncate options oids) = record s { changes = true }

abbrev pub with_commit : Seen → Seen
with_commit s = record s { commits = s.commits || s.changes; told = s.told || (s.changes && s.keepalives) }

-- what is seen with a logical message
abbrev pub with_data : Seen → Message → Seen
with_data s (message.Begin lsn time xid) = s
with_data s (message.Commit lsn end time) = with_commit s
with_data s (message.Origin lsn name) = s
with_data s (message.TypeName xid oid namespace name) = s
with_data s (message.Logical xid transactional lsn prefix content) = s
with_data s (message.Item xid i) = with_item s i
with_data s (message.StreamStart xid first) = s
with_data s message.StreamStop = s
with_data s (message.StreamCommit xid lsn end time) = record (with_commit s) { streamed = true }
with_data s (message.StreamAbort xid label) = s

abbrev pub with_message : Seen → Message → Seen
with_message s m = with_data (record s { messages = true }) m

abbrev pub with_sent : Seen → Sent → Seen
with_sent s (Data start end clock m) = with_message s m
with_sent s (Keepalive end clock reply) = with_keepalive s

-- what is seen of all that came, one after the other
abbrev pub seen_after : Seen → List Sent → Seen
seen_after s [] = s
seen_after s (x ∷ xs) = seen_after (with_sent s x) xs
