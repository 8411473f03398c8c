-- Part of the statement.
-- What is passed on of a session in whole transactions while a table is added. PostgreSQL
-- documentation, Logical Decoding Concepts, Exported Snapshots.
use Rattle.std.specs.Prelude.{ℕ, List, [], ◌∷◌, ◌++◌, Bool, false, Option, Some, None, nat_le, map}
use Rattle.std.specs.Prelude.{if◌then◌else◌}
use Rattle.pglogical.specs.declared.message.Message.{Message}
use Rattle.pglogical.specs.declared.message.Message.TheVariants as message
use Rattle.pgsub_core.specs.Server.Stream.{Sent, Data, Keepalive}
use Rattle.pgadding.specs.LeftOut.{item_without}
use Rattle.pgadding.specs.Addition.{Addition, rows_sent}

-- Below, a place is the final LSN of the transaction that has begun, and None between transactions.

abbrev pub place_behind : Message → Option ℕ → Option ℕ
place_behind (message.Begin lsn time xid) place = Some lsn
place_behind (message.Commit lsn end time) place = None
place_behind _ place = place

abbrev pub place_after : Option ℕ → List Sent → Option ℕ
place_after place [] = place
place_after place (Data start end clock m ∷ sent) = place_after (place_behind m place) sent
place_after place (Keepalive end clock reply ∷ sent) = place_after place sent

-- A message is at the point or after it: a Begin with a final LSN of the point or above, or a
-- keepalive between transactions with such an end.
abbrev pub message_is_behind : ℕ → Message → Bool
message_is_behind point (message.Begin lsn time xid) = nat_le point lsn
message_is_behind point _ = false

abbrev pub is_behind : ℕ → Option ℕ → Sent → Bool
is_behind point place (Data start end clock m) = message_is_behind point m
is_behind point None (Keepalive end clock reply) = nat_le point end
is_behind point (Some lsn) (Keepalive end clock reply) = false

abbrev pub messages_without : ℕ → Message → List Message
messages_without oid (message.Item xid item) = map (message.Item xid) (item_without oid item)
messages_without oid (message.Begin lsn time xid) = message.Begin lsn time xid ∷ []
messages_without oid (message.Commit lsn end time) = message.Commit lsn end time ∷ []
messages_without oid (message.Origin lsn name) = message.Origin lsn name ∷ []
messages_without oid (message.TypeName xid type_oid namespace name) =
    message.TypeName xid type_oid namespace name ∷ []
messages_without oid (message.Logical xid transactional lsn prefix content) =
    message.Logical xid transactional lsn prefix content ∷ []
messages_without oid (message.StreamStart xid first) = message.StreamStart xid first ∷ []
messages_without oid message.StreamStop = message.StreamStop ∷ []
messages_without oid (message.StreamCommit xid lsn end time) =
    message.StreamCommit xid lsn end time ∷ []
messages_without oid (message.StreamAbort xid label) = message.StreamAbort xid label ∷ []

-- What is passed on of a message that comes before the point: not the table's changes, and no
-- keepalive that tells of the point or more from within a transaction.
abbrev pub passed : ℕ → ℕ → Option ℕ → Sent → List Sent
passed point oid place (Data start end clock m) =
    map (Data start end clock) (messages_without oid m)
passed point oid None (Keepalive end clock reply) = Keepalive end clock reply ∷ []
passed point oid (Some lsn) (Keepalive end clock reply) =
    if nat_le point end then [] else Keepalive end clock reply ∷ []

abbrev pub place_of : Sent → Option ℕ → Option ℕ
place_of (Data start end clock m) place = place_behind m place
place_of (Keepalive end clock reply) place = place

-- The rows' transaction comes before the first message at the point or after it. From there on
-- all is passed on.
abbrev pub passing : Addition → Option ℕ → List Sent → List Sent
passing a place [] = []
passing a place (m ∷ sent) =
    if is_behind a.point place m
    then rows_sent a ++ m ∷ sent
    else passed a.point a.definition.oid place m ++ passing a (place_of m place) sent

-- what is passed on of a session that starts at s: all of it where the rows are stored
abbrev pub passed_on : Addition → ℕ → List Sent → List Sent
passed_on a s sent = if nat_le a.point s then sent else passing a None sent

-- what of a session comes before the rows, and what at the point or after it
abbrev pub before_rows : ℕ → Option ℕ → List Sent → List Sent
before_rows point place [] = []
before_rows point place (m ∷ sent) =
    if is_behind point place m then [] else m ∷ before_rows point (place_of m place) sent

abbrev pub behind_rows : ℕ → Option ℕ → List Sent → List Sent
behind_rows point place [] = []
behind_rows point place (m ∷ sent) =
    if is_behind point place m then m ∷ sent else behind_rows point (place_of m place) sent
