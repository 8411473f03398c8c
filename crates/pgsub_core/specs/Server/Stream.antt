-- Part of the statement. PostgreSQL documentation, Streaming Replication Protocol and Logical
-- Streaming Replication Protocol: what a server sends in one session, and which transactions are
-- committed in it.
use Rattle.std.specs.Prelude.{ℕ, ℤ, List, [], ◌∷◌, ◌++◌, Bool, true, false, ◌&&◌, ◌==◌, Option}
use Rattle.std.specs.Prelude.{Some, None, if◌then◌else◌, unwrap_or}
use Rattle.pglogical.specs.declared.message.Item.{Item}
use Rattle.pglogical.specs.declared.message.Message.{Message}
use Rattle.pglogical.specs.declared.message.Message.TheVariants as message
use Rattle.pgsub_core.specs.Server.Streamed.{StreamedItem, Change, SubtransactionAbort}

-- XLogData with its message, or a keepalive
pub data Sent : Type 0 where
  Data : (start end : ℕ) (clock : ℤ) (message : Message) → Sent
  Keepalive : (end : ℕ) (clock : ℤ) (reply : Bool) → Sent

-- the logical messages
abbrev pub messages_in : List Sent → List Message
messages_in [] = []
messages_in (Data start end clock m ∷ sent) = m ∷ messages_in sent
messages_in (Keepalive end clock reply ∷ sent) = messages_in sent

-- what a message means for pairs, blocks and what is held
pub data Kind : Type 0 where
  BeginsPair : (xid : ℕ) → Kind
  CommitsPair : (lsn end : ℕ) (time : ℤ) → Kind
  Holds : (subxid : Option ℕ) (item : Item) → Kind
  StartsBlock : (xid : ℕ) (first : Bool) → Kind
  StopsBlock : Kind
  CommitsStream : (xid lsn end : ℕ) (time : ℤ) → Kind
  AbortsStream : (xid subxid : ℕ) → Kind
  ChangesNothing : Kind

abbrev pub kind : Message → Kind
kind (message.Begin lsn time xid) = BeginsPair xid
kind (message.Commit lsn end time) = CommitsPair lsn end time
kind (message.Origin lsn name) = ChangesNothing
kind (message.TypeName xid oid namespace name) = ChangesNothing
kind (message.Logical xid transactional lsn prefix content) = ChangesNothing
kind (message.Item subxid item) = Holds subxid item
kind (message.StreamStart xid first) = StartsBlock xid first
kind message.StreamStop = StopsBlock
kind (message.StreamCommit xid lsn end time) = CommitsStream xid lsn end time
kind (message.StreamAbort xid subxid) = AbortsStream xid subxid

-- Below, the messages before a place stand with the last of them first.

abbrev pub pair_behind : Kind → Option ℕ → Option ℕ
pair_behind (BeginsPair xid) pair = Some xid
pair_behind (CommitsPair lsn end time) pair = None
pair_behind _ pair = pair

-- the xid of the pair in which they end
abbrev pub pair_of : List Message → Option ℕ
pair_of [] = None
pair_of (m ∷ before) = pair_behind (kind m) (pair_of before)

abbrev pub block_behind : Kind → Option ℕ → Option ℕ
block_behind (StartsBlock xid first) block = Some xid
block_behind StopsBlock block = None
block_behind _ block = block

-- the xid of the block in which they end
abbrev pub block_of : List Message → Option ℕ
block_of [] = None
block_of (m ∷ before) = block_behind (kind m) (block_of before)

abbrev pub pair_items_behind : Kind → List Item → List Item
pair_items_behind (BeginsPair xid) items = []
pair_items_behind (Holds subxid item) items = items ++ item ∷ []
pair_items_behind _ items = items

-- the items since the last Begin
abbrev pub pair_items : List Message → List Item
pair_items [] = []
pair_items (m ∷ before) = pair_items_behind (kind m) (pair_items before)

abbrev pub is_block : ℕ → Option ℕ → Bool
is_block xid None = false
is_block xid (Some x) = x == xid

abbrev pub with_item : Bool → ℕ → Item → List StreamedItem → List StreamedItem
with_item true subxid item streamed = streamed ++ Change subxid item ∷ []
with_item false subxid item streamed = streamed

abbrev pub streamed_behind : ℕ → Option ℕ → Kind → List StreamedItem → List StreamedItem
streamed_behind xid block (StartsBlock x true) streamed = if x == xid then [] else streamed
streamed_behind xid block (StartsBlock x false) streamed = streamed
streamed_behind xid block (AbortsStream x subxid) streamed = if x == xid then streamed ++ SubtransactionAbort subxid ∷ [] else streamed
streamed_behind xid block (Holds subxid item) streamed = with_item (is_block xid block) (unwrap_or subxid xid) item streamed
streamed_behind xid block _ streamed = streamed

-- the items of the xid's blocks and the aborts of the xid, since its last block with flag 1
abbrev pub streamed_since_first_segment : ℕ → List Message → List StreamedItem
streamed_since_first_segment xid [] = []
streamed_since_first_segment xid (m ∷ before) = streamed_behind xid (block_of before) (kind m) (streamed_since_first_segment xid before)

-- a transaction whose commit has come: between Begin and Commit with its items, or in stream blocks
-- with what was streamed
pub data Completed : Type 0 where
  WholeCommit : (xid lsn end : ℕ) (time : ℤ) (items : List Item) → Completed
  StreamedCommit : (xid lsn end : ℕ) (time : ℤ) (streamed : List StreamedItem) → Completed

abbrev pub end_of : Completed → ℕ
end_of (WholeCommit xid lsn end time items) = end
end_of (StreamedCommit xid lsn end time streamed) = end

-- what moves a subscriber: a commit, or the end of a keepalive, which is quiet outside pairs and
-- blocks
pub data CommitOrKeepalive : Type 0 where
  Committed : (completed : Completed) → CommitOrKeepalive
  KeepaliveEnd : (end : ℕ) (quiet : Bool) → CommitOrKeepalive

abbrev pub pair_commit : Option ℕ → ℕ → ℕ → ℤ → List Item → List CommitOrKeepalive
pair_commit None lsn end time items = []
pair_commit (Some xid) lsn end time items = Committed (WholeCommit xid lsn end time items) ∷ []

abbrev pub commits_at : List Message → Kind → List CommitOrKeepalive
commits_at before (CommitsPair lsn end time) = pair_commit (pair_of before) lsn end time (pair_items before)
commits_at before (CommitsStream xid lsn end time) =
    Committed (StreamedCommit xid lsn end time (streamed_since_first_segment xid before)) ∷ []
commits_at before _ = []

abbrev pub commits_of : List Message → Message → List CommitOrKeepalive
commits_of before m = commits_at before (kind m)

abbrev pub is_absent : Option ℕ → Bool
is_absent None = true
is_absent (Some x) = false

abbrev pub is_quiet : List Message → Bool
is_quiet before = is_absent (pair_of before) && is_absent (block_of before)

abbrev pub commits_and_keepalives : List Message → List Sent → List CommitOrKeepalive
commits_and_keepalives before [] = []
commits_and_keepalives before (Data start end clock m ∷ sent) = commits_of before m ++ commits_and_keepalives (m ∷ before) sent
commits_and_keepalives before (Keepalive end clock reply ∷ sent) = KeepaliveEnd end (is_quiet before) ∷ commits_and_keepalives before sent
