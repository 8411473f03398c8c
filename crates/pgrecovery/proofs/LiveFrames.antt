-- The frames of the worked live run as bytes, and the messages that are read of them. PostgreSQL
-- documentation, Message Formats (CopyData, CopyDone), Streaming Replication Protocol (XLogData,
-- Primary keepalive message) and Logical Replication Message Formats. Their LSNs are small, so that
-- they are easy to read: no server's log begins so low.
use Rattle.std.proofs.Common.{◌≡◌, ◌++◌, [], ◌∷◌, List, ℕ, true, false, refl, pos, Ok}
use Rattle.std.specs.Str.{is_utf8, chars}
use lib.Utf8.{encode}
use Rattle.pgtuple.specs.Reading as tuples
use Rattle.pglogical.specs.Reading.{message_at, message_of, begin_at, commit_at}
use Rattle.pglogical.specs.Reading.{relation_message_at, relation_at, insert_at, update_at}
use Rattle.pglogical.specs.Reading.{prior_at, delete_at, xid_at, number_at, signed_at, byte_at}
use Rattle.pglogical.specs.Reading.{text_at, count_at, bytes_at, counted_columns_at, columns_at}
use Rattle.pglogical.specs.Reading.{column_at, row_at}
use Rattle.pglogical.specs.declared.message.Message.{Message}
use Rattle.pglogical.specs.declared.message.Item.TheVariants as item
use Rattle.pgwire.specs.Payloads.{payload_at}
use Rattle.pgwire.specs.Frames as wire
use Rattle.pgsub_core.proofs.Samples.{alone, begin, commit, delete_t, insert_t, t, update_t}

-- a number below 65536 in eight bytes
abbrev pub short : ℕ → ℕ → List ℕ
short high low = 0 ∷ 0 ∷ 0 ∷ 0 ∷ 0 ∷ 0 ∷ high ∷ low ∷ []

-- XLogData: this LSN as its start and its end, clock 0, and the message
abbrev xlog : List ℕ → List ℕ → List ℕ
xlog lsn body = 119 ∷ (lsn ++ (lsn ++ (short 0 0 ++ body)))

-- CopyData whose length is below 256
abbrev pub framed : ℕ → List ℕ → List ℕ
framed len payload = 100 ∷ 0 ∷ 0 ∷ 0 ∷ len ∷ payload

abbrev pub copy_done : List ℕ
copy_done = 99 ∷ 0 ∷ 0 ∷ 0 ∷ 4 ∷ []

-- Begin of xid 10, whose commit record is at 512
abbrev pub begin_10 : List ℕ
begin_10 = xlog (short 1 224) (66 ∷ (short 2 0 ++ (short 0 0 ++ 0 ∷ 0 ∷ 0 ∷ 10 ∷ [])))

-- Relation: public.t (id integer key, v text)
abbrev pub relation : List ℕ
relation = xlog (short 1 224) (82 ∷ 0 ∷ 0 ∷ 64 ∷ 0 ∷ 112 ∷ 117 ∷ 98 ∷ 108 ∷ 105 ∷ 99 ∷ 0 ∷ 116 ∷ 0 ∷ 100 ∷ 0 ∷ 2
    ∷ 1 ∷ 105 ∷ 100 ∷ 0 ∷ 0 ∷ 0 ∷ 0 ∷ 23 ∷ 255 ∷ 255 ∷ 255 ∷ 255 ∷ 0 ∷ 118 ∷ 0 ∷ 0 ∷ 0 ∷ 0 ∷ 25 ∷ 255 ∷ 255 ∷ 255 ∷ 255 ∷ [])

-- Insert: (1, a)
abbrev pub insert : List ℕ
insert = xlog (short 1 224) (73 ∷ 0 ∷ 0 ∷ 64 ∷ 0 ∷ 78 ∷ 0 ∷ 2 ∷ 116 ∷ 0 ∷ 0 ∷ 0 ∷ 1 ∷ 49 ∷ 116 ∷ 0 ∷ 0 ∷ 0 ∷ 1 ∷ 97 ∷ [])

-- Commit: the record at 512, its end at 560
abbrev pub commit_10 : List ℕ
commit_10 = xlog (short 2 48) (67 ∷ 0 ∷ (short 2 0 ++ (short 2 48 ++ short 0 0)))

-- Begin of xid 11, whose commit record is at 768
abbrev pub begin_11 : List ℕ
begin_11 = xlog (short 2 208) (66 ∷ (short 3 0 ++ (short 0 0 ++ 0 ∷ 0 ∷ 0 ∷ 11 ∷ [])))

-- Update: (1, b)
abbrev pub update : List ℕ
update = xlog (short 2 208) (85 ∷ 0 ∷ 0 ∷ 64 ∷ 0 ∷ 78 ∷ 0 ∷ 2 ∷ 116 ∷ 0 ∷ 0 ∷ 0 ∷ 1 ∷ 49 ∷ 116 ∷ 0 ∷ 0 ∷ 0 ∷ 1 ∷ 98 ∷ [])

-- Delete of the row with key 3
abbrev pub delete : List ℕ
delete = xlog (short 2 232) (68 ∷ 0 ∷ 0 ∷ 64 ∷ 0 ∷ 75 ∷ 0 ∷ 2 ∷ 116 ∷ 0 ∷ 0 ∷ 0 ∷ 1 ∷ 51 ∷ 110 ∷ [])

abbrev pub commit_11 : List ℕ
commit_11 = xlog (short 3 48) (67 ∷ 0 ∷ (short 3 0 ++ (short 3 48 ++ short 0 0)))

-- a keepalive with 896 as its end, which asks for a reply
abbrev pub keepalive : List ℕ
keepalive = 107 ∷ (short 3 128 ++ (short 0 0 ++ 1 ∷ []))

-- ---- what is read of them

-- the payload is XLogData with this LSN, and outside a block its data is this message
pub record Reads (payload : List ℕ) (lsn : ℕ) (m : Message) : Type 0 where
  pub body : List ℕ
  pub carries : payload_at payload ≡ Ok (wire.XLogData lsn lsn (pos 0) body)
  pub reads : message_at false body ≡ Ok m

pub begin_10_read : Reads begin_10 480 (begin 512 10)
unfolding payload_at message_at message_of begin_at number_at signed_at byte_at bytes_at
begin_10_read = record { body = _; carries = refl; reads = refl }

pub relation_read : Reads relation 480 (alone (item.Relation t))
unfolding payload_at message_at message_of relation_message_at relation_at xid_at number_at signed_at byte_at text_at count_at bytes_at
    counted_columns_at columns_at column_at is_utf8 chars encode
relation_read = record { body = _; carries = refl; reads = refl }

pub insert_read : Reads insert 480 (alone (insert_t 49 97))
unfolding payload_at message_at message_of insert_at xid_at number_at byte_at bytes_at row_at is_utf8 chars encode tuples.tuple_at
    tuples.number_at tuples.length_at tuples.bytes_at tuples.text_at tuples.text_cell_at tuples.binary_cell_at tuples.cell_at
    tuples.cells_at
insert_read = record { body = _; carries = refl; reads = refl }

pub commit_10_read : Reads commit_10 560 (commit 512 560)
unfolding payload_at message_at message_of commit_at number_at signed_at byte_at bytes_at
commit_10_read = record { body = _; carries = refl; reads = refl }

pub begin_11_read : Reads begin_11 720 (begin 768 11)
unfolding payload_at message_at message_of begin_at number_at signed_at byte_at bytes_at
begin_11_read = record { body = _; carries = refl; reads = refl }

pub update_read : Reads update 720 (alone (update_t 49 98))
unfolding payload_at message_at message_of update_at prior_at xid_at number_at byte_at bytes_at row_at is_utf8 chars encode
    tuples.tuple_at tuples.number_at tuples.length_at tuples.bytes_at tuples.text_at tuples.text_cell_at tuples.binary_cell_at
    tuples.cell_at tuples.cells_at
update_read = record { body = _; carries = refl; reads = refl }

pub delete_read : Reads delete 744 (alone (delete_t 51))
unfolding payload_at message_at message_of delete_at xid_at number_at byte_at bytes_at row_at is_utf8 chars encode tuples.tuple_at
    tuples.number_at tuples.length_at tuples.bytes_at tuples.text_at tuples.text_cell_at tuples.binary_cell_at tuples.cell_at
    tuples.cells_at
delete_read = record { body = _; carries = refl; reads = refl }

pub commit_11_read : Reads commit_11 816 (commit 768 816)
unfolding payload_at message_at message_of commit_at number_at signed_at byte_at bytes_at
commit_11_read = record { body = _; carries = refl; reads = refl }

pub keepalive_read : payload_at keepalive ≡ Ok (wire.Keepalive 896 (pos 0) true)
unfolding payload_at
keepalive_read = refl
