-- Worked rows: what a watch answers to sessions, as the definitions give it.
use Rattle.std.proofs.Common.{◌≡◌, ℕ, List, [], ◌∷◌, ◌++◌, true}
use Rattle.std.proofs.Common.{false, Some, None, Option, Result, Ok, Err}
use Rattle.std.proofs.Common.{refl, pos}
use Rattle.std.specs.Prelude.{◌+◌}
use Rattle.pgtuple.specs.declared.cell.Cell.TheVariants.{Text}
use Rattle.pglogical.specs.declared.message.Item.TheVariants.{Relation, Insert, Truncate}
use Rattle.pglogical.specs.declared.message.Message.{Message}
use Rattle.pglogical.specs.declared.message.Message.TheVariants as message
use Rattle.pgorder.specs.declared.Version.{Version}
use Rattle.pgorder.specs.declared.Version.TheVariants.{One, Two}
use Rattle.pgorder.specs.declared.fault.OrderFault.TheVariants as fault
use Rattle.pgorder.specs.OpenXids.{open_rows}
use Rattle.pgwatch.specs.declared.fault.Breach.{Breach}
use Rattle.pgwatch.specs.declared.fault.Breach.TheVariants as breach
use Rattle.pgwatch.specs.declared.watch.Watch.{Watch}
use Rattle.pgwatch.specs.Hearing.{at_start}
use Rattle.pgsub_core.specs.Server.Stream.{Data, Keepalive}
use Rattle.pgwatched.specs.Watched.{Framed, hear_all}

abbrev breach_of : Result Watch Breach → Option Breach
breach_of (Ok w) = None
breach_of (Err b) = Some b

-- the breach of a session that starts at 100, of a watch that holds at most this much
abbrev breach_within : ℕ → Version → List Framed → Option Breach
breach_within limit v fs = breach_of (hear_all (at_start v 100 limit) fs)

abbrev breach_in : Version → List Framed → Option Breach
breach_in v fs = breach_within 4 v fs

abbrev came : ℕ → Message → Framed
came at m = record { at = at; sent = Data 0 0 (pos 0) m }

abbrev keepalive : ℕ → ℕ → Framed
keepalive at end = record { at = at; sent = Keepalive end (pos 0) false }

abbrev begin : ℕ → ℕ → Framed
begin at lsn = came at (message.Begin lsn (pos 0) 7)

abbrev commit : ℕ → ℕ → ℕ → Framed
commit at lsn end = came at (message.Commit lsn end (pos 0))

abbrev relation : ℕ → ℕ → Framed
relation at oid = came at (message.Item None (Relation (record { oid = oid; namespace = []; name = 116 ∷ []; letter = 100; columns = [] })))

abbrev insert : ℕ → ℕ → Framed
insert at oid = came at (message.Item None (Insert oid (Text (49 ∷ []) ∷ [])))

-- Begin, Relation, Insert and Commit
abbrev first : List Framed
first = begin 1 200 ∷ relation 2 16 ∷ insert 3 16 ∷ commit 4 200 240 ∷ []

-- a later transaction that inserts a row, with no Relation message
abbrev next : ℕ → ℕ → List Framed
next lsn end = begin 6 lsn ∷ insert 7 16 ∷ commit 8 lsn end ∷ []

whole : breach_in One first ≡ None
whole = simp open_rows

-- The next commit may begin right where the last one ends, and not before.
right_behind : breach_in One (first ++ next 240 280) ≡ None
right_behind = simp open_rows

below_the_last : breach_in One (first ++ next 239 280) ≡ Some (breach.BelowCommit 8 239 4 240)
below_the_last = simp open_rows

-- It ends above its own LSN, and above the start.
empty : breach_in One (first ++ next 240 240) ≡ Some (breach.EndNotAbove 8 240 240)
empty = simp open_rows

at_the_start : breach_in One (begin 1 60 ∷ commit 2 60 100 ∷ []) ≡ Some (breach.BelowStart 2 100 100)
at_the_start = simp open_rows

above_the_start : breach_in One (begin 1 60 ∷ commit 2 60 101 ∷ []) ≡ None
above_the_start = simp open_rows

-- Only its commit tells that a change isn't described; a Relation message behind the change is none
-- before it.
undescribed : breach_in One (begin 1 200 ∷ insert 2 16 ∷ relation 3 16 ∷ commit 4 200 240 ∷ []) ≡ Some (breach.Undescribed 4 2 16)
undescribed = simp open_rows

not_committed : breach_in One (begin 1 200 ∷ insert 2 16 ∷ []) ≡ None
not_committed = simp open_rows

second_of_a_truncate : breach_in One (begin 1 200 ∷ relation 2 16 ∷ came 3 (message.Item None (Truncate 0 (16 ∷ 17 ∷ [])))
    ∷ commit 4 200 240 ∷ [])
    ≡ Some (breach.Undescribed 4 3 17)
second_of_a_truncate = simp open_rows

-- A commit that changes rows ends above each keepalive, also one inside its pair.
at_a_keepalive : breach_in One (first ++ keepalive 5 280 ∷ next 240 280) ≡ Some (breach.BelowKeepalive 8 280 5 280)
at_a_keepalive = simp open_rows

above_a_keepalive : breach_in One (first ++ keepalive 5 279 ∷ next 240 280) ≡ None
above_a_keepalive = simp open_rows

inside_the_pair : breach_in One (begin 1 200 ∷ relation 2 16 ∷ keepalive 3 240 ∷ insert 4 16 ∷ commit 5 200 240 ∷ [])
    ≡ Some (breach.BelowKeepalive 5 240 3 240)
inside_the_pair = simp open_rows

no_rows_below_a_keepalive : breach_in One (keepalive 1 300 ∷ begin 2 200 ∷ relation 3 16 ∷ commit 4 200 240 ∷ []) ≡ None
no_rows_below_a_keepalive = simp open_rows

the_greatest_keepalive : breach_in One (first ++ keepalive 5 300 ∷ keepalive 6 260 ∷ next 240 280)
    ≡ Some (breach.BelowKeepalive 8 280 5 300)
the_greatest_keepalive = simp open_rows

-- Pairs and blocks in order.
outside : breach_in One (insert 1 16 ∷ []) ≡ Some (breach.Disordered 1 fault.OutsideTransaction)
outside = refl

another_lsn : breach_in One (begin 1 200 ∷ commit 2 201 240 ∷ []) ≡ Some (breach.Disordered 2 fault.CommitLsnDiffers)
another_lsn = simp open_rows

-- The limit: one relation, the same once more, and another.
once_more : breach_within 1 One (begin 1 200 ∷ relation 2 16 ∷ relation 3 16 ∷ commit 4 200 240 ∷ []) ≡ None
once_more = simp open_rows

full : breach_within 1 One (begin 1 200 ∷ relation 2 16 ∷ relation 3 17 ∷ commit 4 200 240 ∷ []) ≡ Some (breach.Full 3)
full = simp open_rows

-- A streamed transaction may be open and be aborted, and its room is free again. Its commit has to
-- be in its place, like any other.
abbrev under : ℕ → ℕ → ℕ → ℕ → Framed
under at xid subxid oid = came at (message.Item (Some subxid) (Insert oid (Text (49 ∷ []) ∷ [])))

abbrev described_under : ℕ → ℕ → ℕ → Framed
described_under at subxid oid =
    came at (message.Item (Some subxid) (Relation (record { oid = oid; namespace = []; name = 116 ∷ []; letter = 100; columns = [] })))

abbrev block : ℕ → List Framed → List Framed
block xid items = came 1 (message.StreamStart xid true) ∷ (items ++ came 3 message.StreamStop ∷ [])

abbrev stream_commit : ℕ → ℕ → ℕ → ℕ → Framed
stream_commit at xid lsn end = came at (message.StreamCommit xid lsn end (pos 0))

aborted : breach_within 2 Two (block 20 (under 2 20 20 16 ∷ []) ++ came 4 (message.StreamAbort 20 20) ∷ block 21 (under 2 21 21 16 ∷ []))
    ≡ None
aborted = simp open_rows

two_open : breach_within 1 Two (block 20 [] ++ block 21 []) ≡ Some (breach.Full 1)
two_open = simp open_rows

full_block : breach_within 1 Two (block 20 (under 2 20 20 16 ∷ [])) ≡ Some (breach.Full 2)
full_block = simp open_rows

streamed : breach_in Two (first ++ block 20 (under 2 20 20 16 ∷ []) ++ stream_commit 9 20 240 280 ∷ []) ≡ None
streamed = simp open_rows

streamed_below : breach_in Two (first ++ block 20 (under 2 20 20 16 ∷ []) ++ stream_commit 9 20 239 280 ∷ [])
    ≡ Some (breach.BelowCommit 9 239 4 240)
streamed_below = simp open_rows

-- A change of a relation that isn't described is told at the commit.
streamed_undescribed : breach_in Two (block 20 (under 2 20 20 16 ∷ []) ++ stream_commit 9 20 240 280 ∷ [])
    ≡ Some (breach.Undescribed 9 2 16)
streamed_undescribed = simp open_rows

-- What a rolled-back subtransaction described, no other change can use.
described_and_gone : breach_within 9 Two (block 20 (described_under 4 21 16 ∷ under 5 20 21 16 ∷ [])
    ++ came 6 (message.StreamAbort 20 21) ∷ came 7 (message.StreamStart 20 false) ∷ under 8 20 20 16
    ∷ came 9 message.StreamStop ∷ stream_commit 10 20 240 280 ∷ [])
    ≡ Some (breach.Undescribed 10 8 16)
described_and_gone = simp open_rows

-- A subtransaction with one inside it, and behind both the transaction's own.
abbrev each : ℕ → List ℕ → List Framed
each at [] = []
each at (x ∷ xs) = under at 20 x 16 ∷ each (at + 1) xs

abbrev of_three : List ℕ → Option Breach
of_three xids = breach_within 20 Two (first ++ block 20 (each 30 xids) ++ stream_commit 50 20 240 280 ∷ [])

nested_inside : of_three (20 ∷ 21 ∷ 22 ∷ 21 ∷ 20 ∷ []) ≡ None
nested_inside = simp open_rows

-- One that goes on after its transaction did, and two that cross.
gone_on : of_three (21 ∷ 20 ∷ 21 ∷ []) ≡ Some (breach.Unnested 50 30 21)
gone_on = simp open_rows

crossed : of_three (21 ∷ 22 ∷ 21 ∷ 22 ∷ []) ≡ Some (breach.Unnested 50 30 21)
crossed = simp open_rows
