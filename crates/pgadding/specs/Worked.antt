-- Part of the statement.
-- What is passed on of two sessions, message by message.
use Rattle.std.specs.Prelude.{◌≡◌, ℕ, pos, negsuc, codes, List, [], ◌∷◌, ◌++◌, true, false, None}
use Rattle.pgtuple.specs.declared.cell.Cell.{Cell}
use Rattle.pgtuple.specs.declared.cell.Cell.TheVariants.{Text}
use Rattle.pglogical.specs.declared.message.Column.{Column}
use Rattle.pglogical.specs.declared.message.RelationDef.{RelationDef}
use Rattle.pglogical.specs.declared.message.Item.{Item}
use Rattle.pglogical.specs.declared.message.Item.TheVariants.{Relation, Insert, Truncate}
use Rattle.pglogical.specs.declared.message.Message.{Message}
use Rattle.pglogical.specs.declared.message.Message.TheVariants as message
use Rattle.pgorder.specs.declared.Version.TheVariants.{Two}
use Rattle.pgsub_core.specs.Server.Work.{Work, Nothing, Changed, surviving_changes}
use Rattle.pgsub_core.specs.Server.History.{Transaction, all_changes}
use Rattle.pgsub_core.specs.Server.Stream.{Sent, Data, Keepalive}
use Rattle.pgadding.specs.Addition.{Inserted, Emptied, Addition, owned}
use Rattle.pgadding.specs.Passing.{passed_on, before_rows}
use Rattle.pgadding.specs.Around.{IsAround, IsWholeSession, KeepsDefinition}
use Rattle.pgadding.specs.Later.{own_changes, kept_in}

abbrev pub id : Column
id = record { key = true; name = codes "id"; type_oid = 23; modifier = negsuc 0 }

-- public.t and public.u, each (id integer key)
abbrev pub table : ℕ → List ℕ → RelationDef
table oid name =
    record { oid = oid; namespace = codes "public"; name = name; letter = 100; columns = id ∷ [] }

abbrev pub t : RelationDef
t = table 16384 (codes "t")

abbrev pub u : RelationDef
u = table 16385 (codes "u")

abbrev pub row : ℕ → List Cell
row digit = Text (digit ∷ []) ∷ []

-- t is added, with one row, by a slot whose point is 1000
abbrev pub adding_t : Addition
adding_t =
    record {
      point = 1000;
      told = 999;
      definition = t;
      rows = row 49 ∷ [];
      later = [];
      clock = pos 7;
    }

abbrev pub plain : Message → Sent
plain m = Data 0 0 (pos 0) m

abbrev pub item : Item → Sent
item i = plain (message.Item None i)

abbrev pub keepalive : ℕ → Sent
keepalive end = Keepalive end (pos 0) false

-- A transaction that the snapshot sees. Within it a keepalive tells less than the point; `told`
-- comes before its Commit.
abbrev pub seen_with : List Sent → List Sent
seen_with told =
    plain (message.Begin 912 (pos 0) 700) ∷ item (Relation t) ∷ item (Relation u)
    ∷ item (Insert 16384 (row 49)) ∷ item (Insert 16385 (row 50)) ∷ keepalive 904
    ∷ item (Truncate 0 (16384 ∷ 16385 ∷ [])) ∷ item (Truncate 0 (16384 ∷ []))
    ∷ (told ++ plain (message.Commit 912 928 (pos 0)) ∷ [])

-- within it a keepalive tells the point, as no server's does
abbrev pub seen : List Sent
seen = seen_with (keepalive 1000 ∷ [])

-- the same without t
abbrev pub seen_without : List Sent
seen_without =
    plain (message.Begin 912 (pos 0) 700) ∷ item (Relation t) ∷ item (Relation u)
    ∷ item (Insert 16385 (row 50)) ∷ keepalive 904 ∷ item (Truncate 0 (16385 ∷ []))
    ∷ plain (message.Commit 912 928 (pos 0)) ∷ []

-- one that it doesn't see
abbrev pub unseen : List Sent
unseen =
    plain (message.Begin 1000 (pos 0) 701) ∷ item (Insert 16384 (row 51)) ∷ keepalive 1000
    ∷ plain (message.Commit 1000 1040 (pos 0)) ∷ []

abbrev pub rows_of_t : List Sent
rows_of_t =
    Data 999 999 (pos 0) (message.Begin 999 (pos 7) 2)
    ∷ Data 999 999 (pos 0) (message.Item None (Relation t))
    ∷ Data 999 999 (pos 0) (message.Item None (Truncate 0 (16384 ∷ [])))
    ∷ Data 999 999 (pos 0) (message.Item None (Insert 16384 (row 49)))
    ∷ Data 999 999 (pos 0) (message.Commit 999 1000 (pos 7)) ∷ []

-- the rows come before a keepalive between transactions that tells the point
abbrev pub BeforeAKeepalive : Type 0
BeforeAKeepalive =
    passed_on adding_t 900 (keepalive 904 ∷ (seen ++ keepalive 999 ∷ keepalive 1000 ∷ unseen))
    ≡ keepalive 904 ∷ (seen_without ++ keepalive 999 ∷ (rows_of_t ++ keepalive 1000 ∷ unseen))

-- or before the first transaction at the point
abbrev pub BeforeABegin : Type 0
BeforeABegin =
    passed_on adding_t 900 (keepalive 904 ∷ (seen ++ unseen))
    ≡ keepalive 904 ∷ (seen_without ++ (rows_of_t ++ unseen))

-- a session that ends before has no rows, and one that starts at the point or above it is passed
-- on as it is
abbrev pub NotYet : Type 0
NotYet = passed_on adding_t 900 (keepalive 904 ∷ seen) ≡ keepalive 904 ∷ seen_without

abbrev pub NoMore : Type 0
NoMore = passed_on adding_t 1000 (seen ++ unseen) ≡ seen ++ unseen

-- Where t is read at 904, the changes of the transaction that the snapshot doesn't see come behind
-- its rows, of which there are none. They tell where the rows were read.
abbrev pub later_t : Addition
later_t =
    record {
      point = 1000;
      told = 903;
      definition = t;
      rows = [];
      later = Inserted (row 49) ∷ Emptied 0 ∷ Emptied 0 ∷ [];
      clock = pos 7;
    }

abbrev pub rows_and_later : List Sent
rows_and_later =
    Data 999 999 (pos 0) (message.Begin 999 (pos 7) 2)
    ∷ Data 903 903 (pos 0) (message.Item None (Relation t))
    ∷ Data 903 903 (pos 0) (message.Item None (Truncate 0 (16384 ∷ [])))
    ∷ Data 903 903 (pos 0) (message.Item None (Insert 16384 (row 49)))
    ∷ Data 903 903 (pos 0) (message.Item None (Truncate 0 (16384 ∷ [])))
    ∷ Data 903 903 (pos 0) (message.Item None (Truncate 0 (16384 ∷ [])))
    ∷ Data 999 999 (pos 0) (message.Commit 999 1000 (pos 7)) ∷ []

abbrev pub WithLater : Type 0
WithLater =
    passed_on later_t 900 (keepalive 904 ∷ (seen ++ unseen))
    ≡ keepalive 904 ∷ (seen_without ++ (rows_and_later ++ unseen))

-- ---- a history and a session of it, of which the laws speak

abbrev pub work_seen : Work
work_seen =
    Changed (Insert 16384 (row 49)) (t ∷ []) (Changed (Insert 16385 (row 50)) (u ∷ [])
    (Changed (Truncate 0 (16384 ∷ 16385 ∷ [])) (t ∷ u ∷ [])
    (Changed (Truncate 0 (16384 ∷ [])) (t ∷ []) Nothing)))

abbrev pub work_unseen : Work
work_unseen = Changed (Insert 16384 (row 51)) (t ∷ []) Nothing

abbrev pub below : List Transaction
below = record { xid = 700; work = work_seen; lsn = 912; end = 928; time = pos 0 } ∷ []

abbrev pub above : List Transaction
above = record { xid = 701; work = work_unseen; lsn = 1000; end = 1040; time = pos 0 } ∷ []

-- these are kept, and are the changes that the transaction makes to t
abbrev pub LaterIsKept : Type 0
LaterIsKept =
    (kept_in 904 later_t.definition.oid None (before_rows later_t.point None (seen ++ unseen))
    ≡ later_t.later)
    × (surviving_changes (owned t later_t.later)
    ≡ own_changes later_t.definition.oid (all_changes below))

-- none of them is where the slot sees the transaction
abbrev pub SeenIsNotKept : Type 0
SeenIsNotKept =
    kept_in 920 later_t.definition.oid None (before_rows later_t.point None (seen ++ unseen)) ≡ []

abbrev pub session : List Sent
session = keepalive 904 ∷ (seen_with [] ++ keepalive 999 ∷ keepalive 1000 ∷ unseen)

-- they are as the laws ask
pub record IsExample : Type 0 where
  pub around : IsAround adding_t.point [] below above
  pub whole : IsWholeSession Two (below ++ above) 900 session
  pub keeps : KeepsDefinition adding_t session
