-- Part of the statement.
-- Of which histories and sessions a table may be added, and the history that the copy then has.
use Rattle.std.specs.Prelude.{◌≡◌, ◌<◌, ◌≤◌, ◌⊎◌, ℕ, List, [], ◌∷◌, ◌++◌, Bool, true, false, ◌==◌}
use Rattle.std.specs.Prelude.{Option, Some, None}
use Rattle.std.specs.List.{AllByRecursion}
use Rattle.pglogical.specs.Named.{named}
use Rattle.pglogical.specs.declared.message.RelationDef.{RelationDef}
use Rattle.pglogical.specs.declared.message.Item.{Item}
use Rattle.pglogical.specs.declared.message.Item.TheVariants.{Relation}
use Rattle.pglogical.specs.declared.message.Message.{Message}
use Rattle.pglogical.specs.declared.message.Message.TheVariants as message
use Rattle.pgorder.specs.declared.Version.{Version}
use Rattle.pgsub_core.specs.Server.Work.{is_among}
use Rattle.pgsub_core.specs.Server.History.{Transaction, IsHistory}
use Rattle.pgsub_core.specs.Server.Described.{last_of, relations_after}
use Rattle.pgsub_core.specs.Server.Stream.{Sent, Data, Keepalive, messages_in}
use Rattle.pgsub_core.specs.Server.Delivers.{Delivers}
use Rattle.pgadding.specs.LeftOut.{transactions_without}
use Rattle.pgadding.specs.Addition.{Addition, rows_transaction}
use Rattle.pgadding.specs.Passing.{place_behind, place_after, before_rows, behind_rows}

-- The server's history in three parts: the transactions that the store has already, the others that
-- the snapshot sees, and those that it doesn't see. The point is the end of a record that is no
-- commit: a commit ends before it, or begins at it or later.
pub record IsAround (point : ℕ) (before below above : List Transaction) : Type 0 where
  pub history : IsHistory (before ++ (below ++ above))
  pub some : 1 ≤ point
  pub stored : AllByRecursion (λ (t : Transaction). t.end < point) before
  pub seen : AllByRecursion (λ (t : Transaction). t.end < point) below
  pub unseen : AllByRecursion (λ (t : Transaction). point ≤ t.lsn) above

-- the history that the copy has: the rows' transaction has all that the others do to the table
abbrev pub with_rows : Addition → List Transaction → List Transaction → List Transaction → List Transaction
with_rows a before below above =
    before ++ (transactions_without a.definition.oid below ++ rows_transaction a ∷ above)

-- no message of a stream block
abbrev pub IsWhole : Message → Type 0
IsWhole (message.StreamStart xid first) = ⊥
IsWhole message.StreamStop = ⊥
IsWhole (message.StreamCommit xid lsn end time) = ⊥
IsWhole (message.StreamAbort xid label) = ⊥
IsWhole _ = Unit {0}

abbrev pub BeginsFrom : ℕ → Message → Type 0
BeginsFrom from (message.Begin lsn time xid) = from ≤ lsn
BeginsFrom from _ = Unit {0}

-- A keepalive between transactions says up to where the server has read its log, and sent what is
-- committed there: whatever begins after it has a final LSN of its end or above. `Delivers` asks
-- that of transactions that change rows alone; one without changes may come after the rows neither.
abbrev pub KeepalivesTell : Option ℕ → List Sent → Type 0
KeepalivesTell place [] = Unit {0}
KeepalivesTell place (Data start end clock m ∷ sent) = KeepalivesTell (place_behind m place) sent
KeepalivesTell None (Keepalive end clock reply ∷ sent) =
    AllByRecursion (BeginsFrom end) (messages_in sent) × KeepalivesTell None sent
KeepalivesTell (Some lsn) (Keepalive end clock reply ∷ sent) = KeepalivesTell (Some lsn) sent

-- A session of whole transactions that ends between two of them. A server sends a transaction once
-- it is committed, so that a session that is cut off is a front of such a one. (`Delivers` says
-- nothing of a transaction whose commit doesn't come. That it comes in its turn tells that what is
-- committed before it has come, and so that the rows may.)
pub record IsWholeSession (v : Version) (history : List Transaction) (s : ℕ) (sent : List Sent) : Type 0 where
  pub delivered : Delivers v history s sent
  pub whole : AllByRecursion IsWhole (messages_in sent)
  pub ends : place_after None sent ≡ None
  pub read : KeepalivesTell None sent

abbrev pub item_of : Message → List Item
item_of (message.Item xid item) = item ∷ []
item_of _ = []

-- the Relation messages and changes among what is sent
abbrev pub items_in : List Sent → List Item
items_in [] = []
items_in (Data start end clock m ∷ sent) = item_of m ++ items_in sent
items_in (Keepalive end clock reply ∷ sent) = items_in sent

abbrev pub is_relation_of : ℕ → Item → Bool
is_relation_of oid (Relation def) = def.oid == oid
is_relation_of oid _ = false

-- A Relation message of the table comes before the first change that names it, and then `Later`.
abbrev pub DefinedBeforeNamed : ℕ → Type 0 → List Item → Type 0
DefinedBeforeNamed oid Later [] = Later
DefinedBeforeNamed oid Later (i ∷ items) =
    (is_relation_of oid i ≡ true)
    ⊎ ((is_among (named i) oid ≡ false) × DefinedBeforeNamed oid Later items)

abbrev pub Agrees : RelationDef → Option RelationDef → Type 0
Agrees def None = Unit {0}
Agrees def (Some last) = last ≡ def

-- Changes after the rows have the definition of the last Relation message of their table, and that
-- may now be the one that came with the rows. So one of two things must hold: the server's last
-- Relation message of the table before the rows, if there was one, is the same; or the server sends
-- another one before the next change that names the table.
abbrev pub KeepsDefinition : Addition → List Sent → Type 0
KeepsDefinition a sent =
    Agrees a.definition
    (last_of a.definition.oid (relations_after [] (items_in (before_rows a.point None sent))))
    ⊎ DefinedBeforeNamed a.definition.oid (Unit {0}) (items_in (behind_rows a.point None sent))
