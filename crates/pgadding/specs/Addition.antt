-- Part of the statement.
-- The transaction in which a table's rows come: what is sent of it, and what it is in a history.
use Rattle.std.specs.Prelude.{ℕ, ℤ, pos, ◌-◌, List, [], ◌∷◌, ◌++◌, Option, None, map}
use Rattle.pgtuple.specs.declared.cell.Cell.{Cell}
use Rattle.pglogical.specs.declared.message.OldKind.{OldKind}
use Rattle.pglogical.specs.declared.message.RelationDef.{RelationDef}
use Rattle.pglogical.specs.declared.message.Item.{Item}
use Rattle.pglogical.specs.declared.message.Item.TheVariants.{Relation, Insert, Update, Delete}
use Rattle.pglogical.specs.declared.message.Item.TheVariants.{Truncate}
use Rattle.pglogical.specs.declared.message.Message.{Message}
use Rattle.pglogical.specs.declared.message.Message.TheVariants as message
use Rattle.pgsub_core.specs.Server.Work.{Work, Nothing, Changed}
use Rattle.pgsub_core.specs.Server.History.{Transaction}
use Rattle.pgsub_core.specs.Server.Stream.{Sent, Data}

-- a change of one table, whichever that is
pub data OwnChange : Type 0 where
  Inserted : (row : List Cell) → OwnChange
  Updated : (prior : Option (OldKind × List Cell)) (row : List Cell) → OwnChange
  Deleted : (kind : OldKind) (row : List Cell) → OwnChange
  Emptied : (options : ℕ) → OwnChange

abbrev pub own_item : ℕ → OwnChange → Item
own_item oid (Inserted row) = Insert oid row
own_item oid (Updated prior row) = Update oid prior row
own_item oid (Deleted kind row) = Delete oid kind row
own_item oid (Emptied options) = Truncate options (oid ∷ [])

-- A table's rows as the snapshot of a slot shows them, and its changes since: `later` has those of
-- the commits that the snapshot doesn't see and that end before `point`, where no commit ends. It
-- may have none, as where that is the slot's consistent point. `told` is the place that the rows'
-- messages tell, `clock` when the transaction is made, in microseconds since 2000.
pub record Addition : Type 0 where
  pub point : ℕ
  pub told : ℕ
  pub definition : RelationDef
  pub rows : List (List Cell)
  pub later : List OwnChange
  pub clock : ℤ

-- FrozenTransactionId, which no transaction of a server has
abbrev pub rows_xid : ℕ
rows_xid = 2

-- The place of the transaction's commit, and its end: no server's commit has either, since records
-- begin and end at multiples of eight.
abbrev pub rows_lsn : Addition → ℕ
rows_lsn a = a.point - 1

abbrev pub rows_end : Addition → ℕ
rows_end a = a.point

-- what the copy has of the table goes before the rows come
abbrev pub emptied : Addition → Item
emptied a = Truncate 0 (a.definition.oid ∷ [])

-- then each row comes, and what was done to them since
abbrev pub made_of : Addition → List OwnChange
made_of a = map Inserted a.rows ++ a.later

abbrev pub items_of : ℕ → List OwnChange → List Item
items_of oid owns = map (own_item oid) owns

abbrev pub rows_items : Addition → List Item
rows_items a = Relation a.definition ∷ emptied a ∷ items_of a.definition.oid (made_of a)

abbrev pub sent_at : ℕ → Message → Sent
sent_at lsn m = Data lsn lsn (pos 0) m

abbrev pub items_at : ℕ → List Item → List Sent
items_at lsn items = map (λ i. sent_at lsn (message.Item None i)) items

-- what is sent: Begin, Relation, Truncate, an Insert for each row, the changes since, Commit
abbrev pub rows_sent : Addition → List Sent
rows_sent a =
    sent_at (rows_lsn a) (message.Begin (rows_lsn a) a.clock rows_xid)
    ∷ (items_at a.told (rows_items a)
    ++ sent_at (rows_lsn a) (message.Commit (rows_lsn a) (rows_end a) a.clock) ∷ [])

abbrev pub owned : RelationDef → List OwnChange → Work
owned def [] = Nothing
owned def (own ∷ owns) = Changed (own_item def.oid own) (def ∷ []) (owned def owns)

abbrev pub rows_work : Addition → Work
rows_work a = Changed (emptied a) (a.definition ∷ []) (owned a.definition (made_of a))

-- the transaction in the history
abbrev pub rows_transaction : Addition → Transaction
rows_transaction a =
    record { xid = rows_xid; work = rows_work a; lsn = rows_lsn a; end = rows_end a; time = a.clock }
