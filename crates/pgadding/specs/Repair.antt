-- Part of the statement.
-- The transaction by which a copy is repaired: what is sent of it, and what it is in a history.
use Rattle.std.specs.Prelude.{◌≡◌, ◌-◌, ℕ, ℤ, List, [], ◌∷◌, ◌++◌, false, map}
use Rattle.std.specs.FinMap as finite
use Rattle.std.specs.List.{AllByRecursion, flat_map}
use Rattle.pglogical.specs.declared.message.RelationDef.{RelationDef}
use Rattle.pglogical.specs.declared.message.Item.{Item}
use Rattle.pglogical.specs.declared.message.Item.TheVariants.{Relation, Insert, Update, Delete}
use Rattle.pglogical.specs.declared.message.Item.TheVariants.{Truncate}
use Rattle.pglogical.specs.declared.message.Message.TheVariants as message
use Rattle.pgapply.specs.Value.{Tables}
use Rattle.pgsub_core.specs.Server.Work.{Work, Nothing, Changed, AllDiffer, is_among}
use Rattle.pgsub_core.specs.Server.History.{Transaction}
use Rattle.pgsub_core.specs.Server.Stream.{Sent}
use Rattle.pgadding.specs.Addition.{rows_xid, sent_at, items_at}
use Rattle.pgadding.specs.Mended.{Mended, IsMended}

-- What differs between the rows that the snapshot of a slot shows and those of the copy, which has
-- then all that was committed up to the slot's consistent point, and nothing else. `point` and
-- `clock` are as where a table is added.
pub record Repair : Type 0 where
  pub point : ℕ
  pub tables : List Mended
  pub clock : ℤ

-- no server's commit has this place or this end
abbrev pub repair_lsn : Repair → ℕ
repair_lsn r = r.point - 1

abbrev pub repair_end : Repair → ℕ
repair_end r = r.point

-- each table's changes behind its Relation message
abbrev pub mended_items : Mended → List Item
mended_items t = Relation t.definition ∷ t.changes

abbrev pub repair_items : Repair → List Item
repair_items r = flat_map mended_items r.tables

-- what is sent: Begin, for each table Relation and its changes, Commit
abbrev pub repair_sent : Repair → List Sent
repair_sent r =
    sent_at (repair_lsn r) (message.Begin (repair_lsn r) r.clock rows_xid)
    ∷ (items_at (repair_lsn r) (repair_items r)
    ++ sent_at (repair_lsn r) (message.Commit (repair_lsn r) (repair_end r) r.clock) ∷ [])

abbrev pub changed : RelationDef → List Item → Work → Work
changed def [] rest = rest
changed def (i ∷ items) rest = Changed i (def ∷ []) (changed def items rest)

abbrev pub mended_work : List Mended → Work
mended_work [] = Nothing
mended_work (t ∷ ts) = changed t.definition t.changes (mended_work ts)

-- the transaction in the history
abbrev pub repair_transaction : Repair → Transaction
repair_transaction r =
    record {
      xid = rows_xid;
      work = mended_work r.tables;
      lsn = repair_lsn r;
      end = repair_end r;
      time = r.clock;
    }

-- a change of a row of this table
abbrev pub ChangesRowOf : ℕ → Item → Type 0
ChangesRowOf oid (Relation def) = ⊥
ChangesRowOf oid (Insert o row) = o ≡ oid
ChangesRowOf oid (Update o prior row) = o ≡ oid
ChangesRowOf oid (Delete o kind row) = o ≡ oid
ChangesRowOf oid (Truncate options oids) = ⊥

-- each table's changes are changes of its rows
abbrev pub IsRepair : Repair → Type 0
IsRepair r =
    AllByRecursion
    (λ (t : Mended). AllByRecursion (ChangesRowOf t.definition.oid) t.changes) r.tables

abbrev pub mended_oids : Repair → List ℕ
mended_oids r = map (λ (t : Mended). t.definition.oid) r.tables

-- The repair has what differs in some tables, each of them once: between these of the copy at the
-- point, and those of the server.
pub record AreMended (r : Repair) (copy server : Tables) : Type 0 where
  pub once : AllDiffer (mended_oids r)
  pub each : AllByRecursion (IsMended copy server) r.tables

-- It has all that differs: no other table does.
pub record IsRepairOf (r : Repair) (copy server : Tables) : Type 0 where
  pub mended : AreMended r copy server
  pub others :
      (oid : ℕ) → is_among (mended_oids r) oid ≡ false
      → finite.get copy oid ≡ finite.get server oid
