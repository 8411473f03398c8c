-- PostgreSQL documentation, Logical Replication, Subscription: what a subscriber does with one
-- commit or keepalive after the other, by what it has stored and knows.
use Rattle.std.specs.Prelude.{ℕ, List, [], ◌∷◌, ◌++◌, Bool, true, false, Result, Ok, Err, max}
use Rattle.std.specs.Prelude.{nat_lt, if◌then◌else◌}
use Rattle.std.specs.Ordering.{nat_cmp}
use Rattle.std.specs.FinMap as map
use Rattle.pglogical.specs.declared.message.RelationDef.{RelationDef}
use Rattle.pglogical.specs.declared.message.Item.{Item}
use Rattle.pglogical.specs.declared.message.Item.TheVariants as item
use Rattle.pgorder.specs.declared.fault.OrderFault.{OrderFault}
use Rattle.pgspool.specs.Labels.{LabelledItem, cut, items_of}
use Rattle.pgapply.specs.declared.fault.StoreFault.{StoreFault}
use Rattle.pgapply.specs.Value.{Tables}
use Rattle.pgapply.specs.Apply.{Change, fold_changes}
use Rattle.pgsub_core.specs.Server.Described.{described_from}
use Rattle.pgsub_core.specs.Server.Streamed as streamed_item
use Rattle.pgsub_core.specs.Server.Streamed.{StreamedItem}
use Rattle.pgsub_core.specs.Server.Stream.{CommitOrKeepalive, Committed, KeepaliveEnd, Completed}
use Rattle.pgsub_core.specs.Server.Stream.{WholeCommit, StreamedCommit, end_of}

-- what is held of a transaction after these items and aborts
abbrev pub held_after : List LabelledItem → List StreamedItem → List LabelledItem
held_after held [] = held
held_after held (streamed_item.Change subxid i ∷ streamed) = held_after (held ++ (subxid, i) ∷ []) streamed
held_after held (streamed_item.SubtransactionAbort subxid ∷ streamed) = held_after (cut subxid held) streamed

-- the items that survive of a transaction whose commit has come
abbrev pub surviving_items : Completed → List Item
surviving_items (WholeCommit xid lsn end time items) = items
surviving_items (StreamedCommit xid lsn end time streamed) = items_of (held_after [] streamed)

-- the relation cache: by OID, what the last Relation message said
abbrev pub RelationCache : Type 0
RelationCache = map.FinMap nat_cmp RelationDef

abbrev pub cached : Item → RelationCache → RelationCache
cached (item.Relation def) relations = map.insert relations def.oid def
cached (item.Insert oid row) relations = relations
cached (item.Update oid prior row) relations = relations
cached (item.Delete oid kind row) relations = relations
cached (item.Truncate options oids) relations = relations

abbrev pub all_cached : RelationCache → List Item → RelationCache
all_cached relations [] = relations
all_cached relations (i ∷ items) = all_cached (cached i relations) items

-- what a subscriber has between two commits
pub record Replica : Type 0 where
  pub tables : Tables
  pub position : ℕ
  pub confirmed : ℕ
  pub relations : RelationCache

-- why a message can't be applied; end is the end of the commit that the store refuses
pub data Halt : Type 0 where
  UnknownRelation : (oid : ℕ) → Halt
  StoreRefuses : (end : ℕ) (fault : StoreFault) → Halt
  OutOfOrder : (fault : OrderFault) → Halt

-- a run that goes on from a state, or one that was stopped in the state before the message that has
-- the fault
pub data Outcome (S F : Type 0) : Type 0 where
  Running : (state : S) → Outcome S F
  Stopped : (state : S) (why : F) → Outcome S F

-- it goes on, or only such a reason stops it
abbrev pub GoesOrStops : {S F : Type 0} → (F → Type 0) → Outcome S F → Type 0
GoesOrStops reason (Running state) = Unit {0}
GoesOrStops reason (Stopped state why) = reason why

-- the store's own reason
abbrev pub IsOfStore : Halt → Type 0
IsOfStore (UnknownRelation oid) = ⊥
IsOfStore (StoreRefuses end fault) = Unit {0}
IsOfStore (OutOfOrder fault) = ⊥

abbrev pub then_run : {S F : Type 0} → Outcome S F → (S → Outcome S F) → Outcome S F
then_run (Running state) next = next state
then_run (Stopped state why) next = Stopped state why

abbrev pub stored : Replica → ℕ → RelationCache → Result Tables StoreFault → Outcome Replica Halt
stored old end relations (Ok tables) =
    Running (record { tables = tables; position = end; confirmed = max old.confirmed end; relations = relations })
stored old end relations (Err fault) = Stopped old (StoreRefuses end fault)

abbrev pub taken : Replica → ℕ → RelationCache → Result (List Change) ℕ → Outcome Replica Halt
taken old end relations (Err oid) = Stopped old (UnknownRelation oid)
taken old end relations (Ok changes) = stored old end relations (fold_changes old.tables changes)

-- A commit whose end passes the position is taken. Another one is a repeat, of which the Relation
-- messages alone count.
abbrev pub on_commit : Replica → ℕ → List Item → Outcome Replica Halt
on_commit old end items =
    if nat_lt old.position end
    then taken old end (all_cached old.relations items) (described_from (λ oid. map.get old.relations oid) items)
    else Running (record old { relations = all_cached old.relations items })

-- the end of a quiet keepalive is confirmed
abbrev pub on_keepalive : Replica → ℕ → Bool → Replica
on_keepalive old end true = record old { confirmed = max old.confirmed end }
on_keepalive old end false = old

abbrev pub apply_one : Replica → CommitOrKeepalive → Outcome Replica Halt
apply_one old (Committed completed) = on_commit old (end_of completed) (surviving_items completed)
apply_one old (KeepaliveEnd end quiet) = Running (on_keepalive old end quiet)

abbrev pub apply_all : Replica → List CommitOrKeepalive → Outcome Replica Halt
apply_all old [] = Running old
apply_all old (m ∷ ms) = then_run (apply_one old m) (λ new. apply_all new ms)
