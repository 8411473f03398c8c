-- Part of the statement. PostgreSQL documentation, Logical Streaming Replication Protocol: how a
-- transaction's work may come in stream blocks, and which items survive.
use Rattle.std.specs.Prelude.{◌≡◌, ℕ, List, [], ◌∷◌, ◌++◌, map, Bool, true, false, ◌==◌}
use Rattle.std.specs.List.{AllByRecursion, list_any}
use Rattle.pglogical.specs.declared.message.RelationDef.{RelationDef}
use Rattle.pglogical.specs.declared.message.Item.{Item}
use Rattle.pglogical.specs.declared.message.Item.TheVariants.{Relation}
use Rattle.pgsub_core.specs.Server.Work.{Work, is_among, Nothing, Changed, Subtransaction}
use Rattle.pgsub_core.specs.Server.Work.{RolledBack}

-- an item (a Relation message or a change) under the xid that its message names, or the abort of a
-- subtransaction
pub data StreamedItem : Type 0 where
  Change : (subxid : ℕ) (item : Item) → StreamedItem
  SubtransactionAbort : (subxid : ℕ) → StreamedItem

abbrev pub subxid_of : StreamedItem → ℕ
subxid_of (Change subxid item) = subxid
subxid_of (SubtransactionAbort subxid) = subxid

abbrev pub aborts : ℕ → StreamedItem → Bool
aborts subxid (Change l item) = false
aborts subxid (SubtransactionAbort l) = l == subxid

-- behind the last item of each xid stands an abort of that xid
abbrev pub EachIsAborted : List StreamedItem → Type 0
EachIsAborted [] = Unit {0}
EachIsAborted (Change subxid item ∷ rest) = (list_any (aborts subxid) rest ≡ true) × EachIsAborted rest
EachIsAborted (SubtransactionAbort subxid ∷ rest) = EachIsAborted rest

-- What may come of a rolled-back subtransaction: items and aborts that name its xids alone. The
-- aborts may stand in any order, be repeated, and name xids without items.
pub record IsRolledBackStream (xids : List ℕ) (streamed : List StreamedItem) : Type 0 where
  pub named : AllByRecursion (λ l. is_among xids (subxid_of l) ≡ true) streamed
  pub aborted : EachIsAborted streamed

-- Relation messages under an xid
abbrev pub relations : ℕ → List RelationDef → List StreamedItem
relations subxid definitions = map (λ (def : RelationDef). Change subxid (Relation def)) definitions

abbrev pub relation_items : List RelationDef → List Item
relation_items definitions = map Relation definitions

-- The work comes under the xid of its transaction or subtransaction as these items and aborts, and
-- these items survive. Relation messages may stand before each part and behind the last.
abbrev pub IsStreamOf : Work → ℕ → List StreamedItem → List Item → Type 0
IsStreamOf Nothing subxid streamed surviving =
    (definitions : List RelationDef) × (streamed ≡ relations subxid definitions) × (surviving ≡ relation_items definitions)
IsStreamOf (Changed change described rest) subxid streamed surviving =
    (definitions : List RelationDef) × (streamed' : List StreamedItem) × (surviving' : List Item)
    × (streamed ≡ relations subxid definitions ++ Change subxid change ∷ streamed')
    × (surviving ≡ relation_items definitions ++ change ∷ surviving')
    × IsStreamOf rest subxid streamed' surviving'
IsStreamOf (Subtransaction xid inner rest) subxid streamed surviving =
    (definitions : List RelationDef) × (streamed₁ streamed₂ : List StreamedItem) × (surviving₁ surviving₂ : List Item)
    × (streamed ≡ relations subxid definitions ++ (streamed₁ ++ streamed₂))
    × (surviving ≡ relation_items definitions ++ (surviving₁ ++ surviving₂))
    × IsStreamOf inner xid streamed₁ surviving₁
    × IsStreamOf rest subxid streamed₂ surviving₂
IsStreamOf (RolledBack xid inside rest) subxid streamed surviving =
    (definitions : List RelationDef) × (streamed₁ streamed₂ : List StreamedItem) × (surviving' : List Item)
    × (streamed ≡ relations subxid definitions ++ (streamed₁ ++ streamed₂))
    × (surviving ≡ relation_items definitions ++ surviving')
    × IsRolledBackStream (xid ∷ inside) streamed₁
    × IsStreamOf rest subxid streamed₂ surviving'
