-- Part of the statement.
-- Items and work without the changes of one table.
use Rattle.std.specs.Prelude.{ℕ, List, [], ◌∷◌, not, ◌==◌, if◌then◌else◌, map}
use Rattle.std.specs.List.{filter}
use Rattle.pglogical.specs.declared.message.RelationDef.{RelationDef}
use Rattle.pglogical.specs.declared.message.Item.{Item}
use Rattle.pglogical.specs.declared.message.Item.TheVariants.{Relation, Insert, Update, Delete}
use Rattle.pglogical.specs.declared.message.Item.TheVariants.{Truncate}
use Rattle.pgsub_core.specs.Server.Work.{Work, Nothing, Changed, Subtransaction, RolledBack}
use Rattle.pgsub_core.specs.Server.Work.{is_among}
use Rattle.pgsub_core.specs.Server.History.{Transaction}

abbrev pub other_oids : ℕ → List ℕ → List ℕ
other_oids oid oids = filter (λ x. not (x == oid)) oids

abbrev pub other_definitions : ℕ → List RelationDef → List RelationDef
other_definitions oid definitions = filter (λ (def : RelationDef). not (def.oid == oid)) definitions

-- a truncation of these tables, where there are any
abbrev pub truncation : ℕ → List ℕ → List Item
truncation options [] = []
truncation options (o ∷ oids) = Truncate options (o ∷ oids) ∷ []

-- An item without what it does to the table; nothing where nothing else is left. A Relation message
-- isn't a change.
abbrev pub item_without : ℕ → Item → List Item
item_without oid (Relation def) = Relation def ∷ []
item_without oid (Insert o row) = if o == oid then [] else Insert o row ∷ []
item_without oid (Update o prior row) = if o == oid then [] else Update o prior row ∷ []
item_without oid (Delete o kind row) = if o == oid then [] else Delete o kind row ∷ []
item_without oid (Truncate options oids) =
    if is_among oids oid
    then truncation options (other_oids oid oids)
    else Truncate options oids ∷ []

abbrev pub with_change : List Item → List RelationDef → Work → Work
with_change [] definitions rest = rest
with_change (change ∷ none) definitions rest = Changed change definitions rest

-- the same work without the table's changes
abbrev pub work_without : ℕ → Work → Work
work_without oid Nothing = Nothing
work_without oid (Changed change definitions rest) =
    with_change (item_without oid change) (other_definitions oid definitions)
    (work_without oid rest)
work_without oid (Subtransaction xid inner rest) =
    Subtransaction xid (work_without oid inner) (work_without oid rest)
work_without oid (RolledBack xid inside rest) = RolledBack xid inside (work_without oid rest)

abbrev pub transaction_without : ℕ → Transaction → Transaction
transaction_without oid t =
    record t { work = work_without oid t.work }

abbrev pub transactions_without : ℕ → List Transaction → List Transaction
transactions_without oid ts = map (transaction_without oid) ts
