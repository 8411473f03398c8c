-- Part of the statement. PostgreSQL documentation, Logical Replication Message Formats, Relation:
-- which definition each change of a session has, that of the last Relation message of its OID.
use Rattle.std.specs.Prelude.{ℕ, List, [], ◌∷◌, ◌++◌, Option, Some, None, Result, Ok, Err, ◌==◌}
use Rattle.std.specs.Prelude.{if◌then◌else◌}
use Rattle.pglogical.specs.Named.{named}
use Rattle.pglogical.specs.declared.message.RelationDef.{RelationDef}
use Rattle.pglogical.specs.declared.message.Item.{Item}
use Rattle.pglogical.specs.declared.message.Item.TheVariants as item
use Rattle.pgapply.specs.Apply.{Change}
use Rattle.pgsub_core.specs.Server.Work.{changes_of}

-- the last definition of the OID among these, of which the last stands first
abbrev pub last_of : ℕ → List RelationDef → Option RelationDef
last_of oid [] = None
last_of oid (def ∷ earlier) = if def.oid == oid then Some def else last_of oid earlier

abbrev pub relation_of : Item → List RelationDef → List RelationDef
relation_of (item.Relation def) earlier = def ∷ earlier
relation_of (item.Insert oid row) earlier = earlier
relation_of (item.Update oid prior row) earlier = earlier
relation_of (item.Delete oid kind row) earlier = earlier
relation_of (item.Truncate options oids) earlier = earlier

-- the Relation messages among the items and before them, the last first
abbrev pub relations_after : List RelationDef → List Item → List RelationDef
relations_after earlier [] = earlier
relations_after earlier (i ∷ items) = relations_after (relation_of i earlier) items

abbrev pub with_definition : ℕ → Option RelationDef → Result (List RelationDef) ℕ → Result (List RelationDef) ℕ
with_definition oid None rest = Err oid
with_definition oid (Some def) (Ok definitions) = Ok (def ∷ definitions)
with_definition oid (Some def) (Err missing) = Err missing

-- the definition of each OID, or the first OID that has none
abbrev pub definitions_of : (ℕ → Option RelationDef) → List ℕ → Result (List RelationDef) ℕ
definitions_of find [] = Ok []
definitions_of find (oid ∷ oids) = with_definition oid (find oid) (definitions_of find oids)

-- what is found behind an item
abbrev pub found_behind : Item → (ℕ → Option RelationDef) → ℕ → Option RelationDef
found_behind (item.Relation def) find oid = if def.oid == oid then Some def else find oid
found_behind (item.Insert o row) find oid = find oid
found_behind (item.Update o prior row) find oid = find oid
found_behind (item.Delete o kind row) find oid = find oid
found_behind (item.Truncate options oids) find oid = find oid

abbrev pub with_changes : Item → Result (List RelationDef) ℕ → Result (List Change) ℕ → Result (List Change) ℕ
with_changes i (Err missing) rest = Err missing
with_changes i (Ok definitions) (Err missing) = Err missing
with_changes i (Ok definitions) (Ok changes) = Ok (changes_of i definitions ++ changes)

-- the changes of the items with their definitions, by what is found before them
abbrev pub described_from : (ℕ → Option RelationDef) → List Item → Result (List Change) ℕ
described_from find [] = Ok []
described_from find (i ∷ items) = with_changes i (definitions_of find (named i)) (described_from (found_behind i find) items)

-- The changes of the items with their definitions, or the OID that the first item without one
-- names. Earlier stand the Relation messages before the items, the last first.
abbrev pub described : List RelationDef → List Item → Result (List Change) ℕ
described earlier items = described_from (λ oid. last_of oid earlier) items
