-- What the relation cache holds.
-- PostgreSQL documentation, Logical Replication Message Formats, Relation.
use Rattle.std.specs.Prelude.{◌≡◌, ℕ, List}
use Rattle.std.specs.List.{AllByRecursion}
use Rattle.pglogical.specs.declared.message.RelationDef.{RelationDef}
use Rattle.pglogical.specs.Spelling.{IsDefinition}

-- a definition under its own OID, which a Relation message can carry
pub record IsKnown (entry : ℕ × RelationDef) : Type 0 where
  pub oid : entry.1.oid ≡ entry.0
  pub spellable : IsDefinition entry.1

abbrev pub AreDefinitions : List (ℕ × RelationDef) → Type 0
AreDefinitions entries = AllByRecursion IsKnown entries
