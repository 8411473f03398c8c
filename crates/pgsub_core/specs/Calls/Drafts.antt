-- Changes that are described one after the other.
use Rattle.std.specs.Prelude.{◌≡◌, ◌++◌, ℕ, List, [], ◌∷◌, Option, Some, None, Result, Ok, Err}
use Rattle.std.specs.Prelude.{slice_get, map as map_list}
use Rattle.std.specs.FinMap as map
use Rattle.pglogical.specs.declared.message.RelationDef.{RelationDef}
use Rattle.pgrel.specs.declared.fault.RelFault.TheVariants as rel
use Rattle.pgapply.specs.declared.op.Op.{Op}
use Rattle.pgapply.specs.declared.op.Op.TheVariants as op
use Rattle.pgapply.specs.Apply.{Change}
use Rattle.pgsub_core.specs.declared.fault.Fault.{Fault}
use Rattle.pgsub_core.specs.declared.fault.Fault.TheVariants as fault
use Rattle.pgsub_core.specs.Server.Described.{definitions_of}
use Rattle.pgsub_core.specs.Machine.Replica.{RelationCache}

abbrev pub known_to : RelationCache → ℕ → Option RelationDef
known_to relations oid = map.get relations oid

-- changes that are described, in front of those that are still to be
abbrev pub behind_changes : List Change → Result (List Change) ℕ → Result (List Change) ℕ
behind_changes done (Ok changes) = Ok (done ++ changes)
behind_changes done (Err missing) = Err missing

-- the definition with this number is the one that the cache has
pub record IsNumbered (relations : RelationCache) (definitions : List RelationDef) (oid number : ℕ) : Type 0 where
  pub def : RelationDef
  pub known : map.get relations oid ≡ Some def
  pub at : slice_get definitions number ≡ Some def

abbrev pub AreNumbered : RelationCache → List RelationDef → (ℕ → Option ℕ) → Type 0
AreNumbered relations definitions numbers = (oid number : ℕ) → numbers oid ≡ Some number → IsNumbered relations definitions oid number

-- one change more
pub record Adds (relations : RelationCache) (oid : ℕ) (op : Op) (old new : List Change) : Type 0 where
  pub def : RelationDef
  pub known : map.get relations oid ≡ Some def
  pub changes : new ≡ old ++ record { definition = def; op = op } ∷ []

-- no Relation message has described the OID
abbrev pub IsUndescribed : RelationCache → ℕ → Fault → Type 0
IsUndescribed relations oid f = (f ≡ fault.Relation (rel.UnknownRelation oid)) × (map.get relations oid ≡ None)

-- the changes of a Truncate of these relations
abbrev pub of_truncate : Result (List RelationDef) ℕ → Result (List Change) ℕ
of_truncate (Ok definitions) = Ok (map_list (λ (def : RelationDef). record { definition = def; op = op.Truncate }) definitions)
of_truncate (Err missing) = Err missing

abbrev pub truncated : (ℕ → Option RelationDef) → List ℕ → Result (List Change) ℕ
truncated find oids = of_truncate (definitions_of find oids)

-- a change has no definition
abbrev pub LacksDefinition : Result (List Change) ℕ → Fault → Type 0
LacksDefinition described f = (oid : ℕ) × (f ≡ fault.Relation (rel.UnknownRelation oid)) × (described ≡ Err oid)
