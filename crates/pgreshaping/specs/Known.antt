-- The definitions that relations are known to have.
use Rattle.std.specs.Prelude.{◌≡◌, ◌≢◌, ◌⊎◌, ℕ, Some}
use Rattle.std.specs.FinMap as map
use Rattle.std.specs.FinMap.{FinMap}
use Rattle.std.specs.Ordering.{nat_cmp}
use Rattle.sqlite.specs.Store.{Ghosts}
use Rattle.pglogical.specs.declared.message.RelationDef.{RelationDef}
use Rattle.pgtables.specs.Kept as stored
use Rattle.pgrows.specs.Rows.{IfServing, tables_of}
use Rattle.pgapply.specs.Value.{Tables}
use Rattle.pgencoded.specs.Spelled.{IsStored, spelled_definition}

-- each is the one that is stored for its OID
abbrev pub AreStored : FinMap nat_cmp RelationDef → stored.Tables → Type 0
AreStored known t = (oid : ℕ) (def : RelationDef) → map.get known oid ≡ Some def → map.get t.defined oid ≡ Some (spelled_definition def)

-- this one is known too from now on, or it was forgotten what is known of its OID
abbrev pub Notes : FinMap nat_cmp RelationDef → RelationDef → FinMap nat_cmp RelationDef → Type 0
Notes known def next = (oid : ℕ) (d : RelationDef) → map.get next oid ≡ Some d
    → ((d ≡ def) × (oid ≡ def.oid)) ⊎ ((map.get known oid ≡ Some d) × (oid ≢ def.oid))

module _ {S : Type 0} (g : Ghosts S) where
  -- what is known is stored, while the store serves
  abbrev pub AreKnown : FinMap nat_cmp RelationDef → S → Type 0
  AreKnown known s = IfServing g s (AreStored known (tables_of g s))

  -- the transaction has the tables of a store
  abbrev pub HasTables : S → Type 0
  HasTables s = IfServing g s ((v : Tables) × IsStored v (tables_of g s))
