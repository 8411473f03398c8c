-- A definition of another shape takes the place of the stored one: the rows that the change finds.
use Rattle.std.proofs.Common.{◌≡◌, ℕ, List, true, false, Some, Ok, refl, sym, subst, ◌∙◌}
use Rattle.std.specs.FinMap as map
use Rattle.pglogical.specs.declared.message.RelationDef.{RelationDef}
use Rattle.pglogical.specs.Spelling.{IsDefinition, columns_spelling}
use Rattle.pgrel.specs.Identity.{same_shape}
use Rattle.pgtables.specs.Kept as stored
use Rattle.pgapply.specs.declared.op.Op.{Op}
use Rattle.pgapply.specs.declared.fault.StoreFault.{StoreFault}
use Rattle.pgapply.specs.Value.{Row, Rows, Tables}
use Rattle.pgapply.specs.Apply.{carry_rows, found_rows, is_truncate}
use Rattle.pgapply.specs.Stored.{IsFault}
use Rattle.pgapply.proofs.ChangedShapes.{carry_alike, carried_not, carried_whole}
use Rattle.pgencoded.specs.Spelled.{IsStored, IsChanging, spelled_definition}
use Rattle.pgencoded.specs.Acts.{MakesOf}
use Rattle.pgreshaping.specs.Carries.{AreKept, IsReadAs, emptied}
use Rattle.pgreshaping.proofs.Definitions.{stored_table, found_other, emptied_first}
use Rattle.pgreshaping.proofs.CarriedOn.{kept_rows}

module _ (v : Tables) (def : RelationDef) (t : stored.Tables) (h : IsStored v t) (there : stored.Definition)
    (at : map.get t.defined def.oid ≡ Some there)
    (shaped : (old : RelationDef) → IsDefinition old → there ≡ spelled_definition old → false ≡ same_shape old def) (op : Op) where
  pub emptied_finds : is_truncate op ≡ true → (columns : List ℕ) → columns ≡ columns_spelling def.columns → (next : stored.Tables)
      → next ≡ emptied def columns t
      → (rows : Rows) × (found_rows (map.get v def.oid) def op ≡ Ok rows) × IsChanging v def rows next
  emptied_finds goes columns are next is =
      let it = stored_table v def t h there at in (
        map.empty,
        found_other v def t h there at shaped op ∙ carried_not it.0 def op goes,
        emptied_first v def t h next columns are is there at,
      )

  module _ (stays : is_truncate op ≡ false) (columns : List ℕ) (are : columns ≡ columns_spelling def.columns) (before : RelationDef)
      (read : IsReadAs there def before) where
    -- what is carried by the columns that were read is what the change finds
    found_carried : found_rows (map.get v def.oid) def op
        ≡ carry_rows before def (map.entries (stored_table v def t h there at).0.rows) map.empty
    found_carried =
        let it = stored_table v def t h there at in
        found_other v def t h there at shaped op ∙ carried_whole it.0 def op stays
        ∙ sym (carry_alike before it.0.definition def (read.columns it.0.definition (h.spellable def.oid it.0 it.1).definition it.2)
        (map.entries it.0.rows) map.empty)

    kept : AreKept before def.oid (map.entries (stored_table v def t h there at).0.rows) t
    kept =
        let it = stored_table v def t h there at in
        kept_rows v def t h it.0 it.1 before (read.columns it.0.definition (h.spellable def.oid it.0 it.1).definition it.2)

    first : IsChanging v def map.empty (emptied def columns t)
    first = emptied_first v def t h (emptied def columns t) columns are refl there at

    pub carried_finds : (next : stored.Tables)
        → ((entries : List (List ℕ × Row)) → IsChanging v def map.empty (emptied def columns t) → AreKept before def.oid entries t
        → MakesOf v def (carry_rows before def entries map.empty) next)
        → (rows : Rows) × (found_rows (map.get v def.oid) def op ≡ Ok rows) × IsChanging v def rows next
    carried_finds next carries =
        let made = carries (map.entries (stored_table v def t h there at).0.rows) first kept in
        (made.0, found_carried ∙ made.1, made.2)

    pub carried_refuses : (e : StoreFault)
        → ((entries : List (List ℕ × Row)) → IsChanging v def map.empty (emptied def columns t) → AreKept before def.oid entries t
        → IsFault e (carry_rows before def entries map.empty))
        → IsFault e (found_rows (map.get v def.oid) def op)
    carried_refuses e refuses =
        subst (IsFault e) (sym found_carried) (refuses (map.entries (stored_table v def t h there at).0.rows) first kept)
