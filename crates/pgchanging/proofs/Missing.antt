-- Whether a change finds a row, by what the tables of bytes tell.
use Rattle.std.proofs.Common.{◌≡◌, ℕ, List, ◌∷◌, Bool, true, false, Option, Some, None, Ok, refl}
use Rattle.std.proofs.Common.{sym, ap, ◌∙◌}
use Rattle.std.specs.Prelude.{not, is_none, is_some, option_map}
use Rattle.std.specs.FinMap as map
use Rattle.pgtuple.specs.declared.cell.Cell.{Cell}
use Rattle.pgtuple.specs.Cells.{tuple_spelling}
use Rattle.pglogical.specs.declared.message.RelationDef.{RelationDef}
use Rattle.pglogical.specs.declared.message.OldKind.{OldKind}
use Rattle.pgrel.specs.Identity.{searched_identity}
use Rattle.pgtables.specs.Kept as stored
use Rattle.pgtables.specs.Kept.{is_there}
use Rattle.pgapply.specs.declared.op.Op.TheVariants.{Update, Delete}
use Rattle.pgapply.specs.Value.{Rows, Tables}
use Rattle.pgapply.specs.Missing.{finds_none, is_absent}
use Rattle.pgencoded.specs.Spelled.{IsChanging, spelled_row}
use Rattle.pgencoded.proofs.SpelledRows.{own_row}

none_of : {A B : Type 0} (f : A → B) (o : Option A) → not (is_some (option_map f o)) ≡ is_none o
none_of f None = refl
none_of f (Some a) = refl

module _ (v : Tables) (def : RelationDef) (rows : Rows) (t : stored.Tables) (h : IsChanging v def rows t) (place : List ℕ) where
  absent : not (is_there def.oid place t) ≡ is_none (map.get rows place)
  absent = ap (λ o. not (is_some o)) (own_row v def rows t h.spelled place) ∙ none_of spelled_row (map.get rows place)

  -- what is told of the place is told of the row
  module _ (searched : List Cell) (at : place ≡ tuple_spelling searched) (missed : Bool)
      (told : missed ≡ not (is_there def.oid place t)) where
    not_at : missed ≡ is_absent (Ok searched) rows
    not_at = told ∙ absent ∙ ap (λ p. is_none (map.get rows p)) at

    pub update_misses : (prior : Option (OldKind × List Cell)) (row : List Cell) → searched_identity def prior (Some row) ≡ Ok searched
        → missed ≡ finds_none def (Update prior row) rows
    update_misses prior row checked = not_at ∙ ap (λ r. is_absent r rows) (sym checked)

    pub delete_misses : (kind : OldKind) (row : List Cell) → searched_identity def (Some (kind, row)) None ≡ Ok searched
        → missed ≡ finds_none def (Delete kind row) rows
    delete_misses kind row checked = not_at ∙ ap (λ r. is_absent r rows) (sym checked)

-- a row that was looked up, or not
pub told_none : (oid : ℕ) (place : List ℕ) (t : stored.Tables) → map.get t.rows (oid ∷ place) ≡ None → true ≡ not (is_there oid place t)
told_none oid place t none = sym (ap (λ o. not (is_some o)) none)

pub told_some : (oid : ℕ) (place : List ℕ) (t : stored.Tables) (there : stored.Copies) → map.get t.rows (oid ∷ place) ≡ Some there
    → false ≡ not (is_there oid place t)
told_some oid place t there some = sym (ap (λ o. not (is_some o)) some)
