-- The row that a change finds, and the image of the change to it.
use Rattle.std.proofs.Common.{◌≡◌, ℕ, Bool, true, false, List, [], ◌∷◌, ◌++◌, length, Option, Some}
use Rattle.std.proofs.Common.{None, Ok, refl, sym, ap, subst, ◌∙◌}
use Rattle.std.specs.Prelude.{if◌then◌else◌}
use Rattle.std.specs.FinMap as map
use Rattle.pgtuple.specs.declared.cell.Cell.{Cell}
use Rattle.pgtuple.specs.Cells.{tuple_spelling}
use Rattle.pgtuple.specs.Limits.{IsWireTuple}
use Rattle.pglogical.specs.declared.message.RelationDef.{RelationDef}
use Rattle.pglogical.specs.declared.message.OldKind.{OldKind}
use Rattle.pgrel.specs.Identity.{resolved, searched_identity}
use Rattle.pgtables.specs.Kept as stored
use Rattle.pgapply.specs.declared.op.Op.TheVariants.{Insert, Update, Delete, Truncate}
use Rattle.pgapply.specs.Value.{Row, Rows, Tables}
use Rattle.pgapply.specs.Apply.{row_at}
use Rattle.pgledger.specs.declared.image.Image.{Image}
use Rattle.pgledger.specs.declared.image.Image.TheVariants.{Inserted, Updated, Deleted, Truncated}
use Rattle.pgledger.specs.declared.image.Image.TheVariants.{Missed}
use Rattle.pgledger.specs.Images.{image_of, updated_image, deleted_image, searched_row}
use Rattle.pgencoded.specs.Spelled.{IsChanging}
use Rattle.pgencoded.specs.Acts.{IsFound}
use Rattle.pgencoded.proofs.Acting.{not_there, was_there}
use Rattle.pgchanging.specs.Looks.{IsRowAt, told_more}

-- what is found at a place is the row with the identity that is searched
pub row_found : (v : Tables) (def : RelationDef) (rows : Rows) (t : stored.Tables) → IsChanging v def rows t
    → (searched : List Cell) (place : List ℕ) → place ≡ tuple_spelling searched
    → (there : Option stored.Copies) → there ≡ map.get t.rows (def.oid ∷ place) → IsRowAt rows searched there
row_found v def rows t h searched place at None is = ap (map.get rows) (sym at) ∙ not_there v def rows t h place (sym is)
row_found v def rows t h searched place at (Some there) is = let was = was_there v def rows t h place there (sym is) in
    (was.0, subst (λ p. IsFound rows p there was.0) at was.1)

-- what is known of a row that was found
pub row_there : (v : Tables) (def : RelationDef) (rows : Rows) (t : stored.Tables) → IsChanging v def rows t
    → (searched : List Cell) (there : stored.Copies) → IsRowAt rows searched (Some there)
    → (was : Row) × (row_at searched rows ≡ Some was) × IsWireTuple was.cells × (there.body ≡ tuple_spelling was.cells)
    × (length was.cells ≡ length def.columns)
row_there v def rows t h searched there at = (
  at.0,
  at.1.at,
  h.tuples (tuple_spelling searched) at.0 at.1.at,
  ap (λ (k : stored.Copies). k.body) at.1.is,
  (h.form (tuple_spelling searched) at.0 at.1.at).width,
)

pub insert_is : (def : RelationDef) (row : List Cell) (rows : Rows) → Inserted row ≡ image_of def (Insert row) rows
unfolding image_of
insert_is def row rows = refl

pub truncate_is : (def : RelationDef) (rows : Rows) → Truncated ≡ image_of def Truncate rows
unfolding image_of
truncate_is def rows = refl

-- an image that is wanted is told
pub told_wanted : (wanted : Bool) → wanted ≡ true → (before after : List Image) (told : Image) → after ≡ before ++ told ∷ []
    → (if wanted then Some after else None) ≡ told_more (if wanted then Some before else None) (told ∷ [])
told_wanted true is before after told more = ap Some more
told_wanted false is before after told more = absurd (let never : ⊥ = cc in never)

module _ (def : RelationDef) (prior : Option (OldKind × List Cell)) (row : List Cell) (rows : Rows) (searched : List Cell)
    (checked : searched_identity def prior (Some row) ≡ Ok searched) where
  update_is : (there : Option Row) → row_at searched rows ≡ there → updated_image prior row there ≡ image_of def (Update prior row) rows
  unfolding image_of
  update_is there at = sym (ap (λ r. updated_image prior row (searched_row r rows)) checked ∙ ap (updated_image prior row) at)

  pub update_missed : row_at searched rows ≡ None → Missed prior (Some row) ≡ image_of def (Update prior row) rows
  update_missed none = update_is None none

  pub update_found : (was : Row) → row_at searched rows ≡ Some was → (told : Image) → told ≡ Updated was.cells (resolved row was.cells)
      → told ≡ image_of def (Update prior row) rows
  update_found was at told is = is ∙ update_is (Some was) at

module _ (def : RelationDef) (kind : OldKind) (row : List Cell) (rows : Rows) (searched : List Cell)
    (checked : searched_identity def (Some (kind, row)) None ≡ Ok searched) where
  delete_is : (there : Option Row) → row_at searched rows ≡ there → deleted_image kind row there ≡ image_of def (Delete kind row) rows
  unfolding image_of
  delete_is there at = sym (ap (λ r. deleted_image kind row (searched_row r rows)) checked ∙ ap (deleted_image kind row) at)

  pub delete_missed : row_at searched rows ≡ None → Missed (Some (kind, row)) None ≡ image_of def (Delete kind row) rows
  delete_missed none = delete_is None none

  pub delete_found : (was : Row) → row_at searched rows ≡ Some was → (cells : List Cell) → cells ≡ was.cells
      → Deleted cells ≡ image_of def (Delete kind row) rows
  delete_found was at cells is = ap Deleted is ∙ delete_is (Some was) at
