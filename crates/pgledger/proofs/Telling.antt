-- The images of a commit lead from the rows before it to those after it.
use Rattle.std.proofs.Common.{◌≡◌, ℕ, List, [], ◌∷◌, length, Option, Some, None, Ok, refl, sym, ap}
use Rattle.std.proofs.Common.{subst, ◌∙◌}
use Rattle.std.specs.FinMap as map
use Rattle.pgtuple.specs.Cells.{tuple_spelling}
use Rattle.pgtuple.specs.declared.cell.Cell.{Cell}
use Rattle.pglogical.specs.declared.message.RelationDef.{RelationDef}
use Rattle.pglogical.specs.declared.message.OldKind.{OldKind}
use Rattle.pgrel.specs.Identity.{checked_insert, searched_identity}
use Rattle.pgrel.proofs.Rows.{resolved_width, resolved_whole}
use Rattle.pgapply.specs.declared.op.Op.{Op}
use Rattle.pgapply.specs.declared.op.Op.TheVariants.{Insert, Update, Delete, Truncate}
use Rattle.pgapply.specs.Value.{Row, Rows, Table, Tables, AreRows, AreTables}
use Rattle.pgapply.specs.Apply.{Change, in_store, found_rows, updated, deleted, without_row, row_at}
use Rattle.pgapply.specs.Apply.{rows_after, apply, fold_changes}
use Rattle.pgapply.proofs.KeepsForm.{same_ok, went_on, went_in, insert_checked, new_checked, found}
use Rattle.pgapply.proofs.KeepsForm.{apply_keeps}
use Rattle.pgledger.specs.Images.{image_of, updated_image, deleted_image, searched_row}
use Rattle.pgledger.specs.Images.{rows_or_none, rows_under, images, images_after, lines, Goes}
use Rattle.pgledger.specs.Images.{Leads, Finds, LineLeads, LinesLead}

module _ (def : RelationDef) (rows next : Rows) (h : AreRows def rows) where
  goes : (place : List ℕ) (row : Row) → map.get rows place ≡ Some row → Goes def row.cells rows (without_row place row rows)
  goes place row there =
      let is = h place row there in
      (row, (is.width, is.sent), ap (map.get rows) (sym is.known) ∙ there, refl, ap (λ p. without_row p row rows) is.known)

  update_tells : (prior : Option (OldKind × List Cell)) (cells : List Cell) (place : List ℕ) (there : Option Row)
      → length cells ≡ length def.columns → map.get rows place ≡ there
      → updated def cells place rows there ≡ Ok next → Leads def (updated_image prior cells there) rows next
  update_tells prior cells place None w at e = sym (same_ok e)
  update_tells prior cells place (Some row) w at e =
      let is = h place row at in (
        without_row place row rows,
        goes place row at,
        ((resolved_width cells row.cells ∙ w, resolved_whole cells row.cells (w ∙ sym is.width) is.sent), e),
      )

  delete_tells : (kind : OldKind) (cells : List Cell) (place : List ℕ) (there : Option Row) → map.get rows place ≡ there
      → next ≡ deleted place rows there
      → Leads def (deleted_image kind cells there) rows next
  delete_tells kind cells place None at e = e
  delete_tells kind cells place (Some row) at e = subst (λ n. Goes def row.cells rows n) (sym e) (goes place row at)

  row_tells : (op : Op) → rows_after def op rows ≡ Ok next → Leads def (image_of def op rows) rows next
  unfolding rows_after image_of
  row_tells (Insert row) e =
      let s = went_on _ _ next e in
      (insert_checked def row s.0 (went_in (checked_insert def row) s.0 s.1), s.2)
  row_tells (Update prior row) e =
      let s = went_on _ _ next e in
      let searched = went_in (searched_identity def prior (Some row)) s.0 s.1 in
      let w = new_checked def prior row s.0 searched in
      subst (λ r. Leads def (updated_image prior row (searched_row r rows)) rows next) (sym searched)
      (update_tells prior row (tuple_spelling s.0) (row_at s.0 rows) w refl s.2)
  row_tells (Delete kind row) e =
      let s = went_on (in_store (searched_identity def (Some (kind, row)) None))
      (λ searched. Ok (deleted (tuple_spelling searched) rows (row_at searched rows))) next e in
      let searched = went_in (searched_identity def (Some (kind, row)) None) s.0 s.1 in
      subst (λ r. Leads def (deleted_image kind row (searched_row r rows)) rows next) (sym searched)
      (delete_tells kind row (tuple_spelling s.0) (row_at s.0 rows) refl (sym (same_ok s.2)))
  row_tells Truncate e = sym (same_ok e)

-- ---- the rows that an image speaks of

update_finds : (there : Option Table) (def : RelationDef) (prior : Option (OldKind × List Cell)) (cells : List Cell) (row : Option Row)
    (rows : Rows) → rows_under there def ≡ Ok rows → Finds there def (updated_image prior cells row) rows
update_finds there def prior cells None rows e = e
update_finds there def prior cells (Some row) rows e = e

delete_finds : (there : Option Table) (def : RelationDef) (kind : OldKind) (cells : List Cell) (row : Option Row) (rows : Rows)
    → rows_under there def ≡ Ok rows → Finds there def (deleted_image kind cells row) rows
delete_finds there def kind cells None rows e = e
delete_finds there def kind cells (Some row) rows e = e

finds : (there : Option Table) (def : RelationDef) (op : Op) (rows : Rows) → found_rows there def op ≡ Ok rows
    → Finds there def (image_of def op rows) rows
unfolding image_of
finds None def (Insert row) rows e = e
finds (Some table) def (Insert row) rows e = e
finds None def (Update prior row) rows e = update_finds None def prior row _ rows e
finds (Some table) def (Update prior row) rows e = update_finds (Some table) def prior row _ rows e
finds None def (Delete kind row) rows e = delete_finds None def kind row _ rows e
finds (Some table) def (Delete kind row) rows e = delete_finds (Some table) def kind row _ rows e
finds None def Truncate rows e = tt
finds (Some table) def Truncate rows e = tt

-- ---- a change, and several

change_tells : (tables next : Tables) (change : Change) → AreTables tables → apply tables change ≡ Ok next
    → LineLeads tables (record {
      definition = change.definition;
      image = image_of change.definition change.op
          (rows_or_none (found_rows (map.get tables change.definition.oid) change.definition change.op));
    }) next
unfolding apply
change_tells tables next change h e =
    let def = change.definition in
    let s = went_on _ _ next e in
    let r = went_on (rows_after def change.op s.0) _ next s.2 in
    let were = found (map.get tables def.oid) def change.op s.0 (λ table at. (h def.oid table at).each) s.1 in
    subst (λ found. LineLeads tables (record { definition = def; image = image_of def change.op (rows_or_none found) }) next) (sym s.1)
    (record {
      found = s.0;
      after = r.0;
      finds = finds (map.get tables def.oid) def change.op s.0 s.1;
      leads = row_tells def s.0 r.0 were change.op r.1;
      is = sym (same_ok r.2);
    })

pub commit_tells : (changes : List Change) (tables next : Tables) → AreTables tables → fold_changes tables changes ≡ Ok next
    → LinesLead tables (lines changes (images tables changes)) next
unfolding fold_changes images
commit_tells [] tables next h e = sym (same_ok e)
commit_tells (change ∷ changes) tables next h e =
    let s = went_on _ _ next e in (
      s.0,
      change_tells tables s.0 change h s.1,
      subst (λ r. LinesLead s.0 (lines changes (images_after r (λ mid. images mid changes))) next) (sym s.1)
          (commit_tells changes s.0 next (apply_keeps tables s.0 change h s.1) s.2),
    )
