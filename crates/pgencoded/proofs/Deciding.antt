-- The checks of a change, and what it does where they hold.
use Rattle.std.proofs.Common.{◌≡◌, ℕ, List, ◌∷◌, length, Option, Some, None, Result, Ok, Err, refl}
use Rattle.std.proofs.Common.{sym, ap, subst, ◌∙◌}
use Rattle.std.specs.Prelude.{⊤, false}
use Rattle.std.specs.FinMap as map
use Rattle.pgtuple.specs.declared.cell.Cell.{Cell}
use Rattle.pgtuple.specs.Cells.{tuple_spelling}
use Rattle.pglogical.specs.declared.message.RelationDef.{RelationDef}
use Rattle.pglogical.specs.declared.message.OldKind.{OldKind}
use Rattle.pgrel.specs.declared.fault.RelFault.{RelFault}
use Rattle.pgrel.specs.Identity.{has_unchanged, resolved, checked_insert, searched_identity}
use Rattle.pgrel.proofs.Rows.{resolved_whole}
use Rattle.pgtables.specs.Kept as stored
use Rattle.pgapply.specs.declared.op.Op.TheVariants.{Insert, Update, Delete, Truncate}
use Rattle.pgapply.specs.declared.fault.StoreFault.{StoreFault}
use Rattle.pgapply.specs.declared.fault.StoreFault.TheVariants as fault
use Rattle.pgapply.specs.Value.{Row, Rows, Tables}
use Rattle.pgapply.specs.Apply.{◌>>=◌, in_store, store_fault, with_row, without_row, updated}
use Rattle.pgapply.specs.Apply.{deleted, row_at, rows_after}
use Rattle.pgapply.specs.Stored.{IsFault}
use Rattle.pgencoded.specs.Spelled.{IsChanging}
use Rattle.pgencoded.specs.Acts.{IsFound, MakesOf, taken_row}
use Rattle.pgencoded.proofs.SpelledRows.{rows_gone}
use Rattle.pgapply.proofs.KeepsForm.{no_rows}
use Rattle.pgencoded.proofs.Acting.{not_there, was_there, take_changes, tuples_none}

-- the fault that is given is the fault
pub fault_of : {A : Type 0} (f : StoreFault) (r : Result A StoreFault) → r ≡ Err f → IsFault f r
fault_of fault.Clash r e = e
fault_of fault.NoIdentity r e = e
fault_of fault.UnknownIdentity r e = e
fault_of fault.UnchangedInInsert r e = e
fault_of fault.Width r e = e
fault_of fault.TooManyCopies r e = e
fault_of fault.Refused r e = tt
fault_of fault.NotAStore r e = e
fault_of fault.Memory r e = tt

-- so it is of what would go on
pub fault_first : {A B : Type 0} (f : StoreFault) (r : Result A StoreFault) (next : A → Result B StoreFault) → IsFault f r
    → IsFault f (r >>= next)
fault_first fault.Clash r next e = ap (λ r. r >>= next) e
fault_first fault.NoIdentity r next e = ap (λ r. r >>= next) e
fault_first fault.UnknownIdentity r next e = ap (λ r. r >>= next) e
fault_first fault.UnchangedInInsert r next e = ap (λ r. r >>= next) e
fault_first fault.Width r next e = ap (λ r. r >>= next) e
fault_first fault.TooManyCopies r next e = ap (λ r. r >>= next) e
fault_first fault.Refused r next e = tt
fault_first fault.NotAStore r next e = ap (λ r. r >>= next) e
fault_first fault.Memory r next e = tt

-- ---- Insert

pub insert_refused : (def : RelationDef) (row : List Cell) (rows : Rows) (f : StoreFault) (e : RelFault) → checked_insert def row ≡ Err e
    → f ≡ store_fault e → IsFault f (rows_after def (Insert row) rows)
unfolding rows_after
insert_refused def row rows f e checked is =
    fault_first f (in_store (checked_insert def row)) (λ _. with_row def row rows)
    (fault_of f (in_store (checked_insert def row)) (ap in_store checked ∙ ap Err (sym is)))

pub insert_goes : (def : RelationDef) (row : List Cell) (rows : Rows) (u : ⊤) → checked_insert def row ≡ Ok u
    → rows_after def (Insert row) rows ≡ with_row def row rows
unfolding rows_after
insert_goes def row rows u checked = ap (λ r. in_store r >>= λ _. with_row def row rows) checked

-- ---- Update

pub update_refused : (def : RelationDef) (prior : Option (OldKind × List Cell)) (row : List Cell) (rows : Rows) (f : StoreFault)
    → IsFault f (in_store (searched_identity def prior (Some row))) → IsFault f (rows_after def (Update prior row) rows)
unfolding rows_after
update_refused def prior row rows f h =
    fault_first f (in_store (searched_identity def prior (Some row)))
    (λ searched. updated def row (tuple_spelling searched) rows (row_at searched rows)) h

module _ (def : RelationDef) (prior : Option (OldKind × List Cell)) (row : List Cell) (rows : Rows) (searched : List Cell)
    (checked : searched_identity def prior (Some row) ≡ Ok searched) (place : List ℕ) (at : place ≡ tuple_spelling searched) where
  update_is : rows_after def (Update prior row) rows ≡ updated def row place rows (map.get rows place)
  unfolding rows_after
  update_is = ap (λ r. in_store r >>= λ searched. updated def row (tuple_spelling searched) rows (row_at searched rows)) checked
      ∙ ap (λ p. updated def row p rows (map.get rows p)) (sym at)

  module _ (v : Tables) (t : stored.Tables) (h : IsChanging v def rows t) where
    pub updated_not : (next : stored.Tables) → map.get t.rows (def.oid ∷ place) ≡ None → next ≡ t
        → MakesOf v def (rows_after def (Update prior row) rows) next
    updated_not next none is =
        (rows, update_is ∙ ap (updated def row place rows) (not_there v def rows t h place none), subst (IsChanging v def rows) (sym is) h)

    pub updated_one : (there : stored.Copies) (next : stored.Tables) → map.get t.rows (def.oid ∷ place) ≡ Some there
        → ((was : Row) → IsFound rows place there was
        → MakesOf v def (with_row def (resolved row was.cells) (without_row place was rows)) next)
        → MakesOf v def (rows_after def (Update prior row) rows) next
    updated_one there next some moves =
        let was = was_there v def rows t h place there some in
        let made = moves was.0 was.1 in
        (made.0, update_is ∙ ap (updated def row place rows) was.1.at ∙ made.1, made.2)

    pub updated_fault : (there : stored.Copies) (f : StoreFault) → map.get t.rows (def.oid ∷ place) ≡ Some there
        → ((was : Row) → IsFound rows place there was → IsFault f (with_row def (resolved row was.cells) (without_row place was rows)))
        → IsFault f (rows_after def (Update prior row) rows)
    updated_fault there f some refuses =
        let was = was_there v def rows t h place there some in
        subst (IsFault f) (sym (update_is ∙ ap (updated def row place rows) was.1.at)) (refuses was.0 was.1)

-- ---- Delete

pub delete_refused : (def : RelationDef) (kind : OldKind) (row : List Cell) (rows : Rows) (f : StoreFault)
    → IsFault f (in_store (searched_identity def (Some (kind, row)) None)) → IsFault f (rows_after def (Delete kind row) rows)
unfolding rows_after
delete_refused def kind row rows f h =
    fault_first f (in_store (searched_identity def (Some (kind, row)) None))
    (λ searched. Ok (deleted (tuple_spelling searched) rows (row_at searched rows))) h

module _ (def : RelationDef) (kind : OldKind) (row : List Cell) (rows : Rows) (searched : List Cell)
    (checked : searched_identity def (Some (kind, row)) None ≡ Ok searched) (place : List ℕ) (at : place ≡ tuple_spelling searched) where
  delete_is : rows_after def (Delete kind row) rows ≡ Ok (deleted place rows (map.get rows place))
  unfolding rows_after
  delete_is = ap (λ r. in_store r >>= λ searched. Ok (deleted (tuple_spelling searched) rows (row_at searched rows))) checked
      ∙ ap (λ p. Ok (deleted p rows (map.get rows p))) (sym at)

  module _ (v : Tables) (t : stored.Tables) (h : IsChanging v def rows t) where
    pub deleted_not : (next : stored.Tables) → map.get t.rows (def.oid ∷ place) ≡ None → next ≡ t
        → MakesOf v def (rows_after def (Delete kind row) rows) next
    deleted_not next none is = (
      rows,
      delete_is ∙ ap (λ o. Ok (deleted place rows o)) (not_there v def rows t h place none),
      subst (IsChanging v def rows) (sym is) h,
    )

    pub deleted_one : (there : stored.Copies) (next : stored.Tables) → map.get t.rows (def.oid ∷ place) ≡ Some there
        → next ≡ taken_row def.oid place there t → MakesOf v def (rows_after def (Delete kind row) rows) next
    deleted_one there next some is =
        let was = was_there v def rows t h place there some in (
          without_row place was.0 rows,
          delete_is ∙ ap (λ o. Ok (deleted place rows o)) was.1.at,
          subst (IsChanging v def (without_row place was.0 rows)) (sym is) (take_changes v def rows t h place there was.0 was.1),
        )

-- ---- Truncate

pub truncated : (v : Tables) (def : RelationDef) (rows : Rows) (t next : stored.Tables) → IsChanging v def rows t
    → next ≡ stored.without_rows def.oid t → MakesOf v def (rows_after def Truncate rows) next
unfolding rows_after
truncated v def rows t next h is = (
  map.empty,
  refl,
  subst (IsChanging v def map.empty) (sym is)
      (record { spelled = rows_gone v def rows t h.spelled; form = no_rows def; tuples = tuples_none }),
)

-- a row that is resolved has all its cells
pub resolved_sent : (v : Tables) (def : RelationDef) (rows : Rows) (t : stored.Tables) → IsChanging v def rows t
    → (place : List ℕ) (there : stored.Copies) (was : Row) → IsFound rows place there was
    → (row : List Cell) → length row ≡ length def.columns → has_unchanged (resolved row was.cells) ≡ false
resolved_sent v def rows t h place there was found row width = let is = h.form place was found.at in
    resolved_whole row was.cells (width ∙ sym is.width) is.sent
