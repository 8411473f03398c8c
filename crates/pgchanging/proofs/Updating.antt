-- The changes of a keyed table that keep a row's place or end it: a row that was sent whole, one of
-- which cells are filled in, and one that goes.
use Rattle.std.proofs.Common.{◌≡◌, ◌⊎◌, ◌≤◌, ◌-◌, ℕ, List, [], ◌∷◌, Bool, true, false, cond, Option}
use Rattle.std.proofs.Common.{Some, None, Ok, refl, sym, ap, subst, ◌∙◌, inl, inr, arith}
use Rattle.std.specs.Prelude.{if◌then◌else◌, is_some, nat_lt, not}
use Rattle.std.specs.Ordering.{nat_cmp, eq_by_cmp}
use Rattle.std.specs.Cmp.Lexicographic.{slice_cmp, nat_list_cmp_total}
use Rattle.std.specs.FinMap as map
use Rattle.std.specs.FinMap.{FinMap, get-remove, same_map, nat_cmp-IsAntisymmetric}
use Rattle.std.specs.FinMap.{slice_cmp-IsAntisymmetric}
use Rattle.std.proofs.lemmas.Bool.{cases_Bool, or_parts}
use Rattle.std.proofs.lemmas.Bool.Decides.{nat_tests}
use Rattle.pgtuple.specs.declared.cell.Cell.{Cell}
use Rattle.pgtuple.specs.Cells.{tuple_spelling}
use Rattle.pgtuple.specs.Limits.{IsWireTuple}
use Rattle.pglogical.specs.declared.message.RelationDef.{RelationDef}
use Rattle.pglogical.specs.declared.message.Column.{Column}
use Rattle.pglogical.specs.declared.message.OldKind.{OldKind}
use Rattle.pgrel.specs.Identity.{keyed, key_cells, is_unchanged, has_unchanged, identity, resolved}
use Rattle.pgrel.specs.Identity.{lacks_identity, new_has_width, old_has_width, searched_identity}
use Rattle.pgrel.specs.declared.fault.RelFault.TheVariants.{Width}
use Rattle.pgrel.proofs.Rows.{sent_stays}
use Rattle.pgtables.specs.Kept as stored
use Rattle.pgrows.specs.Rows.{with_row_if_there}
use Rattle.pgapply.specs.declared.op.Op.TheVariants.{Update, Delete}
use Rattle.pgapply.specs.Value.{Row, Rows, Tables, identity_key, most_copies}
use Rattle.pgapply.specs.Apply.{with_row, without_row, rows_after}
use Rattle.pgapply.proofs.KeepsForm.{new_checked, refused, same_ok, same_place}
use Rattle.pgencoded.specs.Spelled.{IsChanging}
use Rattle.pgencoded.specs.Acts.{IsFound, KeepsPlace, MakesOf, StaysWhole, taken_row}
use Rattle.pgencoded.proofs.Acting.{moved_same, was_there}
use Rattle.pgencoded.proofs.Deciding.{updated_not, updated_one, deleted_not, deleted_one}

cases_Option : {X : Type 0} (o : Option X) → (o ≡ None) ⊎ ((x : X) × (o ≡ Some x))
cases_Option None = inl refl
cases_Option (Some x) = inr (x, refl)

-- the key cells of a row stay, whatever fills in its others
pub keys_stay : (columns : List Column) (cells olds : List Cell) → has_unchanged (key_cells columns cells) ≡ false
    → key_cells columns (resolved cells olds) ≡ key_cells columns cells
keys_stay [] cells olds sent = refl
keys_stay (column ∷ columns) [] olds sent = refl
keys_stay (column ∷ columns) (cell ∷ cells) [] sent = refl
keys_stay (column ∷ columns) (cell ∷ cells) (old ∷ olds) sent = stay column.key (keys_stay columns cells olds) sent
  where
    stay : (key : Bool) → (has_unchanged (key_cells columns cells) ≡ false
        → key_cells columns (resolved cells olds) ≡ key_cells columns cells)
        → has_unchanged (if key then cell ∷ key_cells columns cells else key_cells columns cells) ≡ false
        → (if key then (if is_unchanged cell then old else cell) ∷ key_cells columns (resolved cells olds)
        else key_cells columns (resolved cells olds))
        ≡ (if key then cell ∷ key_cells columns cells else key_cells columns cells)
    stay true rest sent =
        let parts = or_parts (is_unchanged cell) (has_unchanged (key_cells columns cells)) sent in
        let here : (if is_unchanged cell then old else cell) ≡ cell = ap (λ b. if b then old else cell) parts.0 in
        λ i. here i ∷ rest parts.1 i
    stay false rest sent = rest sent

-- the identity in a keyed table
keys_of : (def : RelationDef) (cells : List Cell) → keyed def ≡ true → identity def cells ≡ key_cells def.columns cells
keys_of def cells key = ap (λ b. if b then key_cells def.columns cells else cells) key

-- a row whose key was sent has its identity, whatever fills in its other cells
pub kept_place : (def : RelationDef) (place : List ℕ) (row olds : List Cell) → KeepsPlace def place row
    → place ≡ identity_key def (resolved row olds)
kept_place def place row olds keeps =
    keeps.place_is ∙ ap tuple_spelling
    (keys_of def row keeps.keyed ∙ sym (keys_stay def.columns row olds keeps.sent) ∙ sym (keys_of def (resolved row olds) keeps.keyed))

-- a row with which no old row was sent has the identity by which its row is searched
pub searched_kept : (def : RelationDef) (row searched : List Cell) → keyed def ≡ true
    → searched_identity def None (Some row) ≡ Ok searched
    → KeepsPlace def (tuple_spelling searched) row
searched_kept def row searched key e =
    let old = (refused (not (old_has_width def None)) Width _ searched e).1 in
    let widths = (refused (not (new_has_width def (Some row))) _ _ searched old).1 in
    let known = refused (has_unchanged (identity def row)) _ _ searched (refused (lacks_identity def None) _ _ searched widths).1 in
    record {
      keyed = key;
      place_is = ap tuple_spelling (sym (same_ok known.1));
      sent = ap has_unchanged (sym (keys_of def row key)) ∙ known.0;
    }

-- a row that was sent whole, and no old row with it, stays at the place where its row is searched
pub searched_whole : (def : RelationDef) (row searched : List Cell) → keyed def ≡ true → has_unchanged row ≡ false
    → searched_identity def None (Some row) ≡ Ok searched
    → StaysWhole def (tuple_spelling searched) row
searched_whole def row searched key sent e =
    let old = (refused (not (old_has_width def None)) Width _ searched e).1 in
    let widths = (refused (not (new_has_width def (Some row))) _ _ searched old).1 in
    let known = (refused (has_unchanged (identity def row)) _ _ searched (refused (lacks_identity def None) _ _ searched widths).1).1 in
    record {
      keyed = key;
      place_is = ap tuple_spelling (sym (same_ok known));
      width = new_checked def None row searched e;
      sent = sent;
    }

module _ (def : RelationDef) (prior : Option (OldKind × List Cell)) (row : List Cell) (rows : Rows) (searched : List Cell)
    (checked : searched_identity def prior (Some row) ≡ Ok searched) (place : List ℕ) (at : place ≡ tuple_spelling searched)
    (v : Tables) (t : stored.Tables) (h : IsChanging v def rows t) where
  -- one copy of a keyed row stands
  one_stands : (there : stored.Copies) (was : Row) → IsFound rows place there was → keyed def ≡ true → there.copies ≡ 1
  one_stands there was found key =
      let few : was.copies ≤ (if keyed def then 1 else most_copies) = (h.form place was found.at).copies in
      let one : was.copies ≤ 1 = subst (λ b. was.copies ≤ (if b then 1 else most_copies)) key few in
      let some = (h.form place was found.at).some in
      let is : there.copies ≡ was.copies = ap (λ (k : stored.Copies). k.copies) found.is in
      omega (arith, one, some, is)

  pub updated_whole : (next : stored.Tables) → StaysWhole def place row → IsWireTuple row
      → next ≡ with_row_if_there def.oid place (record { body = tuple_spelling row; copies = 1 }) t
      → MakesOf v def (rows_after def (Update prior row) rows) next
  updated_whole next stays tuple is = elim (cases_Option (map.get t.rows (def.oid ∷ place))) [
    | inl none ↦ updated_not def prior row rows searched checked place at v t h next none
        (is ∙ ap (λ (was : Option stored.Copies). if is_some was then put_one else t) none)
    | inr some ↦ updated_one def prior row rows searched checked place at v t h some.0 next some.1 (λ was found.
        subst (λ (cells : List Cell). MakesOf v def (with_row def cells (without_row place was rows)) next)
        (sym (sent_stays row was.cells stays.sent))
        (moved_same v def rows t h row place some.0 was next found stays.place_is tuple stays.width stays.sent
        (is ∙ ap (λ (was : Option stored.Copies). if is_some was then put_one else t) some.1
        ∙ ap (λ n. stored.with_row def.oid place (record { body = tuple_spelling row; copies = n }) t)
        (sym (one_stands some.0 was found stays.keyed)))))
  ]
    where
      put_one : stored.Tables
      put_one = stored.with_row def.oid place (record { body = tuple_spelling row; copies = 1 }) t

-- what isn't there goes without a change
remove_missing : (m : FinMap (slice_cmp nat_cmp) stored.Copies) (k : List ℕ) → map.get m k ≡ None → map.remove m k ≡ m
remove_missing m k none =
    same_map nat_list_cmp_total (slice_cmp-IsAntisymmetric nat_cmp-IsAntisymmetric) _ _
    (λ q. get-remove nat_list_cmp_total m k q ∙ elim (cases_Bool (eq_by_cmp (slice_cmp nat_cmp) q k)) [
      | inl here ↦ ap (λ b. cond b None (map.get m q)) here ∙ sym (ap (map.get m) (same_place q k here) ∙ none)
      | inr there ↦ ap (λ b. cond b None (map.get m q)) there
    ])

module _ (def : RelationDef) (kind : OldKind) (row : List Cell) (rows : Rows) (searched : List Cell)
    (checked : searched_identity def (Some (kind, row)) None ≡ Ok searched) (place : List ℕ) (at : place ≡ tuple_spelling searched)
    (v : Tables) (t : stored.Tables) (h : IsChanging v def rows t) where
  -- one copy of a keyed row stands
  one_goes : (there : stored.Copies) (was : Row) → IsFound rows place there was → keyed def ≡ true
      → taken_row def.oid place there t ≡ stored.without_row def.oid place t
  one_goes there was found key =
      let few : was.copies ≤ (if keyed def then 1 else most_copies) = (h.form place was found.at).copies in
      let one : was.copies ≤ 1 = subst (λ b. was.copies ≤ (if b then 1 else most_copies)) key few in
      let last : nat_lt 1 was.copies ≡ false = grind (arith, nat_tests) in
      ap (λ (k : stored.Copies). taken_row def.oid place k t) found.is
      ∙ ap (λ b. if b then stored.with_row def.oid place (record { body = tuple_spelling was.cells; copies = was.copies - 1 }) t
      else stored.without_row def.oid place t) last

  pub deleted_keyed : (next : stored.Tables) → keyed def ≡ true → next ≡ stored.without_row def.oid place t
      → MakesOf v def (rows_after def (Delete kind row) rows) next
  deleted_keyed next key is = elim (cases_Option (map.get t.rows (def.oid ∷ place))) [
    | inl none ↦ deleted_not def kind row rows searched checked place at v t h next none
        (is ∙ ap (λ rows. record t { rows = rows }) (remove_missing t.rows (def.oid ∷ place) none))
    | inr some ↦
        let was = was_there v def rows t h place some.0 some.1 in
        deleted_one def kind row rows searched checked place at v t h some.0 next some.1 (is ∙ sym (one_goes some.0 was.0 was.1 key))
  ]
