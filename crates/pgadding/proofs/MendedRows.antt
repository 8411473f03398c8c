-- The changes at an identity make the server's row there of the copy's, and leave the others.
use Rattle.std.proofs.Common.{◌≡◌, ◌⊎◌, ◌≤◌, ◌<◌, ◌+◌, ◌-◌, ◌++◌, ℕ, suc, zero, List, [], ◌∷◌}
use Rattle.std.proofs.Common.{length, Bool, true, false, cond, not, Option, Some, None, Result, Ok}
use Rattle.std.proofs.Common.{Err, refl, sym, ap, subst, ◌∙◌, inl, inr, arith}
use Rattle.std.specs.Prelude.{nat_lt, if◌then◌else◌, ◌==◌, ◌||◌, ◌&&◌}
use Rattle.std.specs.Ordering.{nat_cmp, eq_by_cmp}
use Rattle.std.specs.Cmp.{unsigned_Decides}
use Rattle.std.specs.Cmp.Lexicographic.{slice_cmp, nat_list_cmp_total}
use Rattle.std.specs.FinMap as map
use Rattle.std.specs.FinMap.{get-insert, get-remove}
use Rattle.std.proofs.lemmas.Bool.{cases_Bool}
use Rattle.std.proofs.lemmas.Bool.Decides.{nat_tests}
use Rattle.std.proofs.lemmas.Cmp.{eq_by_cmp_equiv}
use Rattle.pgtuple.specs.declared.cell.Cell.{Cell}
use Rattle.pgtuple.specs.declared.cell.Cell.TheVariants.{Null}
use Rattle.pgtuple.specs.Cells.{tuple_spelling}
use Rattle.pgtuple.specs.Limits.{IsTuple}
use Rattle.pgtuple.proofs.Tuples.{tuples_apart}
use Rattle.pglogical.specs.declared.message.Column.{Column}
use Rattle.pglogical.specs.declared.message.RelationDef.{RelationDef}
use Rattle.pglogical.specs.declared.message.OldKind.{OldKind}
use Rattle.pglogical.specs.declared.message.OldKind.TheVariants.{Key, Full}
use Rattle.pglogical.specs.declared.message.Item.{Item}
use Rattle.pglogical.specs.declared.message.Item.TheVariants as item
use Rattle.pgrel.specs.Identity.{keyed, identity, identity_full, key_cells, has_width}
use Rattle.pgrel.specs.Identity.{has_unchanged, is_unchanged, lacks_identity, checked_insert}
use Rattle.pgrel.specs.Identity.{searched_identity, known_cells}
use Rattle.pgrel.proofs.Rows.{sent_stays}
use Rattle.pgrel.proofs.Keys.{bag_identity}
use Rattle.pgapply.specs.declared.op.Op.{Op}
use Rattle.pgapply.specs.declared.op.Op.TheVariants.{Insert, Update, Delete, Truncate}
use Rattle.pgapply.specs.declared.fault.StoreFault.{StoreFault}
use Rattle.pgapply.specs.Value.{Row, Rows, IsRow, identity_key, most_copies}
use Rattle.pgapply.specs.CarriedCopies.{copies_of}
use Rattle.pgapply.specs.Apply.{◌>>=◌, rows_after, in_store, with_row, without_row, added, updated}
use Rattle.pgapply.specs.Apply.{deleted}
use Rattle.pgapply.proofs.KeepsForm.{same_place}
use Rattle.pgadding.specs.Mended.{key_alone, keyed_changes, times, bag_changes, changes_at}

-- ---- a list of changes of a table's rows

abbrev pub op_of : Item → Op
op_of (item.Relation def) = Truncate
op_of (item.Insert oid row) = Insert row
op_of (item.Update oid prior row) = Update prior row
op_of (item.Delete oid kind row) = Delete kind row
op_of (item.Truncate options oids) = Truncate

abbrev pub fold_items : RelationDef → Rows → List Item → Result Rows StoreFault
fold_items def rows [] = Ok rows
fold_items def rows (i ∷ items) = rows_after def (op_of i) rows >>= λ next. fold_items def next items

pub then_all : (r : Result Rows StoreFault) (f g h : Rows → Result Rows StoreFault) → ((rows : Rows) → f rows ≡ (g rows >>= h))
    → (r >>= f) ≡ ((r >>= g) >>= h)
then_all (Ok rows) f g h is = is rows
then_all (Err fault) f g h is = refl

pub fold_items-append : (def : RelationDef) (a b : List Item) (rows : Rows)
    → fold_items def rows (a ++ b) ≡ (fold_items def rows a >>= λ next. fold_items def next b)
fold_items-append def [] b rows = refl
fold_items-append def (i ∷ a) b rows = then_all (rows_after def (op_of i) rows) _ _ _ (fold_items-append def a b)

-- ---- which row stands at an identity

abbrev pub same_place_as : List ℕ → List ℕ → Bool
same_place_as place q = eq_by_cmp (slice_cmp nat_cmp) q place

-- at this place stands this, and elsewhere what stood there
abbrev pub IsPut : Rows → List ℕ → Option Row → Rows → Type 0
IsPut rows place there next = (q : List ℕ) → map.get next q ≡ cond (same_place_as place q) there (map.get rows q)

pub record Placed (rows : Rows) (place : List ℕ) (there : Option Row) (outcome : Result Rows StoreFault) : Type 0 where
  pub next : Rows
  pub is : outcome ≡ Ok next
  pub put : IsPut rows place there next

pub itself : (place : List ℕ) → same_place_as place place ≡ true
itself place = (eq_by_cmp_equiv nat_list_cmp_total).refl place

pub put_at : (rows : Rows) (place : List ℕ) (there : Option Row) (next : Rows) → IsPut rows place there next → map.get next place ≡ there
put_at rows place there next put = put place ∙ ap (λ b. cond b there (map.get rows place)) (itself place)

-- what stands there already
pub stays : (rows : Rows) (place : List ℕ) (there : Option Row) → map.get rows place ≡ there → IsPut rows place there rows
stays rows place there e q = elim (cases_Bool (same_place_as place q)) [
  | inl same ↦ ap (map.get rows) (same_place q place same) ∙ e ∙ ap (λ b. cond b there (map.get rows q)) (sym same)
  | inr other ↦ ap (λ b. cond b there (map.get rows q)) (sym other)
]

twice : {A : Type 0} (b : Bool) (x y z : A) → cond b x (cond b y z) ≡ cond b x z
twice true x y z = refl
twice false x y z = refl

pub put_again : (rows : Rows) (place : List ℕ) (first there : Option Row) (mid next : Rows) → IsPut rows place first mid
    → IsPut mid place there next → IsPut rows place there next
put_again rows place first there mid next a b q =
    b q ∙ ap (cond (same_place_as place q) there) (a q) ∙ twice (same_place_as place q) there first (map.get rows q)

pub inserted_put : (rows : Rows) (place : List ℕ) (row : Row) → IsPut rows place (Some row) (map.insert rows place row)
inserted_put rows place row q = get-insert nat_list_cmp_total rows place row q

pub removed_put : (rows : Rows) (place : List ℕ) → IsPut rows place None (map.remove rows place)
removed_put rows place q = get-remove nat_list_cmp_total rows place q

-- ---- the checks pass

wide : (def : RelationDef) (cells : List Cell) → length cells ≡ length def.columns → has_width def cells ≡ true
wide def cells w = (unsigned_Decides (length cells) (length def.columns)).1 w

checked : (def : RelationDef) (cells : List Cell) → length cells ≡ length def.columns → has_unchanged cells ≡ false
    → checked_insert def cells ≡ Ok tt
checked def cells w sent = rw (wide def cells w, sent)

or_false : (a b : Bool) → (a || b) ≡ false → (a ≡ false) × (b ≡ false)
or_false true b e = absurd (cc)
or_false false b e = (refl, e)

sent_key : (columns : List Column) (cells : List Cell) → has_unchanged cells ≡ false → has_unchanged (key_cells columns cells) ≡ false
sent_key [] cells e = refl
sent_key (column ∷ columns) [] e = refl
sent_key (column ∷ columns) (cell ∷ cells) e =
    let parts = or_false (is_unchanged cell) (has_unchanged cells) e in
    let rest = sent_key columns cells parts.1 in
    elim column.key as (λ b. has_unchanged (if b then cell ∷ key_cells columns cells else key_cells columns cells) ≡ false) [
      | true ↦ ap (λ b. b || has_unchanged (key_cells columns cells)) parts.0 ∙ rest
      | false ↦ rest
    ]

sent_identity : (def : RelationDef) (cells : List Cell) → has_unchanged cells ≡ false → has_unchanged (identity def cells) ≡ false
sent_identity def cells e = elim (keyed def) as (λ b. has_unchanged (if b then key_cells def.columns cells else cells) ≡ false) [
  | true ↦ sent_key def.columns cells e
  | false ↦ e
]

known : (cells : List Cell) → has_unchanged cells ≡ false → known_cells cells ≡ Ok cells
known cells e = rw e

-- a new row finds its own by the key
searched_new : (def : RelationDef) (cells : List Cell) → keyed def ≡ true → length cells ≡ length def.columns → has_unchanged cells ≡ false
    → searched_identity def None (Some cells) ≡ Ok (identity def cells)
searched_new def cells key w sent =
    let has : lacks_identity def None ≡ false = rw key in
    rw (wide def cells w, has) (known (identity def cells) (sent_identity def cells sent))

-- and so does an old one by what identifies it
searched_old : (def : RelationDef) (kind : OldKind) (cells : List Cell) → lacks_identity def (Some (kind, cells)) ≡ false
    → length cells ≡ length def.columns → has_unchanged (identity def cells) ≡ false
    → searched_identity def (Some (kind, cells)) None ≡ Ok (identity def cells)
searched_old def kind cells has w sent = rw (wide def cells w, has) (known (identity def cells) sent)

-- ---- one change

-- a row comes where none stood
insert_first : (def : RelationDef) (cells : List Cell) (rows : Rows) → length cells ≡ length def.columns → has_unchanged cells ≡ false
    → map.get rows (identity_key def cells) ≡ None
    → rows_after def (Insert cells) rows ≡ Ok (map.insert rows (identity_key def cells) (record { cells = cells; copies = 1 }))
unfolding rows_after
insert_first def cells rows w sent none =
    ap (λ r. in_store r >>= λ _. with_row def cells rows) (checked def cells w sent) ∙ ap (added def cells rows) none

-- one more copy of it
insert_more : (def : RelationDef) (cells : List Cell) (rows : Rows) (n : ℕ) → keyed def ≡ false → length cells ≡ length def.columns
    → has_unchanged cells ≡ false → n < most_copies
    → map.get rows (identity_key def cells) ≡ Some (record { cells = cells; copies = n })
    → rows_after def (Insert cells) rows ≡ Ok (map.insert rows (identity_key def cells) (record { cells = cells; copies = n + 1 }))
unfolding rows_after
insert_more def cells rows n bag w sent few there =
    let under : nat_lt n most_copies ≡ true = grind (arith, nat_tests) in
    ap (λ r. in_store r >>= λ _. with_row def cells rows) (checked def cells w sent) ∙ ap (added def cells rows) there
    ∙ rw (bag, under) refl

-- in a keyed table a row is replaced by the one of its key
update_row : (def : RelationDef) (cells : List Cell) (rows : Rows) (row : Row) → keyed def ≡ true → length cells ≡ length def.columns
    → has_unchanged cells ≡ false → row.copies ≤ 1
    → map.get rows (identity_key def cells) ≡ Some row
    → rows_after def (Update None cells) rows
    ≡ Ok (map.insert (map.remove rows (identity_key def cells)) (identity_key def cells) (record { cells = cells; copies = 1 }))
unfolding rows_after
update_row def cells rows row key w sent one there =
    let place = identity_key def cells in
    let last : nat_lt 1 row.copies ≡ false = grind (arith, nat_tests) in
    let gone : without_row place row rows ≡ map.remove rows place = rw last refl in
    ap (λ r. in_store r >>= λ searched. updated def cells (tuple_spelling searched) rows (map.get rows (tuple_spelling searched)))
    (searched_new def cells key w sent)
    ∙ ap (updated def cells place rows) there
    ∙ ap (λ its. with_row def its (without_row place row rows)) (sent_stays cells row.cells sent)
    ∙ ap (with_row def cells) gone
    ∙ ap (added def cells (map.remove rows place)) (put_at rows place None (map.remove rows place) (removed_put rows place))

-- a row goes, or one copy of it
delete_row : (def : RelationDef) (kind : OldKind) (cells : List Cell) (rows : Rows) (row : Row)
    → lacks_identity def (Some (kind, cells)) ≡ false → length cells ≡ length def.columns
    → has_unchanged (identity def cells) ≡ false → map.get rows (identity_key def cells) ≡ Some row
    → rows_after def (Delete kind cells) rows ≡ Ok (without_row (identity_key def cells) row rows)
unfolding rows_after
delete_row def kind cells rows row has w sent there =
    ap (λ r. in_store r >>= λ searched. Ok (deleted (tuple_spelling searched) rows (map.get rows (tuple_spelling searched))))
    (searched_old def kind cells has w sent)
    ∙ ap (λ found. Ok (deleted (identity_key def cells) rows found)) there

-- ---- with a key

alone_width : (columns : List Column) (cells : List Cell) → length cells ≡ length columns
    → length (key_alone columns cells) ≡ length columns
alone_width [] cells w = refl
alone_width (column ∷ columns) [] w = absurd (omega arith)
alone_width (column ∷ columns) (cell ∷ cells) w = let rest = alone_width columns cells (omega arith) in omega (arith, rest)

alone_key : (columns : List Column) (cells : List Cell) → key_cells columns (key_alone columns cells) ≡ key_cells columns cells
alone_key [] cells = refl
alone_key (column ∷ columns) [] = refl
alone_key (column ∷ columns) (cell ∷ cells) =
    let rest = alone_key columns cells in
    elim column.key as (λ b.
    (if b then (if b then cell else Null) ∷ key_cells columns (key_alone columns cells)
    else key_cells columns (key_alone columns cells)) ≡ (if b then cell ∷ key_cells columns cells else key_cells columns cells)) [
      | true ↦ ap (λ its. cell ∷ its) rest
      | false ↦ rest
    ]

alone_identity : (def : RelationDef) (cells : List Cell) → keyed def ≡ true
    → identity def (key_alone def.columns cells) ≡ identity def cells
alone_identity def cells key =
    ap (λ b. if b then key_cells def.columns (key_alone def.columns cells) else key_alone def.columns cells) key
    ∙ alone_key def.columns cells
    ∙ sym (ap (λ b. if b then key_cells def.columns cells else cells) key)

-- a row stands alone
one_copy : (def : RelationDef) (place : List ℕ) (row : Row) → keyed def ≡ true → IsRow def place row → row.copies ≡ 1
one_copy def place row key is =
    let most : row.copies ≤ (if keyed def then 1 else most_copies) = is.copies in
    let one : row.copies ≤ 1 = subst (λ b. row.copies ≤ (if b then 1 else most_copies)) key most in
    let some : 1 ≤ row.copies = is.some in
    omega arith

alone_row : (row : Row) → row.copies ≡ 1 → ◌≡◌ {A = Option Row} (Some (record { cells = row.cells; copies = 1 })) (Some row)
alone_row row e = ap (λ n. Some (record { cells = row.cells; copies = n })) (sym e)

abbrev pub IsRowOf : RelationDef → List ℕ → Option Row → Type 0
IsRowOf def place None = Unit {0}
IsRowOf def place (Some row) = IsRow def place row

pub keyed_placed : (def : RelationDef) (place : List ℕ) (rows : Rows) (theirs ours : Option Row) → keyed def ≡ true
    → IsRowOf def place theirs → IsRowOf def place ours → map.get rows place ≡ ours
    → Placed rows place theirs (fold_items def rows (keyed_changes def theirs ours))
keyed_placed def place rows None None key is was there = record { next = rows; is = refl; put = stays rows place None there }
keyed_placed def place rows (Some row) None key is was none =
    let spelled : place ≡ identity_key def row.cells = is.known in
    let made = insert_first def row.cells rows is.width is.sent (ap (map.get rows) (sym spelled) ∙ none) in
    let at = ap (λ p. map.insert rows p (record { cells = row.cells; copies = 1 })) (sym spelled) in
    let next = map.insert rows place (record { cells = row.cells; copies = 1 }) in
    record {
      next = next;
      is = ap (λ r. r >>= λ n. Ok n) (made ∙ ap (λ n. Ok n) at);
      put = subst (λ there. IsPut rows place there next) (alone_row row (one_copy def place row key is))
          (inserted_put rows place (record { cells = row.cells; copies = 1 }));
    }
keyed_placed def place rows (Some row) (Some old) key is was there =
    let spelled : place ≡ identity_key def row.cells = is.known in
    let one : old.copies ≡ 1 = one_copy def place old key was in
    let new : Row = record { cells = row.cells; copies = 1 } in
    let made = update_row def row.cells rows old key is.width is.sent (omega arith) (ap (map.get rows) (sym spelled) ∙ there) in
    let at = ap (λ p. map.insert (map.remove rows p) p new) (sym spelled) in
    let next = map.insert (map.remove rows place) place new in
    record {
      next = next;
      is = ap (λ r. r >>= λ n. Ok n) (made ∙ ap (λ n. Ok n) at);
      put = subst (λ there. IsPut rows place there next) (alone_row row (one_copy def place row key is))
          (put_again rows place None (Some new) (map.remove rows place) next (removed_put rows place)
          (inserted_put (map.remove rows place) place new));
    }
keyed_placed def place rows None (Some old) key is was there =
    let alone = key_alone def.columns old.cells in
    let same : identity_key def alone ≡ place = ap tuple_spelling (alone_identity def old.cells key) ∙ sym was.known in
    let has : lacks_identity def (Some (Key, alone)) ≡ false = rw key refl in
    let sent : has_unchanged (identity def alone) ≡ false =
    ap has_unchanged (alone_identity def old.cells key) ∙ sent_identity def old.cells was.sent in
    let made = delete_row def Key alone rows old has (alone_width def.columns old.cells was.width) sent (ap (map.get rows) same ∙ there) in
    let one : old.copies ≡ 1 = one_copy def place old key was in
    let last : nat_lt 1 old.copies ≡ false = grind (arith, nat_tests) in
    let gone : without_row place old rows ≡ map.remove rows place = rw last refl in
    record {
      next = map.remove rows place;
      is = ap (λ r. r >>= λ n. Ok n) (made ∙ ap (λ p. Ok (without_row p old rows)) same ∙ ap (λ n. Ok n) gone);
      put = removed_put rows place;
    }

-- ---- without a key

-- so many copies of a row
abbrev pub stock : List Cell → ℕ → Option Row
stock cells zero = None
stock cells (suc n) = Some (record { cells = cells; copies = suc n })

stocked : (cells : List Cell) (n : ℕ) → 1 ≤ n → stock cells n ≡ Some (record { cells = cells; copies = n })
stocked cells zero some = absurd (omega arith)
stocked cells (suc n) some = refl

pub row_stock : (row : Row) → 1 ≤ row.copies → ◌≡◌ {A = Option Row} (Some row) (stock row.cells row.copies)
row_stock row some = sym (stocked row.cells row.copies some)

pub full_tells : (def : RelationDef) (cells : List Cell) → def.letter ≡ identity_full → lacks_identity def (Some (Full, cells)) ≡ false
full_tells def cells full =
    let letter : (def.letter == identity_full) ≡ true = (unsigned_Decides def.letter identity_full).1 full in
    elim (keyed def) as (λ b. (not b && not ((def.letter == identity_full) && true)) ≡ false) [
      | true ↦ refl
      | false ↦ ap (λ b. not (b && true)) letter
    ]

insert_one : (def : RelationDef) (cells : List Cell) (rows : Rows) (m : ℕ) → keyed def ≡ false → length cells ≡ length def.columns
    → has_unchanged cells ≡ false → m < most_copies
    → map.get rows (identity_key def cells) ≡ stock cells m
    → Placed rows (identity_key def cells) (stock cells (suc m)) (rows_after def (Insert cells) rows)
insert_one def cells rows zero bag w sent few there = record {
  next = map.insert rows (identity_key def cells) (record { cells = cells; copies = 1 });
  is = insert_first def cells rows w sent there;
  put = inserted_put rows (identity_key def cells) (record { cells = cells; copies = 1 });
}
insert_one def cells rows (suc m) bag w sent few there =
    let more : suc m + 1 ≡ suc (suc m) = omega arith in
    record {
      next = map.insert rows (identity_key def cells) (record { cells = cells; copies = suc m + 1 });
      is = insert_more def cells rows (suc m) bag w sent few there;
      put = subst (λ n. IsPut rows (identity_key def cells) (Some (record { cells = cells; copies = n }))
          (map.insert rows (identity_key def cells) (record { cells = cells; copies = suc m + 1 }))) more
          (inserted_put rows (identity_key def cells) (record { cells = cells; copies = suc m + 1 }));
    }

-- one step, and those behind it
joined : (rows : Rows) (place : List ℕ) (first there : Option Row) (r : Result Rows StoreFault) (f : Rows → Result Rows StoreFault)
    (step : Placed rows place first r) → Placed step.next place there (f step.next)
    → Placed rows place there (r >>= f)
joined rows place first there r f step rest = record {
  next = rest.next;
  is = ap (λ r. r >>= f) step.is ∙ rest.is;
  put = put_again rows place first there step.next rest.next step.put rest.put;
}

insert_times : (def : RelationDef) (oid : ℕ) (cells : List Cell) (k : ℕ) (rows : Rows) (m : ℕ) → keyed def ≡ false
    → length cells ≡ length def.columns → has_unchanged cells ≡ false → m + k ≤ most_copies
    → map.get rows (identity_key def cells) ≡ stock cells m
    → Placed rows (identity_key def cells) (stock cells (m + k)) (fold_items def rows (times k (item.Insert oid cells)))
insert_times def oid cells zero rows m bag w sent few there =
    let none : m ≡ m + 0 = omega arith in
    record { next = rows; is = refl; put = stays rows (identity_key def cells) (stock cells (m + 0)) (there ∙ ap (stock cells) none) }
insert_times def oid cells (suc k) rows m bag w sent few there =
    let place = identity_key def cells in
    let step = insert_one def cells rows m bag w sent (omega arith) there in
    let sum : suc m + k ≡ m + suc k = omega arith in
    let rest = insert_times def oid cells k step.next (suc m) bag w sent (omega arith)
    (put_at rows place (stock cells (suc m)) step.next step.put) in
    joined rows place (stock cells (suc m)) (stock cells (m + suc k)) (rows_after def (Insert cells) rows)
    (λ next. fold_items def next (times k (item.Insert oid cells))) step
    (subst (λ n. Placed step.next place (stock cells n) (fold_items def step.next (times k (item.Insert oid cells)))) sum rest)

delete_one : (def : RelationDef) (cells : List Cell) (rows : Rows) (m : ℕ) → def.letter ≡ identity_full → length cells ≡ length def.columns
    → has_unchanged cells ≡ false
    → map.get rows (identity_key def cells) ≡ stock cells (suc m)
    → Placed rows (identity_key def cells) (stock cells m) (rows_after def (Delete Full cells) rows)
delete_one def cells rows zero full w sent there =
    let place = identity_key def cells in
    record {
      next = map.remove rows place;
      is = delete_row def Full cells rows (record { cells = cells; copies = 1 }) (full_tells def cells full) w
          (sent_identity def cells sent) there;
      put = removed_put rows place;
    }
delete_one def cells rows (suc m) full w sent there =
    let place = identity_key def cells in
    let row : Row = record { cells = cells; copies = suc (suc m) } in
    let several : nat_lt 1 (suc (suc m)) ≡ true = grind (arith, nat_tests) in
    let less : suc (suc m) - 1 ≡ suc m = omega arith in
    let left : without_row place row rows ≡ map.insert rows place (record { cells = cells; copies = suc m }) =
    ap (λ b. cond b (map.insert rows place (record { cells = cells; copies = suc (suc m) - 1 })) (map.remove rows place)) several
    ∙ ap (λ n. map.insert rows place (record { cells = cells; copies = n })) less in
    record {
      next = map.insert rows place (record { cells = cells; copies = suc m });
      is = delete_row def Full cells rows row (full_tells def cells full) w (sent_identity def cells sent) there ∙ ap (λ n. Ok n) left;
      put = inserted_put rows place (record { cells = cells; copies = suc m });
    }

delete_times : (def : RelationDef) (oid : ℕ) (cells : List Cell) (k : ℕ) (rows : Rows) (m : ℕ) → def.letter ≡ identity_full
    → length cells ≡ length def.columns → has_unchanged cells ≡ false
    → map.get rows (identity_key def cells) ≡ stock cells (m + k)
    → Placed rows (identity_key def cells) (stock cells m) (fold_items def rows (times k (item.Delete oid Full cells)))
delete_times def oid cells zero rows m full w sent there =
    let none : m + 0 ≡ m = omega arith in
    record { next = rows; is = refl; put = stays rows (identity_key def cells) (stock cells m) (there ∙ ap (stock cells) none) }
delete_times def oid cells (suc k) rows m full w sent there =
    let place = identity_key def cells in
    let sum : m + suc k ≡ suc (m + k) = omega arith in
    let step = delete_one def cells rows (m + k) full w sent (there ∙ ap (stock cells) sum) in
    let rest = delete_times def oid cells k step.next m full w sent (put_at rows place (stock cells (m + k)) step.next step.put) in
    joined rows place (stock cells (m + k)) (stock cells m) (rows_after def (Delete Full cells) rows)
    (λ next. fold_items def next (times k (item.Delete oid Full cells))) step rest

-- no copy goes, or the whole row tells which one
abbrev pub MayGo : RelationDef → ℕ → ℕ → Type 0
MayGo def theirs ours = (def.letter ≡ identity_full) ⊎ (ours ≤ theirs)

-- some go, where they may
delete_some : (def : RelationDef) (oid : ℕ) (cells : List Cell) (k : ℕ) (rows : Rows) (m : ℕ) → MayGo def m (m + k)
    → length cells ≡ length def.columns → has_unchanged cells ≡ false
    → map.get rows (identity_key def cells) ≡ stock cells (m + k)
    → Placed rows (identity_key def cells) (stock cells m) (fold_items def rows (times k (item.Delete oid Full cells)))
delete_some def oid cells k rows m (inl full) w sent there = delete_times def oid cells k rows m full w sent there
delete_some def oid cells k rows m (inr few) w sent there =
    let none : k ≡ 0 = omega arith in
    let same : m + k ≡ m = omega arith in
    subst (λ n. Placed rows (identity_key def cells) (stock cells m) (fold_items def rows (times n (item.Delete oid Full cells))))
    (sym none)
    (record { next = rows; is = refl; put = stays rows (identity_key def cells) (stock cells m) (there ∙ ap (stock cells) same) })

few_copies : (def : RelationDef) (place : List ℕ) (row : Row) → keyed def ≡ false → IsRow def place row → row.copies ≤ most_copies
few_copies def place row bag is = subst (λ b. row.copies ≤ (if b then 1 else most_copies)) bag is.copies

-- at the place that spells it
placed_at : (def : RelationDef) (cells : List Cell) (place : List ℕ) (rows : Rows) (there : Option Row) (outcome : Result Rows StoreFault)
    → place ≡ identity_key def cells
    → Placed rows (identity_key def cells) there outcome → Placed rows place there outcome
placed_at def cells place rows there outcome e it = subst (λ p. Placed rows p there outcome) (sym e) it

-- the same row with other copies
bag_both : (def : RelationDef) (place : List ℕ) (rows : Rows) (cells : List Cell) (theirs ours : ℕ) → keyed def ≡ false
    → length cells ≡ length def.columns → has_unchanged cells ≡ false
    → place ≡ identity_key def cells → theirs ≤ most_copies → ours ≤ most_copies → MayGo def theirs ours
    → map.get rows place ≡ stock cells ours
    → Placed rows place (stock cells theirs)
    (fold_items def rows (times (theirs - ours) (item.Insert def.oid cells) ++ times (ours - theirs) (item.Delete def.oid Full cells)))
bag_both def place rows cells theirs ours bag w sent spelled many few may there =
    let high = ours + (theirs - ours) in
    let ins = times (theirs - ours) (item.Insert def.oid cells) in
    let del = times (ours - theirs) (item.Delete def.oid Full cells) in
    let key = identity_key def cells in
    let at : map.get rows key ≡ stock cells ours = ap (map.get rows) (sym spelled) ∙ there in
    let come = insert_times def def.oid cells (theirs - ours) rows ours bag w sent (omega arith) at in
    let total : ours + (theirs - ours) ≡ theirs + (ours - theirs) = omega arith in
    let there_then : map.get come.next key ≡ stock cells (theirs + (ours - theirs)) =
    put_at rows key (stock cells high) come.next come.put ∙ ap (stock cells) total in
    let goes : MayGo def theirs (theirs + (ours - theirs)) = elim may as (λ _. MayGo def theirs (theirs + (ours - theirs))) [
      | inl full ↦ inl full
      | inr le ↦ inr (omega arith)
    ] in
    let go = delete_some def def.oid cells (ours - theirs) come.next theirs goes w sent there_then in
    placed_at def cells place rows (stock cells theirs) (fold_items def rows (ins ++ del)) spelled
    (record {
      next = go.next;
      is = fold_items-append def ins del rows ∙ ap (λ r. r >>= λ next. fold_items def next del) come.is ∙ go.is;
      put = put_again rows key (stock cells high) (stock cells theirs) come.next go.next come.put go.put;
    })

abbrev pub AreTuplesOf : Option Row → Option Row → Type 0
AreTuplesOf None ours = Unit {0}
AreTuplesOf (Some row) None = Unit {0}
AreTuplesOf (Some row) (Some old) = IsTuple row.cells × IsTuple old.cells

-- rows at one place are the same, but for their copies
same_cells : (def : RelationDef) (place : List ℕ) (a b : Row) → keyed def ≡ false → IsRow def place a → IsRow def place b → IsTuple a.cells
    → IsTuple b.cells → a.cells ≡ b.cells
same_cells def place a b bag one two fits too =
    let spelled : tuple_spelling a.cells ≡ tuple_spelling b.cells =
    sym (ap tuple_spelling (bag_identity def a.cells bag)) ∙ sym one.known ∙ two.known ∙ ap tuple_spelling (bag_identity def b.cells bag) in
    (tuples_apart a.cells b.cells [] [] fits too (ap (λ s. s ++ []) spelled)).0

pub bag_placed : (def : RelationDef) (place : List ℕ) (rows : Rows) (theirs ours : Option Row) → keyed def ≡ false
    → IsRowOf def place theirs → IsRowOf def place ours → AreTuplesOf theirs ours
    → MayGo def (copies_of theirs) (copies_of ours) → map.get rows place ≡ ours
    → Placed rows place theirs (fold_items def rows (bag_changes def theirs ours))
bag_placed def place rows None None bag is was fit may there = record { next = rows; is = refl; put = stays rows place None there }
bag_placed def place rows (Some row) None bag is was fit may none =
    let few = few_copies def place row bag is in
    let sum : 0 + row.copies ≡ row.copies = omega arith in
    let it = insert_times def def.oid row.cells row.copies rows 0 bag is.width is.sent (omega arith)
    (ap (map.get rows) (sym is.known) ∙ none) in
    placed_at def row.cells place rows (Some row) (fold_items def rows (times row.copies (item.Insert def.oid row.cells))) is.known
    (subst (λ there. Placed rows (identity_key def row.cells) there
    (fold_items def rows (times row.copies (item.Insert def.oid row.cells)))) (ap (stock row.cells) sum ∙ sym (row_stock row is.some))
    it)
bag_placed def place rows None (Some old) bag is was fit may there =
    let sum : old.copies ≡ 0 + old.copies = omega arith in
    let at : map.get rows (identity_key def old.cells) ≡ stock old.cells (0 + old.copies) =
    ap (map.get rows) (sym was.known) ∙ there ∙ row_stock old was.some ∙ ap (stock old.cells) sum in
    placed_at def old.cells place rows None (fold_items def rows (times old.copies (item.Delete def.oid Full old.cells))) was.known
    (delete_some def def.oid old.cells old.copies rows 0 (subst (MayGo def 0) sum may) was.width was.sent at)
bag_placed def place rows (Some row) (Some old) bag is was fit may there =
    let same : row.cells ≡ old.cells = same_cells def place row old bag is was fit.0 fit.1 in
    let at : map.get rows place ≡ stock row.cells old.copies =
    there ∙ row_stock old was.some ∙ ap (λ cells. stock cells old.copies) (sym same) in
    let it = bag_both def place rows row.cells row.copies old.copies bag is.width is.sent is.known (few_copies def place row bag is)
    (few_copies def place old bag was) may at in
    let changes = λ (cells : List Cell). times (row.copies - old.copies) (item.Insert def.oid row.cells)
    ++ times (old.copies - row.copies) (item.Delete def.oid Full cells) in
    subst (λ there. Placed rows place there (fold_items def rows (changes old.cells))) (sym (row_stock row is.some))
    (subst (λ cells. Placed rows place (stock row.cells row.copies) (fold_items def rows (changes cells))) same it)

-- ---- all of them

pub changes_placed : (def : RelationDef) (theirs ours : Rows) (place : List ℕ) (rows : Rows) → IsRowOf def place (map.get theirs place)
    → IsRowOf def place (map.get ours place)
    → (keyed def ≡ false → AreTuplesOf (map.get theirs place) (map.get ours place))
    → (keyed def ≡ false → MayGo def (copies_of (map.get theirs place)) (copies_of (map.get ours place)))
    → map.get rows place ≡ map.get ours place
    → Placed rows place (map.get theirs place) (fold_items def rows (changes_at def theirs ours place))
changes_placed def theirs ours place rows is was fit may there =
    elim (keyed def) as (λ b. keyed def ≡ b → Placed rows place (map.get theirs place)
    (fold_items def rows (if b then keyed_changes def (map.get theirs place) (map.get ours place)
    else bag_changes def (map.get theirs place) (map.get ours place)))) [
      | true ↦ λ key. keyed_placed def place rows (map.get theirs place) (map.get ours place) key is was there
      | false ↦ λ bag. bag_placed def place rows (map.get theirs place) (map.get ours place) bag is was (fit bag) (may bag) there
    ] refl
