-- A row that is carried joins the rows of its relation.
use Rattle.std.proofs.Common.{◌≡◌, ◌≤◌, ◌<◌, ◌+◌, ℕ, List, ◌∷◌, Bool, true, false, Option, Some}
use Rattle.std.proofs.Common.{None, Result, Ok, Err, sym, ap, subst, ◌∙◌, inl, inr, arith}
use Rattle.std.specs.Prelude.{nat_lt, if◌then◌else◌, ◌&&◌}
use Rattle.std.specs.FinMap as map
use Rattle.std.proofs.lemmas.Bool.{and_parts}
use Rattle.std.proofs.lemmas.Bool.Decides.{nat_tests}
use Rattle.pgtuple.specs.declared.cell.Cell.{Cell}
use Rattle.pgtuple.specs.Cells.{tuple_spelling}
use Rattle.pgtuple.specs.Limits.{IsWireTuple}
use Rattle.pglogical.specs.declared.message.RelationDef.{RelationDef}
use Rattle.pgrel.specs.Identity.{keyed}
use Rattle.pgrel.specs.Carried.{carried}
use Rattle.pgrel.proofs.CarriedRows.{carried_width, carried_whole}
use Rattle.pgtables.specs.Kept as stored
use Rattle.pgapply.specs.declared.fault.StoreFault.{StoreFault}
use Rattle.pgapply.specs.declared.fault.StoreFault.TheVariants.{Clash, TooManyCopies}
use Rattle.pgapply.specs.Value.{Row, Rows, Tables, identity_key, most_copies}
use Rattle.pgapply.specs.Apply.{joined, moved}
use Rattle.pgapply.specs.Stored.{IsFault}
use Rattle.pgapply.proofs.KeepsForm.{new_row, fits}
use Rattle.pgencoded.specs.Spelled.{IsChanging}
use Rattle.pgencoded.specs.Acts.{MakesOf}
use Rattle.pgencoded.proofs.Acting.{not_there, was_there, put_changes, own_fault}
use Rattle.pgreshaping.specs.Carries.{IsCarriedRow, IsKeptRow, RefusesCopies}

module _ (v : Tables) (def : RelationDef) (rows : Rows) (t : stored.Tables) (h : IsChanging v def rows t) (row : Row) (place body : List ℕ)
    (copies : ℕ) (is : IsCarriedRow def row place body copies) where
  abbrev key : List ℕ
  key = identity_key def row.cells

  abbrev put : ℕ → Rows
  put n = map.insert rows key (record { cells = row.cells; copies = n })

  put_as : (n m : ℕ) (next : stored.Tables) → n ≡ m → 1 ≤ m → m ≤ (if keyed def then 1 else most_copies)
      → next ≡ stored.with_row def.oid place (record { body = body; copies = n }) t → IsChanging v def (put m) next
  put_as n m next same some few e =
      subst (IsChanging v def (put m))
      ((λ i. stored.with_row def.oid (sym is.place_is i) (record { body = sym is.body_is i; copies = sym same i }) t) ∙ sym e)
      (put_changes v def rows t h key (record { cells = row.cells; copies = m }) (new_row def row.cells m is.width is.sent some few)
      is.tuple)

  abbrev Made : stored.Tables → Type 0
  Made next = MakesOf v def (joined def row rows (map.get rows key)) next

  pub joined_first : (next : stored.Tables) → map.get t.rows (def.oid ∷ place) ≡ None → (keyed def && nat_lt 1 copies) ≡ false
      → next ≡ stored.with_row def.oid place (record { body = body; copies = copies }) t → Made next
  joined_first next none apart e =
      let free = ap (map.get rows) (sym is.place_is) ∙ not_there v def rows t h place none in
      let one : (keyed def && nat_lt 1 row.copies) ≡ false = subst (λ n. (keyed def && nat_lt 1 n) ≡ false) is.copies_is apart in (
        put row.copies,
        ap (joined def row rows) free ∙ ap (λ b. if b then Err Clash else Ok (put row.copies)) one,
        put_as copies row.copies next is.copies_is is.some (fits (keyed def) row.copies one is.few) e,
      )

  abbrev counted : ℕ → Bool → Result Rows StoreFault
  counted n b = if b then Err TooManyCopies else Ok (put n)

  joined_bag : (was : Row) → map.get rows key ≡ Some was → keyed def ≡ false
      → joined def row rows (map.get rows key) ≡ counted (was.copies + row.copies) (nat_lt most_copies (was.copies + row.copies))
  joined_bag was at bag = ap (joined def row rows) at
      ∙ ap (λ b. if b then Err Clash else counted (was.copies + row.copies) (nat_lt most_copies (was.copies + row.copies))) bag

  module _ (there : stored.Copies) (some : map.get t.rows (def.oid ∷ place) ≡ Some there) where
    pub joined_again : (next : stored.Tables) → keyed def ≡ false → there.copies + copies ≤ most_copies
        → next ≡ stored.with_row def.oid place (record { body = body; copies = there.copies + copies }) t → Made next
    joined_again next bag few e =
        let was = was_there v def rows t h place there some in
        let sum : there.copies + copies ≡ was.0.copies + row.copies =
        λ i. ap (λ (k : stored.Copies). k.copies) was.1.is i + is.copies_is i in
        let most : was.0.copies + row.copies ≤ most_copies = subst (λ n. n ≤ most_copies) sum few in
        let below : nat_lt most_copies (was.0.copies + row.copies) ≡ false = grind (arith, nat_tests) in
        let all : was.0.copies + row.copies ≤ (if keyed def then 1 else most_copies) =
        subst (λ b. was.0.copies + row.copies ≤ (if b then 1 else most_copies)) (sym bag) most in
        let one = is.some in (
          put (was.0.copies + row.copies),
          joined_bag was.0 (ap (map.get rows) (sym is.place_is) ∙ was.1.at) bag ∙ ap (counted (was.0.copies + row.copies)) below,
          put_as (there.copies + copies) (was.0.copies + row.copies) next sum (omega (arith, one)) all e,
        )

    pub joined_not : (e : StoreFault) → RefusesCopies def copies there e → IsFault e (joined def row rows (map.get rows key))
    joined_not e (inl own) = own_fault e (joined def row rows (map.get rows key)) own
    joined_not e (inr (inl clash)) =
        let was = was_there v def rows t h place there some in
        subst (λ e. IsFault e (joined def row rows (map.get rows key))) (sym clash.0)
        (ap (joined def row rows) (ap (map.get rows) (sym is.place_is) ∙ was.1.at)
        ∙ ap (λ b. if b then Err Clash else counted (was.0.copies + row.copies) (nat_lt most_copies (was.0.copies + row.copies))) clash.1)
    joined_not e (inr (inr many)) =
        let was = was_there v def rows t h place there some in
        let sum : there.copies + copies ≡ was.0.copies + row.copies =
        λ i. ap (λ (k : stored.Copies). k.copies) was.1.is i + is.copies_is i in
        let above : most_copies < was.0.copies + row.copies = subst (λ n. most_copies < n) sum many.2 in
        let full : nat_lt most_copies (was.0.copies + row.copies) ≡ true = grind (arith, nat_tests) in
        subst (λ e. IsFault e (joined def row rows (map.get rows key))) (sym many.0)
        (joined_bag was.0 (ap (map.get rows) (sym is.place_is) ∙ was.1.at) many.1 ∙ ap (counted (was.0.copies + row.copies)) full)

  -- several copies can't come under a key
  pub joined_clash : (keyed def && nat_lt 1 copies) ≡ true → joined def row rows (map.get rows key) ≡ Err Clash
  joined_clash clashes = go (map.get rows key)
    where
      key_is : keyed def ≡ true
      key_is = (and_parts (keyed def) (nat_lt 1 copies) clashes).0

      go : (o : Option Row) → joined def row rows o ≡ Err Clash
      go None = ap (λ b. if b then Err Clash else Ok (put row.copies)) (subst (λ n. (keyed def && nat_lt 1 n) ≡ true) is.copies_is clashes)
      go (Some other) = ap (λ b. if b then Err Clash
          else counted (other.copies + row.copies) (nat_lt most_copies (other.copies + row.copies))) key_is

-- a row as it is stored, and as it is carried
pub carried_row_is : (before def : RelationDef) (row : Row) (kept : stored.Copies) (was next : List Cell) (place body : List ℕ) (copies : ℕ)
    → IsKeptRow before row kept → was ≡ row.cells → next ≡ carried before def was
    → place ≡ identity_key def next → body ≡ tuple_spelling next → copies ≡ kept.copies → IsWireTuple next
    → IsCarriedRow def (moved before def row) place body copies
carried_row_is before def row kept was next place body copies k read is at spelled count tuple =
    let cells : next ≡ carried before def row.cells = is ∙ ap (carried before def) read in
    record {
      place_is = at ∙ ap (identity_key def) cells;
      body_is = spelled ∙ ap tuple_spelling cells;
      copies_is = count ∙ ap (λ (k : stored.Copies). k.copies) k.is;
      tuple = subst IsWireTuple cells tuple;
      width = carried_width before.columns row.cells def.columns;
      sent = carried_whole before.columns row.cells def.columns k.sent;
      some = k.some;
      few = k.few;
    }
