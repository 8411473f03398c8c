-- What the steps on the tables of bytes do to the rows of a relation.
use Rattle.std.proofs.Common.{◌≡◌, ◌≤◌, ◌<◌, ◌+◌, ◌-◌, ℕ, List, ◌∷◌, length, Bool, true, false}
use Rattle.std.proofs.Common.{cond, Option, Some, None, Result, Ok, Err, OnOk, IfOk, IfErr, refl}
use Rattle.std.proofs.Common.{sym, ap, subst, ◌∙◌, inl, inr, arith}
use Rattle.std.specs.Prelude.{option_map, nat_lt, if◌then◌else◌}
use Rattle.std.specs.Ordering.{nat_cmp, eq_by_cmp, is_eq}
use Rattle.std.specs.Cmp.Lexicographic.{slice_cmp, nat_list_cmp_total}
use Rattle.std.specs.FinMap as map
use Rattle.std.specs.FinMap.{get-empty, get-insert, get-remove, same_map, nat_cmp-IsAntisymmetric}
use Rattle.std.specs.FinMap.{slice_cmp-IsAntisymmetric}
use Rattle.std.proofs.lemmas.Bool.{cases_Bool}
use Rattle.std.proofs.lemmas.Bool.Decides.{nat_tests}
use Rattle.std.proofs.lemmas.Cmp.{tied_itself}
use Rattle.sqlite.specs.Store.{Ghosts}
use Rattle.pgtuple.specs.declared.cell.Cell.{Cell}
use Rattle.pgtuple.specs.Cells.{tuple_spelling}
use Rattle.pgtuple.specs.Limits.{IsWireTuple}
use Rattle.pglogical.specs.declared.message.RelationDef.{RelationDef}
use Rattle.pgrel.specs.Identity.{keyed, has_unchanged}
use Rattle.pgtables.specs.Kept as stored
use Rattle.pgrows.specs.Rows.{Makes}
use Rattle.pgapply.specs.declared.fault.StoreFault.{StoreFault}
use Rattle.pgapply.specs.declared.fault.StoreFault.TheVariants.{Clash, TooManyCopies}
use Rattle.pgapply.specs.Value.{Row, Rows, Tables, IsRow, identity_key, most_copies}
use Rattle.pgapply.specs.Apply.{added, with_row, without_row}
use Rattle.pgapply.specs.Stored.{IsFault}
use Rattle.pgencoded.specs.Spelled.{IsChanging, AreTupleRows, spelled_row}
use Rattle.pgapply.specs.Stored.{IsOwnFault}
use Rattle.pgencoded.specs.Acts.{IsNewRow, IsFound, GoesOpen, MakesOf, taken_row, RefusesCopy}
use Rattle.pgencoded.proofs.SpelledRows.{own_row, row_put, row_gone}
use Rattle.pgapply.proofs.KeepsForm.{row_inserted, row_removed, new_row, one_is_few, same_some}

-- ---- results

pub on_ok : {A E : Type 0} {P Q : Type 0} (r : Result A E) → OnOk r P → (P → Q) → OnOk r Q
on_ok (Ok a) p f = f p
on_ok (Err e) p f = tt

pub ok_when : {A E : Type 0} {C P Q : Type 0} (r : Result A E) → (C → OnOk r P) → ((C → P) → Q) → OnOk r Q
ok_when (Ok a) f go = go f
ok_when (Err e) f go = tt

pub if_err : {A E : Type 0} {P Q : E → Type 0} (r : Result A E) → IfErr r P → ((e : E) → P e → Q e) → IfErr r Q
if_err (Ok a) p f = tt
if_err (Err e) p f = f e p

pub if_ok : {A E : Type 0} {P Q : A → Type 0} (r : Result A E) → IfOk r P → ((a : A) → P a → Q a) → IfOk r Q
if_ok (Ok a) p f = f a p
if_ok (Err e) p f = tt

pub own_fault : {A : Type 0} (e : StoreFault) (r : Result A StoreFault) → IsOwnFault e → IsFault e r
own_fault e r (inl is) = subst (λ e. IsFault e r) (sym is) tt
own_fault e r (inr is) = subst (λ e. IsFault e r) (sym is) tt

-- ---- a transaction goes on

module _ {S : Type 0} (g : Ghosts S) (old mid new : S) where
  pub then_open : (f h : stored.Tables → stored.Tables) → Makes g f old mid → Makes g h mid new → GoesOpen g old new
  then_open f h one two = record { was_open = one.was_open; is_open = two.is_open }

-- ---- rows that are tuples

pub tuples_put : (rows : Rows) (place : List ℕ) (row : Row) → AreTupleRows rows → IsWireTuple row.cells
    → AreTupleRows (map.insert rows place row)
tuples_put rows place row h one q r e =
    let at = sym (get-insert nat_list_cmp_total rows place row q) ∙ e in
    elim (cases_Bool (eq_by_cmp (slice_cmp nat_cmp) q place)) [
      | inl same ↦ let is : row ≡ r = same_some (sym (ap (λ b. cond b (Some row) (map.get rows q)) same) ∙ at) in
          subst (λ (x : Row). IsWireTuple x.cells) is one
      | inr other ↦ h q r (sym (ap (λ b. cond b (Some row) (map.get rows q)) other) ∙ at)
    ]

pub tuples_gone : (rows : Rows) (place : List ℕ) → AreTupleRows rows → AreTupleRows (map.remove rows place)
tuples_gone rows place h q r e =
    let at = sym (get-remove nat_list_cmp_total rows place q) ∙ e in
    elim (cases_Bool (eq_by_cmp (slice_cmp nat_cmp) q place)) [
      | inl same ↦ absurd (let gone = sym (ap (λ b. cond b None (map.get rows q)) same) ∙ at in cc)
      | inr other ↦ h q r (sym (ap (λ b. cond b None (map.get rows q)) other) ∙ at)
    ]

pub tuples_none : AreTupleRows map.empty
tuples_none q r e = absurd (let none = sym (get-empty (slice_cmp nat_cmp) q) ∙ e in cc)

two_not_one : (n : ℕ) → 1 < n → n ≤ 1 → ⊥
two_not_one n a b = omega arith

less_is_most : (n : ℕ) → 1 < n → n ≤ most_copies → nat_lt (n - 1) most_copies ≡ true
less_is_most n a b = let lt : n - 1 < most_copies = omega arith in grind (arith, nat_tests)

last_is_one : (n : ℕ) → 1 ≤ n → nat_lt 1 n ≡ false → 1 ≡ n
last_is_one n a b = let le : n ≤ 1 = grind (arith, nat_tests) in omega arith

-- ---- what a lookup in the tables of bytes tells

none_mapped : {A B : Type 0} (f : A → B) (o : Option A) → option_map f o ≡ None → o ≡ None
none_mapped f None e = refl
none_mapped f (Some a) e = absurd (cc)

some_mapped : {A B : Type 0} (f : A → B) (o : Option A) (b : B) → option_map f o ≡ Some b → (a : A) × (o ≡ Some a) × (f a ≡ b)
some_mapped f None b e = absurd (cc)
some_mapped f (Some a) b e = (a, refl, same_some e)

module _ (v : Tables) (def : RelationDef) (rows : Rows) (t : stored.Tables) (h : IsChanging v def rows t) where
  pub not_there : (place : List ℕ) → map.get t.rows (def.oid ∷ place) ≡ None → map.get rows place ≡ None
  not_there place e = none_mapped spelled_row (map.get rows place) (sym (own_row v def rows t h.spelled place) ∙ e)

  pub was_there : (place : List ℕ) (there : stored.Copies) → map.get t.rows (def.oid ∷ place) ≡ Some there
      → (was : Row) × IsFound rows place there was
  was_there place there e = let it = some_mapped spelled_row (map.get rows place) there (sym (own_row v def rows t h.spelled place) ∙ e) in
      (it.0, record { at = it.1; is = sym it.2 })

  -- a row is put whose form is right
  pub put_changes : (place : List ℕ) (row : Row) → IsRow def place row → IsWireTuple row.cells
      → IsChanging v def (map.insert rows place row) (stored.with_row def.oid place (spelled_row row) t)
  put_changes place row is tuple = record {
    spelled = row_put v def rows t h.spelled place row;
    form = row_inserted def rows place row h.form is;
    tuples = tuples_put rows place row h.tuples tuple;
  }

  -- a row goes, or one copy of it
  pub take_changes : (place : List ℕ) (there : stored.Copies) (was : Row) → IsFound rows place there was
      → IsChanging v def (without_row place was rows) (taken_row def.oid place there t)
  take_changes place there was found =
      subst (λ (k : stored.Copies). IsChanging v def (without_row place was rows) (taken_row def.oid place k t)) (sym found.is)
      (go (nat_lt 1 was.copies) refl)
    where
      go : (b : Bool) → nat_lt 1 was.copies ≡ b
          → IsChanging v def (if b then map.insert rows place (record { cells = was.cells; copies = was.copies - 1 })
          else map.remove rows place)
          (if b then stored.with_row def.oid place (record { body = tuple_spelling was.cells; copies = was.copies - 1 }) t
          else stored.without_row def.oid place t)
      go true more =
          let is = h.form place was found.at in
          let two : 1 < was.copies = grind (arith, nat_tests) in
          let most : was.copies ≤ (if keyed def then 1 else most_copies) = is.copies in
          put_changes place (record { cells = was.cells; copies = was.copies - 1 })
          (record { width = is.width; known = is.known; sent = is.sent; some = omega arith; copies = omega arith })
          (h.tuples place was found.at)
      go false last = record {
        spelled = row_gone v def rows t h.spelled place;
        form = row_removed def rows place h.form;
        tuples = tuples_gone rows place h.tuples;
      }

  -- ---- a row is added

  module _ (cells : List Cell) (tuple : IsWireTuple cells) (width : length cells ≡ length def.columns)
      (sent : has_unchanged cells ≡ false) where
    abbrev key : List ℕ
    key = identity_key def cells

    abbrev body : List ℕ
    body = tuple_spelling cells

    first_row : map.get rows key ≡ None
        → MakesOf v def (with_row def cells rows) (stored.with_row def.oid key (record { body = body; copies = 1 }) t)
    first_row none = (
      map.insert rows key (record { cells = cells; copies = 1 }),
      ap (added def cells rows) none,
      put_changes key (record { cells = cells; copies = 1 }) (new_row def cells 1 width sent (omega arith) (one_is_few def)) tuple,
    )

    next_copy : (was : Row) → map.get rows key ≡ Some was → keyed def ≡ false → was.copies < most_copies
        → MakesOf v def (with_row def cells rows) (stored.with_row def.oid key (record { body = body; copies = was.copies + 1 }) t)
    next_copy was at bag below = (
      map.insert rows key (record { cells = cells; copies = was.copies + 1 }),
      ap (added def cells rows) at ∙ ap (λ b. if b then Err Clash else counted (nat_lt was.copies most_copies)) bag
          ∙ ap counted (let is : nat_lt was.copies most_copies ≡ true = grind (arith, nat_tests) in is),
      put_changes key (record { cells = cells; copies = was.copies + 1 })
          (new_row def cells (was.copies + 1) width sent (omega arith)
          (let few : was.copies + 1
          ≤ (if keyed def then 1 else most_copies) =
          subst (λ b. was.copies + 1 ≤ (if b then 1 else most_copies)) (sym bag) (omega arith) in few)) tuple,
    )
      where
        counted : Bool → Result Rows StoreFault
        counted b = if b then Ok (map.insert rows key (record { cells = cells; copies = was.copies + 1 })) else Err TooManyCopies

  added_as : (cells : List Cell) (place spelled : List ℕ) (copies : ℕ) (next : stored.Tables) → IsNewRow def cells place spelled
      → next ≡ stored.with_row def.oid place (record { body = spelled; copies = copies }) t
      → stored.with_row def.oid (identity_key def cells) (record { body = tuple_spelling cells; copies = copies }) t ≡ next
  added_as cells place spelled copies next new is =
      (λ i. stored.with_row def.oid (sym new.place_is i) (record { body = sym new.body_is i; copies = copies }) t) ∙ sym is

  pub added_first : (cells : List Cell) (place spelled : List ℕ) (next : stored.Tables) → IsNewRow def cells place spelled
      → map.get t.rows (def.oid ∷ place) ≡ None
      → next ≡ stored.with_row def.oid place (record { body = spelled; copies = 1 }) t → MakesOf v def (with_row def cells rows) next
  added_first cells place spelled next new none is =
      subst (MakesOf v def (with_row def cells rows)) (added_as cells place spelled 1 next new is)
      (first_row cells new.tuple new.width new.sent (ap (map.get rows) (sym new.place_is) ∙ not_there place none))

  pub added_again : (cells : List Cell) (place spelled : List ℕ) (there : stored.Copies) (next : stored.Tables)
      → IsNewRow def cells place spelled → map.get t.rows (def.oid ∷ place) ≡ Some there → keyed def ≡ false → there.copies < most_copies
      → next ≡ stored.with_row def.oid place (record { body = spelled; copies = there.copies + 1 }) t
      → MakesOf v def (with_row def cells rows) next
  added_again cells place spelled there next new some bag below is =
      let was = was_there place there some in
      let copies : there.copies ≡ was.0.copies = ap (λ (k : stored.Copies). k.copies) was.1.is in
      subst (MakesOf v def (with_row def cells rows))
      (added_as cells place spelled (was.0.copies + 1) next new
      (is ∙ ap (λ n. stored.with_row def.oid place (record { body = spelled; copies = n + 1 }) t) copies))
      (next_copy cells new.tuple new.width new.sent was.0 (ap (map.get rows) (sym new.place_is) ∙ was.1.at) bag
      (subst (λ n. n < most_copies) copies below))

  pub added_not : (cells : List Cell) (place spelled : List ℕ) (there : stored.Copies) (e : StoreFault) → IsNewRow def cells place spelled
      → map.get t.rows (def.oid ∷ place) ≡ Some there → RefusesCopy def there e → IsFault e (with_row def cells rows)
  added_not cells place spelled there e new some (inl own) = own_fault e (with_row def cells rows) own
  added_not cells place spelled there e new some (inr (inl clash)) =
      let was = was_there place there some in
      subst (λ e. IsFault e (with_row def cells rows)) (sym clash.0)
      (ap (added def cells rows) (ap (map.get rows) (sym new.place_is) ∙ was.1.at)
      ∙ ap (λ b. if b then Err Clash
      else (if nat_lt was.0.copies most_copies
      then Ok (map.insert rows (identity_key def cells) (record { cells = cells; copies = was.0.copies + 1 })) else Err TooManyCopies))
      clash.1)
  added_not cells place spelled there e new some (inr (inr many)) =
      let was = was_there place there some in
      let copies : there.copies ≡ was.0.copies = ap (λ (k : stored.Copies). k.copies) was.1.is in
      let most : most_copies ≤ was.0.copies = subst (λ n. most_copies ≤ n) copies many.2 in
      let full : nat_lt was.0.copies most_copies ≡ false = grind (arith, nat_tests) in
      subst (λ e. IsFault e (with_row def cells rows)) (sym many.0)
      (ap (added def cells rows) (ap (map.get rows) (sym new.place_is) ∙ was.1.at)
      ∙ ap (λ b. if b then Err Clash
      else (if nat_lt was.0.copies most_copies
      then Ok (map.insert rows (identity_key def cells) (record { cells = cells; copies = was.0.copies + 1 })) else Err TooManyCopies))
      many.1
      ∙ ap (λ b. if b then Ok (map.insert rows (identity_key def cells) (record { cells = cells; copies = was.0.copies + 1 }))
      else Err TooManyCopies) full)

  -- ---- the new row stands in the old one's place

  same_key : (q : List ℕ) → eq_by_cmp (slice_cmp nat_cmp) q q ≡ true
  same_key q = ap is_eq (tied_itself nat_list_cmp_total q)

  put_twice : (place : List ℕ) (a b : Row) → map.insert (map.insert rows place a) place b ≡ map.insert rows place b
  put_twice place a b = same_map nat_list_cmp_total (slice_cmp-IsAntisymmetric nat_cmp-IsAntisymmetric) _ _ (λ q.
      get-insert nat_list_cmp_total (map.insert rows place a) place b q
      ∙ ap (cond (eq_by_cmp (slice_cmp nat_cmp) q place) (Some b)) (get-insert nat_list_cmp_total rows place a q)
      ∙ twice (eq_by_cmp (slice_cmp nat_cmp) q place) (Some b) (Some a) (map.get rows q)
      ∙ sym (get-insert nat_list_cmp_total rows place b q))
    where
      twice : (c : Bool) (x y z : Option Row) → cond c x (cond c y z) ≡ cond c x z
      twice true x y z = refl
      twice false x y z = refl

  put_again : (place : List ℕ) (b : Row) → map.insert (map.remove rows place) place b ≡ map.insert rows place b
  put_again place b = same_map nat_list_cmp_total (slice_cmp-IsAntisymmetric nat_cmp-IsAntisymmetric) _ _ (λ q.
      get-insert nat_list_cmp_total (map.remove rows place) place b q
      ∙ ap (cond (eq_by_cmp (slice_cmp nat_cmp) q place) (Some b)) (get-remove nat_list_cmp_total rows place q)
      ∙ twice (eq_by_cmp (slice_cmp nat_cmp) q place) (Some b) None (map.get rows q) ∙ sym (get-insert nat_list_cmp_total rows place b q))
    where
      twice : (c : Bool) (x y z : Option Row) → cond c x (cond c y z) ≡ cond c x z
      twice true x y z = refl
      twice false x y z = refl

  -- taken and added at one place: the copies stay
  module _ (cells : List Cell) (was : Row) (at : map.get rows (identity_key def cells) ≡ Some was) where
    abbrev own : List ℕ
    own = identity_key def cells

    abbrev staying : Rows
    staying = map.insert rows own (record { cells = cells; copies = was.copies })

    stays_more : nat_lt 1 was.copies ≡ true
        → added def cells (map.insert rows own (record { cells = was.cells; copies = was.copies - 1 }))
        (map.get (map.insert rows own (record { cells = was.cells; copies = was.copies - 1 })) own) ≡ Ok staying
    stays_more more =
        let is = h.form own was at in
        let two : 1 < was.copies = grind (arith, nat_tests) in
        let few : was.copies ≤ (if keyed def then 1 else most_copies) = is.copies in
        let bag : keyed def ≡ false = elim (cases_Bool (keyed def)) [
          | inr bag ↦ bag
          | inl key ↦ absurd (let one : was.copies ≤ 1 = subst (λ b. was.copies ≤ (if b then 1 else most_copies)) key few in
              two_not_one was.copies two one)
        ] in
        let most : was.copies ≤ most_copies = subst (λ b. was.copies ≤ (if b then 1 else most_copies)) bag few in
        let below : nat_lt (was.copies - 1) most_copies ≡ true = less_is_most was.copies two most in
        let back : was.copies - 1 + 1 ≡ was.copies = omega arith in
        let less : Row = record { cells = was.cells; copies = was.copies - 1 } in
        ap (added def cells (map.insert rows own less))
        (get-insert nat_list_cmp_total rows own less own ∙ ap (λ b. cond b (Some less) (map.get rows own)) (same_key own))
        ∙ ap (λ b. if b then Err Clash
        else (if nat_lt (was.copies - 1) most_copies
        then Ok (map.insert (map.insert rows own less) own (record { cells = cells; copies = was.copies - 1 + 1 }))
        else Err TooManyCopies)) bag
        ∙ ap (λ b. if b then Ok (map.insert (map.insert rows own less) own (record { cells = cells; copies = was.copies - 1 + 1 }))
        else Err TooManyCopies) below
        ∙ ap Ok (put_twice own less (record { cells = cells; copies = was.copies - 1 + 1 })
        ∙ ap (λ n. map.insert rows own (record { cells = cells; copies = n })) back)

    stays_last : nat_lt 1 was.copies ≡ false → added def cells (map.remove rows own) (map.get (map.remove rows own) own) ≡ Ok staying
    stays_last last =
        let is = h.form own was at in
        let some : 1 ≤ was.copies = is.some in
        let one : 1 ≡ was.copies = last_is_one was.copies some last in
        ap (added def cells (map.remove rows own))
        (get-remove nat_list_cmp_total rows own own ∙ ap (λ b. cond b None (map.get rows own)) (same_key own))
        ∙ ap Ok (put_again own (record { cells = cells; copies = 1 })
        ∙ ap (λ n. map.insert rows own (record { cells = cells; copies = n })) one)

    pub stays : with_row def cells (without_row own was rows) ≡ Ok staying
    stays = go (nat_lt 1 was.copies) refl
      where
        go : (b : Bool) → nat_lt 1 was.copies ≡ b
            → with_row def cells (if b then map.insert rows own (record { cells = was.cells; copies = was.copies - 1 })
            else map.remove rows own) ≡ Ok staying
        go true e = stays_more e
        go false e = stays_last e

  pub moved_same : (cells : List Cell) (place : List ℕ) (there : stored.Copies) (was : Row) (next : stored.Tables)
      → IsFound rows place there was → place ≡ identity_key def cells
      → IsWireTuple cells → length cells ≡ length def.columns → has_unchanged cells ≡ false
      → next ≡ stored.with_row def.oid place (record { body = tuple_spelling cells; copies = there.copies }) t
      → MakesOf v def (with_row def cells (without_row place was rows)) next
  moved_same cells place there was next found at_key tuple width sent is =
      let at : map.get rows (identity_key def cells) ≡ Some was = ap (map.get rows) (sym at_key) ∙ found.at in
      let form = h.form (identity_key def cells) was at in
      let copies : there.copies ≡ was.copies = ap (λ (k : stored.Copies). k.copies) found.is in
      let put = put_changes (identity_key def cells) (record { cells = cells; copies = was.copies })
      (new_row def cells was.copies width sent form.some form.copies) tuple in (
        map.insert rows (identity_key def cells) (record { cells = cells; copies = was.copies }),
        ap (λ p. with_row def cells (without_row p was rows)) at_key ∙ stays cells was at,
        subst (IsChanging v def (map.insert rows (identity_key def cells) (record { cells = cells; copies = was.copies })))
            ((λ i. stored.with_row def.oid (sym at_key i) (record { body = tuple_spelling cells; copies = sym copies i }) t) ∙ sym is) put,
      )
