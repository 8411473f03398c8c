-- Parts of a transaction's items, after a push and after a cut, and what is read of one.
use Rattle.std.proofs.Common.{◌≡◌, ◌⊎◌, inl, inr, ◌<◌, ◌≤◌, ◌+◌, ◌-◌, ℕ, zero, suc, List, [], ◌∷◌}
use Rattle.std.proofs.Common.{◌++◌, length, take, drop, Option, Some, None, refl, sym, ap, subst}
use Rattle.std.proofs.Common.{◌∙◌}
use Rattle.std.proofs.Common.{arith, length-append}
use Rattle.std.specs.Prelude.{slice_get, slice_range, unwrap_or}
use Rattle.std.proofs.lemmas.Bool.{cases_eq, cases_order}
use Rattle.std.proofs.lemmas.Option.{none-some, same_Some}
use Rattle.std.proofs.lemmas.List.{take_all, take-take, take_at, take-append-le}
use Rattle.std.proofs.lemmas.List.{append-nil, take-append-drop, drop_at, length-take, length-drop}
use Rattle.std.proofs.lemmas.List.Sums.{sum_by-append}
use Rattle.std.proofs.lemmas.Grind.{flat_map-append}
use Rattle.std.proofs.Math.Seq.{take-add}
use Rattle.std.specs.List.{AllByRecursion}
use Rattle.pgspool.specs.declared.first_place.FirstPlace.{FirstPlace}
use Rattle.pgspool.specs.Labels.{LabelledItem, cost, costs}
use Rattle.pgspool.specs.FirstPlaces.{FirstPlaces}
use Rattle.pgfilespools.specs.Stored.{stored_item, stored, items_in, IsStorable}
use Rattle.pgfilespools.specs.AreStored.{AreStored}
use Rattle.pgfilespools.specs.Parts.{IsPlace, AreParts, AreBounds}
use Rattle.pgfilespools.proofs.Reading.{length-stored, length-items_in, items_again}

-- ---- lists

pushed_at : {X : Type 0} (xs : List X) (y : X) (i : ℕ) (x : X) → slice_get (xs ++ y ∷ []) i ≡ Some x
    → (slice_get xs i ≡ Some x) ⊎ ((i ≡ length xs) × (y ≡ x))
pushed_at [] y zero x there = inr (refl, same_Some y x there)
pushed_at [] y (suc i) x there = absurd (none-some x there)
pushed_at (z ∷ xs) y zero x there = inl there
pushed_at (z ∷ xs) y (suc i) x there = elim (pushed_at xs y i x there) [
  | inl at ↦ inl at
  | inr new ↦ inr (ap suc new.0, new.1)
]

taken_at : {X : Type 0} (xs : List X) (n i : ℕ) (x : X) → slice_get (take n xs) i ≡ Some x → (slice_get xs i ≡ Some x) × (i < n)
taken_at xs zero i x there = absurd (none-some x there)
taken_at [] (suc n) i x there = absurd (none-some x there)
taken_at (z ∷ xs) (suc n) zero x there = (there, omega arith)
taken_at (z ∷ xs) (suc n) (suc i) x there = let rest = taken_at xs n i x there in (rest.0, omega arith)

there_below : {X : Type 0} (xs : List X) (i : ℕ) (x : X) → slice_get xs i ≡ Some x → i < length xs
there_below [] i x there = absurd (none-some x there)
there_below (z ∷ xs) zero x there = omega arith
there_below (z ∷ xs) (suc i) x there = let rest = there_below xs i x there in omega arith

one_there : {X : Type 0} (xs : List X) (i : ℕ) → i < length xs → (x : X) × (slice_get xs i ≡ Some x)
one_there [] i below = absurd (omega arith)
one_there (z ∷ xs) zero below = (z, refl)
one_there (z ∷ xs) (suc i) below = one_there xs i (omega arith)

some_items : (held : List LabelledItem) → 0 < costs held → 0 < length held
some_items [] some = absurd (omega arith)
some_items (l ∷ held) some = omega arith

-- ---- places

pub whole_place : (held : List LabelledItem) (end : FirstPlace) → end.place ≡ length held → end.bytes ≡ costs held → IsPlace held end
whole_place held end place bytes = record {
  within = omega arith;
  bytes = bytes ∙ ap costs (sym (take_all end.place held (omega arith)));
}

-- one that costs less than all has items behind it
less_items : (held : List LabelledItem) (p : FirstPlace) → IsPlace held p → p.bytes < costs held → p.place < length held
less_items held p is less = elim (cases_order p.place (length held)) [
  | inl same ↦ absurd (let all = is.bytes ∙ ap costs (take_all p.place held (omega arith)) in omega arith)
  | inr (inl below) ↦ below
  | inr (inr above) ↦ absurd (let w = is.within in omega arith)
]

place_before_more : (held more : List LabelledItem) (p : FirstPlace) → IsPlace held p → IsPlace (held ++ more) p
place_before_more held more p is = record {
  within = let w = is.within in omega (arith, length-append held more);
  bytes = is.bytes ∙ ap costs (sym (take-append-le p.place held more is.within));
}

place_in_front : (held : List LabelledItem) (count : ℕ) (p : FirstPlace) → IsPlace held p → p.place ≤ count → IsPlace (take count held) p
place_in_front held count p is front = record {
  within = let w = is.within in omega (arith, length-take count held);
  bytes = is.bytes ∙ ap costs (sym (take-take p.place count held front));
}

-- ---- all parts

pub parts-none : (held : List LabelledItem) (parts : List FirstPlace) → parts ≡ [] → AreParts held parts
parts-none held parts none = rw none (record {
  each = λ i p there. absurd (none-some p there);
  some = λ i p there. absurd (none-some p there);
  order = λ i j p q less there there'. absurd (none-some p there);
})

-- the items that are pushed are behind all places
pub parts-more : (held more : List LabelledItem) (parts : List FirstPlace) → AreParts held parts → AreParts (held ++ more) parts
parts-more held more parts is = record {
  each = λ i p there. place_before_more held more p (is.each i p there);
  some = is.some;
  order = is.order;
}

module _ (held : List LabelledItem) (parts : List FirstPlace) (is : AreParts held parts) where
  -- each is at the last one or before it
  up_to : (i n : ℕ) (p q : FirstPlace) → i ≤ n → slice_get parts i ≡ Some p → slice_get parts n ≡ Some q → p.place ≤ q.place
  up_to i n p q within there last = elim (cases_eq i n) [
    | inl same ↦ let one = same_Some p q (sym there ∙ ap (slice_get parts) same ∙ last) in
        omega (arith, ap (λ (x : FirstPlace). x.place) one)
    | inr other ↦ let less = is.order i n p q (omega arith) there last in omega arith
  ]

  pub parts-note : (end : FirstPlace) (begun : ℕ) → end.place ≡ length held → end.bytes ≡ costs held → begun < end.bytes
      → ((i : ℕ) (p : FirstPlace) → i + 1 ≡ length parts → slice_get parts i ≡ Some p → begun ≡ p.bytes)
      → AreParts held (parts ++ end ∷ [])
  parts-note end begun place bytes long last =
      let some = some_items held (omega arith) in
      let before : (i : ℕ) (p : FirstPlace) → slice_get parts i ≡ Some p → p.place < end.place = λ i p there.
      let below = there_below parts i p there in
      let it = one_there parts (length parts - 1) (omega arith) in
      let at = last (length parts - 1) it.0 (omega arith) it.1 in
      let less = less_items held it.0 (is.each (length parts - 1) it.0 it.1) (omega arith) in
      let up = up_to i (length parts - 1) p it.0 (omega arith) there it.1 in
      omega arith in
      record {
        each = λ i p there. elim (pushed_at parts end i p there) [
          | inl at ↦ is.each i p at
          | inr new ↦ subst (IsPlace held) new.1 (whole_place held end place bytes)
        ];
        some = λ i p there. elim (pushed_at parts end i p there) [
          | inl at ↦ is.some i p at
          | inr new ↦ omega (arith, ap (λ (x : FirstPlace). x.place) new.1)
        ];
        order = λ i j p q less there there'. elim (pushed_at parts end j q there') [
          | inl at ↦ elim (pushed_at parts end i p there) [
            | inl at' ↦ is.order i j p q less at' at
            | inr new ↦ absurd (let below = there_below parts j q at in let e = new.0 in omega arith)
          ]
          | inr new ↦ elim (pushed_at parts end i p there) [
            | inl at' ↦ let b = before i p at' in omega (arith, ap (λ (x : FirstPlace). x.place) new.1)
            | inr new' ↦ absurd (let e = new.0 in let e' = new'.0 in omega arith)
          ]
        ];
      }

  pub parts-cut : (count kept : ℕ) → kept ≤ length parts
      → ((i : ℕ) (p : FirstPlace) → i + 1 ≡ kept → slice_get parts i ≡ Some p → p.place ≤ count)
      → AreParts (take count held) (take kept parts)
  parts-cut count kept within last =
      let front : (i : ℕ) (p : FirstPlace) → slice_get parts i ≡ Some p → i < kept → p.place ≤ count = λ i p there below.
      let it = one_there parts (kept - 1) (omega arith) in
      let at = last (kept - 1) it.0 (omega arith) it.1 in
      let up = up_to i (kept - 1) p it.0 (omega arith) there it.1 in
      omega arith in
      record {
        each = λ i p there. let at = taken_at parts kept i p there in
            place_in_front held count p (is.each i p at.0) (front i p at.0 at.1);
        some = λ i p there. is.some i p (taken_at parts kept i p there).0;
        order = λ i j p q less there there'. is.order i j p q less (taken_at parts kept i p there).0 (taken_at parts kept j q there').0;
      }

  -- where one begins, and where the next one does or the end is
  bounds : (o : Option FirstPlace) (next from : ℕ) (first end : FirstPlace) → slice_get parts next ≡ o
      → end.place ≡ length held → end.bytes ≡ costs held → first.place ≡ from → (from ≡ end.place → ⊥) → IsPlace held first
      → ((p : FirstPlace) → slice_get parts next ≡ Some p → first.place < p.place)
      → AreBounds held from first (unwrap_or o end)
  bounds None next from first end is_o place bytes begins other is_first before = record {
    begins = begins;
    first = is_first;
    last = whole_place held end place bytes;
    order = let w = is_first.within in omega arith;
    some = λ below. omega arith;
  }
  bounds (Some p) next from first end is_o place bytes begins other is_first before = record {
    begins = begins;
    first = is_first;
    last = is.each next p is_o;
    order = let b = before p is_o in omega arith;
    some = λ below. let b = before p is_o in omega arith;
  }

  pub part_bounds : (next from : ℕ) (first last end : FirstPlace) → end.place ≡ length held → end.bytes ≡ costs held → first.place ≡ from
      → (from ≡ end.place → ⊥) → IsPlace held first → ((p : FirstPlace) → slice_get parts next ≡ Some p → first.place < p.place)
      → last ≡ unwrap_or (slice_get parts next) end → AreBounds held from first last
  part_bounds next from first last end place bytes begins other is_first before last_is =
      rw last_is (bounds (slice_get parts next) next from first end refl place bytes begins other is_first before)

-- at the end there are none
pub no_items : (held : List LabelledItem) (end : FirstPlace) (from : ℕ) → end.place ≡ length held → end.bytes ≡ costs held
    → from ≡ end.place
    → AreBounds held from end end
no_items held end from place bytes at = record {
  begins = sym at;
  first = whole_place held end place bytes;
  last = whole_place held end place bytes;
  order = omega arith;
  some = λ below. omega arith;
}

-- ---- what is read of a part

storable-drop : (n : ℕ) (held : List LabelledItem) → AllByRecursion IsStorable held → AllByRecursion IsStorable (drop n held)
storable-drop zero held all = all
storable-drop (suc n) [] all = all
storable-drop (suc n) (x ∷ held) all = storable-drop n held all.1

storable-take : (n : ℕ) (held : List LabelledItem) → AllByRecursion IsStorable held → AllByRecursion IsStorable (take n held)
storable-take zero held all = tt
storable-take (suc n) [] all = all
storable-take (suc n) (x ∷ held) all = (all.0, storable-take n held all.1)

module _ (held : List LabelledItem) (bytes : List ℕ) (firsts : FirstPlaces) (sum : ℕ) (is : AreStored held bytes firsts sum) (from : ℕ)
    (p q : FirstPlace) (bounds : AreBounds held from p q) where
  abbrev before : List LabelledItem
  before = take from held

  abbrev these : List LabelledItem
  these = take (q.place - from) (drop from held)

  abbrev behind : List LabelledItem
  behind = drop (q.place - from) (drop from held)

  all_bytes : bytes ≡ stored before ++ (stored these ++ stored behind)
  all_bytes =
      is.written ∙ ap stored (sym (take-append-drop from held)) ∙ flat_map-append stored_item before (drop from held)
      ∙ ap (λ (b : List ℕ). stored before ++ b)
      (ap stored (sym (take-append-drop (q.place - from) (drop from held))) ∙ flat_map-append stored_item these behind)

  begins : length (stored before) ≡ p.bytes
  begins = length-stored before ∙ ap (λ n. costs (take n held)) (sym bounds.begins) ∙ sym bounds.first.bytes

  up_to_end : take q.place held ≡ before ++ these
  up_to_end =
      let sum : from + (q.place - from) ≡ q.place = let o = bounds.order in omega arith in
      ap (λ n. take n held) (sym sum) ∙ take-add from (q.place - from) held

  ends : length (stored these) ≡ q.bytes - p.bytes
  ends =
      let all = bounds.last.bytes ∙ ap costs up_to_end ∙ sum_by-append (λ (l : LabelledItem). cost l.1) before these in
      let one : length (stored before) ≡ costs before = length-stored before in
      let two : length (stored these) ≡ costs these = length-stored these in
      let b = begins in
      omega arith

  bytes_there : slice_range bytes p.bytes q.bytes ≡ stored these
  bytes_there =
      ap (λ (b : List ℕ). take (q.bytes - p.bytes) (drop p.bytes b)) all_bytes
      ∙ ap (take (q.bytes - p.bytes)) (drop_at (stored before) (stored these ++ stored behind) p.bytes begins)
      ∙ take_at (stored these) (stored behind) (q.bytes - p.bytes) ends

  long : q.place - from ≡ length these
  long =
      let within = bounds.last.within in
      let order = bounds.order in
      omega (arith, length-take (q.place - from) (drop from held), length-drop from held)

  items_there : items_in (q.place - from) (slice_range bytes p.bytes q.bytes) ≡ these
  items_there =
      (λ i. items_in (long i) ((bytes_there ∙ sym (append-nil (stored these))) i))
      ∙ items_again these [] (storable-take (q.place - from) (drop from held) (storable-drop from held is.storable))

  pub part_read : (items : List LabelledItem) (read : List ℕ) (n b b' : ℕ) → n ≡ q.place → b ≡ p.bytes → b' ≡ q.bytes
      → items ≡ items_in (n - from) read → read ≡ slice_range bytes b b' → items ≡ slice_range held from n
  part_read items read n b b' n_is b_is b'_is items_are read_is =
      items_are ∙ rw (read_is, n_is, b_is, b'_is) items_there

-- as many as there are between the bounds
pub part_count : (held : List LabelledItem) (from : ℕ) (p q : FirstPlace) → AreBounds held from p q → (items : List LabelledItem)
    (read : List ℕ) (n : ℕ) → n ≡ q.place → items ≡ items_in (n - from) read → length items + from ≡ n
part_count held from p q bounds items read n n_is items_are =
    let order = bounds.order in
    let many = ap length items_are ∙ length-items_in (n - from) read in
    omega arith
