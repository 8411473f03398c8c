-- How the first places follow a push, and what they say of a cut.
use Rattle.std.proofs.Common.{◌≡◌, ◌⊎◌, inl, inr, ◌+◌, ℕ, suc, Bool, true, false, cond, not, List}
use Rattle.std.proofs.Common.{[], ◌∷◌, ◌++◌, Option, None, Some, length, take, drop, eqb, nat_lt}
use Rattle.std.proofs.Common.{position, refl, sym, ap, subst, ◌∙◌, arith, true≢false, append_assoc}
use Rattle.std.proofs.Common.{length-append, slice_get, zero-add}
use Rattle.std.specs.Prelude.{is_some, nat_eq, unwrap_or}
use Rattle.std.specs.List.{position_or_len}
use Rattle.std.specs.Map.{lookup, keys_of}
use Rattle.std.proofs.lemmas.List.{append-nil, take_at}
use Rattle.std.proofs.lemmas.List.Sums.{sum_by-cons}
use Rattle.std.proofs.lemmas.Bool.{eqb-true}
use Rattle.std.proofs.lemmas.Bool.Decides.{nat_tests}
use Rattle.pgspool.specs.declared.first_place.FirstPlace.{FirstPlace}
use Rattle.pgspool.specs.Labels.{LabelledItem, cut, cost, costs}
use Rattle.pgspool.specs.FirstPlaces.{FirstPlaces, has_label, noted, first_places_from}
use Rattle.pgspool.specs.FirstPlaces.{first_places}
use Rattle.pgspool.proofs.Cuts.{cut-cons_other, cut-cons_same, cut-append-cut_away}

same_label : (x : ℕ) → nat_eq x x ≡ true
same_label x = grind (arith, nat_tests)

turned : (x y : ℕ) (b : Bool) → nat_eq x y ≡ b → nat_eq y x ≡ b
turned x y true e = grind (arith, nat_tests)
turned x y false e = grind (arith, nat_tests)

costs-cons : (x : LabelledItem) (xs : List LabelledItem) → costs (x ∷ xs) ≡ cost x.1 + costs xs
costs-cons x xs = sum_by-cons (λ (l : LabelledItem). cost l.1) x xs

pub not_there : {A : Type 0} (o : Option A) → is_some o ≡ false → o ≡ None
not_there None e = refl
not_there (Some x) e = absurd (true≢false e)

pub noted_new : (firsts : FirstPlaces) (label : ℕ) (first : FirstPlace) → has_label label firsts ≡ false
    → noted firsts label first ≡ firsts ++ (label, first) ∷ []
noted_new firsts label first new = ap (λ b. cond b firsts (firsts ++ (label, first) ∷ [])) new

noted_seen : (firsts : FirstPlaces) (label : ℕ) (first : FirstPlace) → has_label label firsts ≡ true → noted firsts label first ≡ firsts
noted_seen firsts label first seen = ap (λ b. cond b firsts (firsts ++ (label, first) ∷ [])) seen

noted_extends : (firsts : FirstPlaces) (label : ℕ) (first : FirstPlace) → (more : FirstPlaces) × (noted firsts label first ≡ firsts ++ more)
noted_extends firsts label first =
    elim (has_label label firsts) as (λ b. (more : FirstPlaces) × (cond b firsts (firsts ++ (label, first) ∷ []) ≡ firsts ++ more)) [
      | true ↦ ([], sym (append-nil firsts))
      | false ↦ ((label, first) ∷ [], refl)
    ]

extends : (firsts : FirstPlaces) (place bytes : ℕ) (xs : List LabelledItem)
    → (more : FirstPlaces) × (first_places_from firsts place bytes xs ≡ firsts ++ more)
extends firsts place bytes [] = ([], sym (append-nil firsts))
extends firsts place bytes (x ∷ xs) =
    let one = noted_extends firsts x.0 (record { place = place; bytes = bytes }) in
    let rest = extends (noted firsts x.0 (record { place = place; bytes = bytes })) (place + 1) (bytes + cost x.1) xs in
    (one.0 ++ rest.0, rest.1 ∙ ap (λ l. l ++ rest.0) one.1 ∙ append_assoc firsts one.0 rest.0)

-- a label behind another is none of those before it
has_label-append : (label : ℕ) (firsts : FirstPlaces) (other : ℕ) (first : FirstPlace) → has_label label firsts ≡ false
    → nat_eq label other ≡ false → has_label label (firsts ++ (other, first) ∷ []) ≡ false
has_label-append label [] other first none apart = ap (λ b. is_some (cond b (Some first) None)) apart
has_label-append label (e ∷ es) other first none apart =
    elim (nat_eq label e.0) as
    (λ b. is_some (cond b (Some e.1) (lookup (nat_eq label) es)) ≡ false
    → is_some (cond b (Some e.1) (lookup (nat_eq label) (es ++ (other, first) ∷ []))) ≡ false) [
      | true ↦ λ n. n
      | false ↦ λ n. has_label-append label es other first n apart
    ] none

has_label-noted : (label : ℕ) (firsts : FirstPlaces) (other : ℕ) (first : FirstPlace) → has_label label firsts ≡ false
    → nat_eq label other ≡ false → has_label label (noted firsts other first) ≡ false
has_label-noted label firsts other first none apart =
    elim (has_label other firsts) as (λ b. has_label label (cond b firsts (firsts ++ (other, first) ∷ [])) ≡ false) [
      | true ↦ none
      | false ↦ has_label-append label firsts other first none apart
    ]

-- where the label stands, counted on from a place and from bytes
abbrev first_at : ℕ → ℕ → List LabelledItem → FirstPlace
first_at place bytes front = record { place = place + length front; bytes = bytes + costs front }

first_at-nil : (place bytes : ℕ) → first_at place bytes [] ≡ record { place = place; bytes = bytes }
first_at-nil place bytes =
    λ i. record { place = (let e : place + 0 ≡ place = omega arith in e) i; bytes = (let e : bytes + 0 ≡ bytes = omega arith in e) i }

first_at-cons : (place bytes : ℕ) (x : LabelledItem) (xs : List LabelledItem)
    → first_at (place + 1) (bytes + cost x.1) xs ≡ first_at place bytes (x ∷ xs)
first_at-cons place bytes x xs =
    let e : (place + 1) + length xs ≡ place + length (x ∷ xs) = omega arith in
    let c : costs (x ∷ xs) ≡ cost x.1 + costs xs = costs-cons x xs in
    let f : (bytes + cost x.1) + costs xs ≡ bytes + costs (x ∷ xs) = omega arith in
    λ i. record { place = e i; bytes = f i }

-- the label's place, with those of the labels before it in front
abbrev IsSeen : ℕ → FirstPlaces → ℕ → ℕ → List LabelledItem → Type 0
IsSeen label firsts place bytes xs =
    (more : FirstPlaces) × (has_label label (first_places_from firsts place bytes (cut label xs)) ≡ false)
    × (first_places_from firsts place bytes xs ≡ first_places_from firsts place bytes (cut label xs)
    ++ (label, first_at place bytes (cut label xs)) ∷ more)

abbrev IsUnseen : ℕ → FirstPlaces → ℕ → ℕ → List LabelledItem → Type 0
IsUnseen label firsts place bytes xs = (has_label label (first_places_from firsts place bytes xs) ≡ false) × (cut label xs ≡ xs)

seen_first : (label : ℕ) (firsts : FirstPlaces) (place bytes : ℕ) (x : LabelledItem) (xs : List LabelledItem)
    → has_label label firsts ≡ false → x.0 ≡ label → IsSeen label firsts place bytes (x ∷ xs)
seen_first label firsts place bytes x xs none is =
    let here : FirstPlace = record { place = place; bytes = bytes } in
    let nothing : cut label (x ∷ xs) ≡ [] = cut-cons_same label x xs (ap (λ n. eqb n label) is ∙ same_label label) in
    let later = extends (noted firsts x.0 here) (place + 1) (bytes + cost x.1) xs in
    let all : first_places_from firsts place bytes (x ∷ xs) ≡ firsts ++ (label, first_at place bytes []) ∷ later.0 =
    later.1 ∙ ap (λ l. l ++ later.0) (noted_new firsts x.0 here (ap (λ n. has_label n firsts) is ∙ none))
    ∙ append_assoc firsts ((x.0, here) ∷ []) later.0
    ∙ (λ i. firsts ++ (is i, sym (first_at-nil place bytes) i) ∷ later.0) in (
      later.0,
      subst (λ front. has_label label (first_places_from firsts place bytes front) ≡ false) (sym nothing) none,
      subst (λ front. first_places_from firsts place bytes (x ∷ xs) ≡ first_places_from firsts place bytes front
          ++ (label, first_at place bytes front) ∷ later.0) (sym nothing) all,
    )

seen_later : (label : ℕ) (firsts : FirstPlaces) (place bytes : ℕ) (x : LabelledItem) (xs : List LabelledItem) → eqb x.0 label ≡ false
    → IsSeen label (noted firsts x.0 (record { place = place; bytes = bytes })) (place + 1) (bytes + cost x.1) xs
    → IsSeen label firsts place bytes (x ∷ xs)
seen_later label firsts place bytes x xs apart seen =
    let kept : cut label (x ∷ xs) ≡ x ∷ cut label xs = cut-cons_other label x xs apart in (
      seen.0,
      subst (λ front. has_label label (first_places_from firsts place bytes front) ≡ false) (sym kept) seen.1,
      subst (λ front. first_places_from firsts place bytes (x ∷ xs) ≡ first_places_from firsts place bytes front
          ++ (label, first_at place bytes front) ∷ seen.0) (sym kept)
          (seen.2 ∙ ap (λ f. first_places_from firsts place bytes (x ∷ cut label xs) ++ (label, f) ∷ seen.0)
          (first_at-cons place bytes x (cut label xs))),
    )

pub seen_or_not : (label : ℕ) (firsts : FirstPlaces) (place bytes : ℕ) (xs : List LabelledItem) → has_label label firsts ≡ false
    → IsUnseen label firsts place bytes xs ⊎ IsSeen label firsts place bytes xs
seen_or_not label firsts place bytes [] none = inl (none, refl)
seen_or_not label firsts place bytes (x ∷ xs) none =
    elim (eqb x.0 label) as (λ b. eqb x.0 label ≡ b
    → IsUnseen label firsts place bytes (x ∷ xs) ⊎ IsSeen label firsts place bytes (x ∷ xs)) [
      | true ↦ λ e. inr (seen_first label firsts place bytes x xs none (eqb-true x.0 label e))
      | false ↦ λ e.
          elim (seen_or_not label (noted firsts x.0 (record { place = place; bytes = bytes })) (place + 1) (bytes + cost x.1) xs
          (has_label-noted label firsts x.0 (record { place = place; bytes = bytes }) none (turned x.0 label false e))) [
            | inl unseen ↦ inl (unseen.0, cut-cons_other label x xs e ∙ ap (λ l. x ∷ l) unseen.1)
            | inr seen ↦ inr (seen_later label firsts place bytes x xs e seen)
          ]
    ] refl

pub first_places_from_push : (firsts : FirstPlaces) (place bytes : ℕ) (xs : List LabelledItem) (x : LabelledItem)
    → first_places_from firsts place bytes (xs ++ x ∷ []) ≡ noted (first_places_from firsts place bytes xs) x.0 (first_at place bytes xs)
first_places_from_push firsts place bytes [] x = ap (noted firsts x.0) (sym (first_at-nil place bytes))
first_places_from_push firsts place bytes (y ∷ ys) x =
    first_places_from_push (noted firsts y.0 (record { place = place; bytes = bytes })) (place + 1) (bytes + cost y.1) ys x
    ∙ ap (noted (first_places_from firsts place bytes (y ∷ ys)) x.0) (first_at-cons place bytes y ys)

-- the index of a label behind others
position_behind : (label : ℕ) (front : FirstPlaces) (first : FirstPlace) (more : FirstPlaces) → has_label label front ≡ false
    → position_or_len (nat_eq label) (keys_of (front ++ (label, first) ∷ more)) ≡ length front
position_behind label [] first more none = ap (λ b. cond (not b) (1 + position_or_len (nat_eq label) (keys_of more)) 0) (same_label label)
position_behind label (e ∷ es) first more none =
    let rest = position_or_len (nat_eq label) (keys_of (es ++ (label, first) ∷ more)) in
    elim (nat_eq label e.0) as
    (λ b. is_some (cond b (Some e.1) (lookup (nat_eq label) es)) ≡ false → cond (not b) (1 + rest) 0 ≡ suc (length es)) [
      | true ↦ λ n. absurd (true≢false n)
      | false ↦ λ n. let ih : rest ≡ length es = position_behind label es first more n in omega arith
    ] none

length-keys : (es : FirstPlaces) → length (keys_of es) ≡ length es
length-keys [] = refl
length-keys (e ∷ es) = ap suc (length-keys es)

found_behind : (label : ℕ) (front : FirstPlaces) (first : FirstPlace) (more : FirstPlaces) → has_label label front ≡ false
    → position (nat_eq label) (keys_of (front ++ (label, first) ∷ more)) ≡ Some (length front)
found_behind label front first more none =
    let keys = keys_of (front ++ (label, first) ∷ more) in
    let at : position_or_len (nat_eq label) keys ≡ length front = position_behind label front first more none in
    let all : length keys ≡ length front + length ((label, first) ∷ more) =
    length-keys (front ++ (label, first) ∷ more) ∙ length-append front ((label, first) ∷ more) in
    let within : nat_lt (position_or_len (nat_eq label) keys) (length keys) ≡ true = grind (arith, nat_tests) in
    ap (λ b. cond b (Some (position_or_len (nat_eq label) keys)) None) within ∙ ap Some at

item_behind : (front : FirstPlaces) (e : ℕ × FirstPlace) (more : FirstPlaces) → slice_get (front ++ e ∷ more) (length front) ≡ Some e
item_behind [] e more = refl
item_behind (f ∷ fs) e more = item_behind fs e more

seen_there : (label : ℕ) (front : FirstPlaces) (first : FirstPlace) (more : FirstPlaces)
    → has_label label (front ++ (label, first) ∷ more) ≡ true
seen_there label [] first more = ap (λ b. is_some (cond b (Some first) (lookup (nat_eq label) more))) (same_label label)
seen_there label (e ∷ es) first more =
    elim (nat_eq label e.0) as (λ b. is_some (cond b (Some e.1) (lookup (nat_eq label) (es ++ (label, first) ∷ more))) ≡ true) [
      | true ↦ refl
      | false ↦ seen_there label es first more
    ]

pub cut-unseen : (label : ℕ) (held : List LabelledItem) → has_label label (first_places held) ≡ false → cut label held ≡ held
cut-unseen label held none =
    elim (seen_or_not label [] 0 0 held refl) [
      | inl unseen ↦ unseen.1
      | inr seen ↦ absurd (true≢false
          (sym (ap (has_label label) seen.2 ∙ seen_there label (first_places (cut label held)) (first_at 0 0 (cut label held)) seen.0)
          ∙ none))
    ]

-- what the entry of a label says of its cut
pub record TellsCut (label : ℕ) (held : List LabelledItem) (firsts : FirstPlaces) (index : ℕ) (first : FirstPlace) : Type 0 where
  pub kept : take first.place held ≡ cut label held
  pub before : take index firsts ≡ first_places (cut label held)
  pub bytes : first.bytes ≡ costs (cut label held)

same_place : {A : Type 0} (x y : A) → Some x ≡ Some y → x ≡ y
same_place x y e = ap (λ o. unwrap_or o x) e

taken_front : (label : ℕ) (held : List LabelledItem) → take (length (cut label held)) held ≡ cut label held
taken_front label held =
    ap (take (length (cut label held))) (sym (cut-append-cut_away label held))
    ∙ take_at (cut label held) (drop (length (cut label held)) held) (length (cut label held)) refl

pub cut-seen : (label : ℕ) (held : List LabelledItem) (index : ℕ) (key : ℕ) (first : FirstPlace)
    → has_label label (first_places held) ≡ true → position (nat_eq label) (keys_of (first_places held)) ≡ Some index
    → slice_get (first_places held) index ≡ Some (key, first) → TellsCut label held (first_places held) index first
cut-seen label held index key first has found item =
    elim (seen_or_not label [] 0 0 held refl) [
      | inl unseen ↦ absurd (true≢false (sym has ∙ unseen.0))
      | inr seen ↦
          let front = first_places (cut label held) in
          let there : FirstPlace = first_at 0 0 (cut label held) in
          let at : length front ≡ index =
          same_place (length front) index
          (sym (found_behind label front there seen.0 seen.1) ∙ sym (ap (λ l. position (nat_eq label) (keys_of l)) seen.2) ∙ found) in
          let entry : ◌≡◌ {A = ℕ × FirstPlace} (label, there) (key, first) =
          same_place (label, there) (key, first)
          (sym (item_behind front (label, there) seen.0) ∙ ap (λ l. slice_get l (length front)) (sym seen.2)
          ∙ ap (slice_get (first_places held)) at ∙ item) in
          let place : 0 + length (cut label held) ≡ first.place = ap (λ (e : ℕ × FirstPlace). e.1.place) entry in
          let bytes : 0 + costs (cut label held) ≡ first.bytes = ap (λ (e : ℕ × FirstPlace). e.1.bytes) entry in
          record {
            kept = ap (λ n. take n held) (sym place ∙ zero-add (length (cut label held))) ∙ taken_front label held;
            before = ap (take index) seen.2 ∙ take_at front ((label, there) ∷ seen.0) index at;
            bytes = sym bytes ∙ zero-add (costs (cut label held));
          }
    ]
