-- Items that are kept as bytes, and what is read of them.
use Rattle.std.proofs.Common.{◌≡◌, ◌+◌, ◌-◌, ◌≤◌, ◌<◌, ℕ, zero, suc, List, [], ◌∷◌, ◌++◌, None}
use Rattle.std.proofs.Common.{Some, false, take, drop, length, refl, sym, ap, subst, ◌∙◌, arith}
use Rattle.std.proofs.Common.{slice_get, length-append, zero-add, add-one, eqb, cond, true}
use Rattle.std.specs.Prelude.{slice_range, Option, unwrap_or}
use Rattle.std.specs.List.{AllByRecursion}
use Rattle.std.proofs.lemmas.List.{append-nil, take_at, drop_at, take-append-drop}
use Rattle.std.proofs.lemmas.List.Concat.{flat_map-cons}
use Rattle.std.proofs.lemmas.Grind.{flat_map-append}
use Rattle.pgtuple.specs.Limits.{IsBytes}
use Rattle.pglogical.specs.declared.message.Item.{Item}
use Rattle.pglogical.specs.declared.message.Message.TheVariants as message
use Rattle.pglogical.specs.Spelling.{IsWire, IsSpellable, item_spelling, message_spelling}
use Rattle.pglogical.proofs.ReadLaws.{messages_exact}
use Rattle.pgspool.specs.declared.mark.Mark.{Mark}
use Rattle.pgspool.specs.Labels.{LabelledItem, cut, cost, costs}
use Rattle.pgspool.specs.FirstPlaces.{FirstPlaces, noted, first_places}
use Rattle.pgspool.specs.Marks.{spelled, marks_from, start_or, item_read, item_in, IsReadable}
use Rattle.pgspool.specs.Marks.{next_start, held_in}
use Rattle.pgspool.specs.AreEncoded.{AreEncoded}
use Rattle.pgspool.proofs.IndexLemmas.{AreIndexed-push, AreIndexed-cut}

abbrev pub spelling : LabelledItem → List ℕ
spelling l = item_spelling None l.1

abbrev pub AreReadable : List LabelledItem → Type 0
AreReadable held = AllByRecursion (λ (l : LabelledItem). IsReadable l.1) held

pub readable : (item : Item) → IsBytes (item_spelling None item) → IsWire item → IsReadable item
unfolding message_spelling
readable item fits wire =
    (messages_exact false (item_spelling None item) (message.Item None item) fits).1
    (record { wire = (tt, wire); xid = tt; spelled = refl })

some_is : (x y : LabelledItem) → ◌≡◌ {A = Option LabelledItem} (Some x) (Some y) → x ≡ y
some_is x y e = ap (λ (o : Option LabelledItem). unwrap_or o x) e

spelled-cons : (l : LabelledItem) (ls : List LabelledItem) → spelled (l ∷ ls) ≡ spelling l ++ spelled ls
spelled-cons l ls = flat_map-cons spelling l ls

next_is : (n : ℕ) (l : LabelledItem) (ls : List LabelledItem)
    → next_start (marks_from (n + length (spelling l)) ls) (n + length (spelled (l ∷ ls))) ≡ n + length (spelling l)
next_is n l [] = ap (λ (b : List ℕ). n + length b) (spelled-cons l [] ∙ append-nil (spelling l))
next_is n l (k ∷ ks) = refl

-- what is kept is what is read
pub held_again : (n : ℕ) (held : List LabelledItem) → AreReadable held → held_in (marks_from n held) (spelled held) ≡ held
held_again n [] all = refl
held_again n (l ∷ ls) all =
    let size = next_start (marks_from (n + length (spelling l)) ls) (n + length (spelled (l ∷ ls))) - n in
    let is : length (spelling l) ≡ size = omega (arith, next_is n l ls) in
    let front : take size (spelled (l ∷ ls)) ≡ spelling l =
    ap (take size) (spelled-cons l ls) ∙ take_at (spelling l) (spelled ls) size is in
    let rest : drop size (spelled (l ∷ ls)) ≡ spelled ls = ap (drop size) (spelled-cons l ls) ∙ drop_at (spelling l) (spelled ls) size is in
    (λ i. (l.0, item_in (front i)) ∷ held_in (marks_from (n + length (spelling l)) ls) (rest i))
    ∙ (λ i. (l.0, item_read (all.0 i)) ∷ held_again (n + length (spelling l)) ls all.1 i)

pub length-marks : (n : ℕ) (held : List LabelledItem) → length (marks_from n held) ≡ length held
length-marks n [] = refl
length-marks n (l ∷ ls) = ap suc (length-marks (n + length (spelling l)) ls)

pub spelled-push : (held : List LabelledItem) (l : LabelledItem) → spelled (held ++ l ∷ []) ≡ spelled held ++ spelling l
spelled-push held l = flat_map-append spelling held (l ∷ [])
    ∙ ap (λ (b : List ℕ). spelled held ++ b) (spelled-cons l [] ∙ append-nil (spelling l))

length-spelled-cons : (l : LabelledItem) (ls : List LabelledItem) → length (spelled (l ∷ ls)) ≡ length (spelling l) + length (spelled ls)
length-spelled-cons l ls = ap length (spelled-cons l ls) ∙ length-append (spelling l) (spelled ls)

pub marks-push : (n : ℕ) (held : List LabelledItem) (l : LabelledItem)
    → marks_from n (held ++ l ∷ []) ≡ marks_from n held ++ record { subxid = l.0; start = n + length (spelled held) } ∷ []
marks-push n [] l = ap (λ (s : ℕ). record { subxid = l.0; start = s } ∷ []) (omega arith)
marks-push n (k ∷ ks) l =
    let moved : (n + length (spelling k)) + length (spelled ks) ≡ n + length (spelled (k ∷ ks)) = omega (arith, length-spelled-cons k ks) in
    ap (λ (ms : List Mark). record { subxid = k.0; start = n } ∷ ms)
    (marks-push (n + length (spelling k)) ks l
    ∙ ap (λ (s : ℕ). marks_from (n + length (spelling k)) ks ++ record { subxid = l.0; start = s } ∷ []) moved)

pub take-marks : (k n : ℕ) (held : List LabelledItem) → take k (marks_from n held) ≡ marks_from n (take k held)
take-marks zero n held = refl
take-marks (suc k) n [] = refl
take-marks (suc k) n (l ∷ ls) = ap (λ (ms : List Mark). record { subxid = l.0; start = n } ∷ ms) (take-marks k (n + length (spelling l)) ls)

-- where the item at a place begins
pub start_is : (k n : ℕ) (held : List LabelledItem)
    → start_or (n + length (spelled held)) (slice_get (marks_from n held) k) ≡ n + length (spelled (take k held))
start_is zero n [] = refl
start_is zero n (l ∷ ls) = omega arith
start_is (suc k) n [] = refl
start_is (suc k) n (l ∷ ls) =
    let there = start_is k (n + length (spelling l)) ls in
    let whole : (n + length (spelling l)) + length (spelled ls) ≡ n + length (spelled (l ∷ ls)) = omega (arith, length-spelled-cons l ls) in
    let front : (n + length (spelling l)) + length (spelled (take k ls)) ≡ n + length (spelled (l ∷ take k ls)) =
    omega (arith, length-spelled-cons l (take k ls)) in
    ap (λ (e : ℕ). start_or e (slice_get (marks_from (n + length (spelling l)) ls) k)) (sym whole) ∙ there ∙ front

pub take-spelled : (k : ℕ) (held : List LabelledItem) → take (length (spelled (take k held))) (spelled held) ≡ spelled (take k held)
take-spelled k held =
    let both : spelled held ≡ spelled (take k held) ++ spelled (drop k held) =
    ap spelled (sym (take-append-drop k held)) ∙ flat_map-append spelling (take k held) (drop k held) in
    ap (take (length (spelled (take k held)))) both
    ∙ take_at (spelled (take k held)) (spelled (drop k held)) (length (spelled (take k held))) refl

-- the slice that spells the item at a place
pub part_is : (k : ℕ) (held : List LabelledItem) (l : LabelledItem) → slice_get held k ≡ Some l
    → slice_range (spelled held) (length (spelled (take k held))) (length (spelled (take (suc k) held))) ≡ spelling l
part_is k [] l e = absurd cc
part_is zero (h ∷ hs) l e =
    let same : h ≡ l = some_is h l e in
    let one : length (spelled (h ∷ [])) - 0 ≡ length (spelling h) =
    omega (arith, ap length (spelled-cons h [] ∙ append-nil (spelling h))) in
    ap (λ (n : ℕ). take n (spelled (h ∷ hs))) one ∙ ap (take (length (spelling h))) (spelled-cons h hs)
    ∙ take_at (spelling h) (spelled hs) (length (spelling h)) refl ∙ ap spelling same
part_is (suc k) (h ∷ hs) l e =
    let from : length (spelled (h ∷ take k hs)) ≡ length (spelling h) + length (spelled (take k hs)) = length-spelled-cons h (take k hs) in
    let to : length (spelled (h ∷ take (suc k) hs)) ≡ length (spelling h) + length (spelled (take (suc k) hs)) =
    length-spelled-cons h (take (suc k) hs) in
    let size : length (spelled (h ∷ take (suc k) hs)) - length (spelled (h ∷ take k hs))
    ≡ length (spelled (take (suc k) hs)) - length (spelled (take k hs)) = omega arith in
    (λ i. take (size i) (drop (from i) (spelled-cons h hs i)))
    ∙ ap (take (length (spelled (take (suc k) hs)) - length (spelled (take k hs))))
    (drop-behind (spelling h) (spelled hs) (length (spelled (take k hs))))
    ∙ part_is k hs l e
  where
    drop-behind : (a b : List ℕ) (n : ℕ) → drop (length a + n) (a ++ b) ≡ drop n b
    drop-behind [] b n = ap (λ (m : ℕ). drop m b) (zero-add n)
    drop-behind (x ∷ xs) b n = let less : length (x ∷ xs) + n ≡ suc (length xs + n) = omega arith in
        ap (λ (m : ℕ). drop m (x ∷ (xs ++ b))) less ∙ drop-behind xs b n

grows : (k : ℕ) (held : List LabelledItem) → length (spelled (take k held)) ≤ length (spelled (take (suc k) held))
grows zero held = omega arith
grows (suc k) [] = omega arith
grows (suc k) (l ∷ ls) = omega (arith, grows k ls, length-spelled-cons l (take k ls), length-spelled-cons l (take (suc k) ls))

within : (k : ℕ) (held : List LabelledItem) → length (spelled (take k held)) ≤ length (spelled held)
within zero held = omega arith
within (suc k) [] = omega arith
within (suc k) (l ∷ ls) = omega (arith, within k ls, length-spelled-cons l (take k ls), length-spelled-cons l ls)

there : (k : ℕ) (held : List LabelledItem) → k < length held → (l : LabelledItem) × (slice_get held k ≡ Some l)
there k [] lt = absurd (omega arith)
there zero (l ∷ ls) lt = (l, refl)
there (suc k) (l ∷ ls) lt = there k ls (omega arith)

pub none_there : (k : ℕ) (held : List LabelledItem) → length held ≤ k → slice_get held k ≡ None
none_there k [] le = refl
none_there zero (l ∷ ls) le = absurd (omega arith)
none_there (suc k) (l ∷ ls) le = none_there k ls (omega arith)

readable_at : (k : ℕ) (held : List LabelledItem) (l : LabelledItem) → AreReadable held → slice_get held k ≡ Some l → IsReadable l.1
readable_at k [] l all e = absurd cc
readable_at zero (h ∷ hs) l all e = subst (λ (x : LabelledItem). IsReadable x.1) (some_is h l e) all.0
readable_at (suc k) (h ∷ hs) l all e = readable_at k hs l all.1 e

pub spellable_there : (k : ℕ) (held : List LabelledItem) (l : LabelledItem) → AllByRecursion (λ (l : LabelledItem). IsSpellable l.1) held
    → slice_get held k ≡ Some l → IsSpellable l.1
spellable_there k [] l all e = absurd cc
spellable_there zero (h ∷ hs) l all e = subst (λ (x : LabelledItem). IsSpellable x.1) (some_is h l e) all.0
spellable_there (suc k) (h ∷ hs) l all e = spellable_there k hs l all.1 e

readable-push : (held : List LabelledItem) (l : LabelledItem) → AreReadable held → IsReadable l.1 → AreReadable (held ++ l ∷ [])
readable-push [] l all is = (is, tt)
readable-push (h ∷ hs) l all is = (all.0, readable-push hs l all.1 is)

readable-cut : (label : ℕ) (held : List LabelledItem) → AreReadable held → AreReadable (cut label held)
readable-cut label [] all = tt
readable-cut label (x ∷ xs) all =
    elim (eqb x.0 label) as (λ b. AreReadable (cond b [] (x ∷ cut label xs))) [
      | true ↦ tt
      | false ↦ (all.0, readable-cut label xs all.1)
    ]

-- ---- the fields

-- a spool that holds these items is seen as them
pub seen : (held : List LabelledItem) (marks : List Mark) (buffer : List ℕ) (firsts : FirstPlaces) (bytes : ℕ)
    → AreEncoded held marks buffer firsts bytes → held_in marks buffer ≡ held
seen held marks buffer firsts bytes is = (λ i. held_in (is.marked i) (is.written i)) ∙ held_again 0 held is.readable

pub kept : (held : List LabelledItem) (marks : List Mark) (buffer : List ℕ) (firsts : FirstPlaces) (bytes : ℕ)
    → AreEncoded held marks buffer firsts bytes → AreEncoded (held_in marks buffer) marks buffer firsts bytes
kept held marks buffer firsts bytes is =
    subst (λ (h : List LabelledItem). AreEncoded h marks buffer firsts bytes) (sym (seen held marks buffer firsts bytes is)) is

module _ (held : List LabelledItem) (marks : List Mark) (buffer : List ℕ) (firsts : FirstPlaces) (bytes : ℕ)
    (is : AreEncoded held marks buffer firsts bytes) where
  -- where the item at a place begins, by the fields
  pub start_at : (k : ℕ) → start_or (length buffer) (slice_get marks k) ≡ length (spelled (take k held))
  start_at k =
      (λ i. start_or (length (is.written i)) (slice_get (is.marked i) k))
      ∙ ap (λ (n : ℕ). start_or n (slice_get (marks_from 0 held) k)) (sym (zero-add (length (spelled held))))
      ∙ start_is k 0 held ∙ zero-add (length (spelled (take k held)))

  pub count_is : length marks ≡ length held
  count_is = ap length is.marked ∙ length-marks 0 held

  -- the item at a place, and its bytes
  pub record IsItemAt (k start end : ℕ) : Type 0 where
    pub item : LabelledItem
    pub found : slice_get held k ≡ Some item
    pub order : start ≤ end
    pub inside : end ≤ length buffer
    pub part : slice_range buffer start end ≡ spelling item
    pub readable : IsReadable item.1

  pub item_at : (k start end : ℕ) → k < length marks → start ≡ start_or (length buffer) (slice_get marks k)
      → end ≡ start_or (length buffer) (slice_get marks (k + 1)) → IsItemAt k start end
  item_at k start end lt s e =
      let one = there k held (omega (arith, count_is)) in
      let from : start ≡ length (spelled (take k held)) = s ∙ start_at k in
      let to : end ≡ length (spelled (take (suc k) held)) =
      e ∙ ap (λ (n : ℕ). start_or (length buffer) (slice_get marks n)) (add-one k) ∙ start_at (suc k) in
      record {
        item = one.0;
        found = one.1;
        order = omega (arith, from, to, grows k held);
        inside = omega (arith, to, within (suc k) held, ap length is.written);
        part = (λ i. slice_range (is.written i) (from i) (to i)) ∙ part_is k held one.0 one.1;
        readable = readable_at k held one.0 is.readable one.1;
      }

  -- after a push
  pub pushed : (label : ℕ) (item : Item) (now : FirstPlaces) → IsSpellable item → IsReadable item
      → now ≡ noted firsts label (record { place = length held; bytes = bytes })
      → AreEncoded (held ++ (label, item) ∷ []) (marks ++ record { subxid = label; start = length buffer } ∷ [])
      (buffer ++ item_spelling None item) now (bytes + cost item)
  pushed label item now spellable readable noted_is = record {
    index = AreIndexed-push held firsts bytes label item now is.index spellable noted_is;
    marked = (λ i. is.marked i ++ record { subxid = label; start = (ap length is.written ∙ sym (zero-add (length (spelled held)))) i } ∷ [])
        ∙ sym (marks-push 0 held (label, item));
    written = ap (λ (b : List ℕ). b ++ item_spelling None item) is.written ∙ sym (spelled-push held (label, item));
    readable = readable-push held (label, item) is.readable readable;
  }

  -- after a cut
  pub cut_off : (label place start : ℕ) (now : FirstPlaces) (left : ℕ) → take place held ≡ cut label held
      → now ≡ first_places (cut label held) → left ≡ costs (cut label held) → start ≡ start_or (length buffer) (slice_get marks place)
      → AreEncoded (cut label held) (take place marks) (take start buffer) now left
  cut_off label place start now left kept_is now_is left_is s =
      let from : start ≡ length (spelled (take place held)) = s ∙ start_at place in
      record {
        index = AreIndexed-cut held firsts bytes label is.index (cut label held) now left refl now_is left_is;
        marked = ap (take place) is.marked ∙ take-marks place 0 held ∙ ap (marks_from 0) kept_is;
        written = (λ i. take (from i) (is.written i)) ∙ take-spelled place held ∙ ap spelled kept_is;
        readable = readable-cut label held is.readable;
      }
