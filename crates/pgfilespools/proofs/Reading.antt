-- What is stored is what is read, and takes as many bytes as it costs.
use Rattle.std.proofs.Common.{◌≡◌, ◌+◌, ◌<◌, ◌^◌, ℕ, zero, suc, List, [], ◌∷◌, ◌++◌, None, take}
use Rattle.std.proofs.Common.{drop}
use Rattle.std.proofs.Common.{length, refl, ap, ◌∙◌, arith, length-append, append_assoc}
use Rattle.std.specs.Prelude.{Result, Ok, Err, IfOk}
use Rattle.std.specs.Int.{to_be_bytes, from_be_bytes, w32}
use Rattle.std.specs.List.{AllByRecursion}
use Rattle.std.proofs.lemmas.Nat.{from_be_bytes-to_be_bytes_4}
use Rattle.std.proofs.lemmas.List.{append-nil, take_at, drop_at}
use Rattle.std.proofs.lemmas.List.Concat.{flat_map-cons}
use Rattle.std.proofs.lemmas.List.Sums.{sum_by-cons}
use Rattle.std.proofs.lemmas.Grind.{flat_map-append}
use Rattle.pglogical.specs.Spelling.{item_spelling}
use Rattle.pgspool.specs.declared.fault.SpoolFault.{SpoolFault}
use Rattle.pgspool.specs.Labels.{LabelledItem, cost, costs}
use Rattle.pgspool.specs.Marks.{item_in, item_read}
use Rattle.pgfilespools.specs.Stored.{stored_item, stored, number_at, size_at, spelled_at, first_at}
use Rattle.pgfilespools.specs.Stored.{others_at, spelling_at}
use Rattle.pgfilespools.specs.Stored.{items_in, IsStorable}

abbrev pub spelling : LabelledItem → List ℕ
spelling l = item_spelling None l.1

pub stored-cons : (l : LabelledItem) (ls : List LabelledItem) → stored (l ∷ ls) ≡ stored_item l ++ stored ls
stored-cons l ls = flat_map-cons stored_item l ls

pub stored-push : (held : List LabelledItem) (l : LabelledItem) → stored (held ++ l ∷ []) ≡ stored held ++ stored_item l
stored-push held l = flat_map-append stored_item held (l ∷ [])
    ∙ ap (λ (b : List ℕ). stored held ++ b) (stored-cons l [] ∙ append-nil (stored_item l))

pub length-stored : (held : List LabelledItem) → length (stored held) ≡ costs held
length-stored [] = refl
length-stored (l ∷ ls) =
    let all : length (stored (l ∷ ls)) ≡ length (stored_item l) + length (stored ls) =
    ap length (stored-cons l ls) ∙ length-append (stored_item l) (stored ls) in
    let one : length (stored_item l) ≡ 8 + length (spelling l) = omega arith in
    let sum : costs (l ∷ ls) ≡ cost l.1 + costs ls = sum_by-cons (λ (l : LabelledItem). cost l.1) l ls in
    let rest : length (stored ls) ≡ costs ls = length-stored ls in
    omega arith

pub length-items_in : (n : ℕ) (bytes : List ℕ) → length (items_in n bytes) ≡ n
length-items_in zero bytes = refl
length-items_in (suc n) bytes = ap suc (length-items_in n (others_at bytes))

pub count_read : (n : ℕ) (bytes : List ℕ) (r : Result (List LabelledItem) SpoolFault) → IfOk r (λ items. items ≡ items_in n bytes)
    → IfOk r (λ items. length items ≡ n)
count_read n bytes (Ok items) is = ap length is ∙ length-items_in n bytes
count_read n bytes (Err fault) is = tt

-- ---- the first item

pub number_again : (n : ℕ) (more : List ℕ) → n < 2 ^ 32 → number_at (to_be_bytes w32 n ++ more) ≡ n
number_again n more lt =
    ap (from_be_bytes w32) (take_at (to_be_bytes w32 n) more 4 refl) ∙ from_be_bytes-to_be_bytes_4 n lt

behind_number : (n : ℕ) (more : List ℕ) → drop 4 (to_be_bytes w32 n ++ more) ≡ more
behind_number n more = drop_at (to_be_bytes w32 n) more 4 refl

module _ (l : LabelledItem) (more : List ℕ) (is : IsStorable l) where
  abbrev bytes : List ℕ
  bytes = stored_item l ++ more

  abbrev size : ℕ
  size = length (spelling l)

  laid : bytes ≡ to_be_bytes w32 l.0 ++ (to_be_bytes w32 size ++ (spelling l ++ more))
  laid = append_assoc (to_be_bytes w32 l.0) (to_be_bytes w32 size ++ spelling l) more
      ∙ ap (λ (b : List ℕ). to_be_bytes w32 l.0 ++ b) (append_assoc (to_be_bytes w32 size) (spelling l) more)

  sized : drop 4 bytes ≡ to_be_bytes w32 size ++ (spelling l ++ more)
  sized = ap (drop 4) laid ∙ behind_number l.0 (to_be_bytes w32 size ++ (spelling l ++ more))

  size_is : size_at bytes ≡ size
  size_is = ap number_at sized ∙ number_again size (spelling l ++ more) is.size

  spelled_is : spelled_at bytes ≡ spelling l ++ more
  spelled_is = ap (drop 4) sized ∙ behind_number size (spelling l ++ more)

  pub others_are : others_at bytes ≡ more
  others_are = (λ i. drop (size_is i) (spelled_is i)) ∙ drop_at (spelling l) more size refl

  pub spelling_is : spelling_at bytes ≡ spelling l
  spelling_is = (λ i. take (size_is i) (spelled_is i)) ∙ take_at (spelling l) more size refl

  pub first_is : first_at bytes ≡ l
  first_is =
      let label : number_at bytes ≡ l.0 = ap number_at laid ∙ number_again l.0 (to_be_bytes w32 size ++ (spelling l ++ more)) is.label in
      (λ i. (label i, item_in (spelling_is i))) ∙ (λ i. (l.0, item_read (is.readable i)))

-- ---- all items

pub items_again : (held : List LabelledItem) (more : List ℕ) → AllByRecursion IsStorable held
    → items_in (length held) (stored held ++ more) ≡ held
items_again [] more all = refl
items_again (l ∷ ls) more all =
    let laid : stored (l ∷ ls) ++ more ≡ stored_item l ++ (stored ls ++ more) =
    ap (λ (b : List ℕ). b ++ more) (stored-cons l ls) ∙ append_assoc (stored_item l) (stored ls) more in
    ap (items_in (length (l ∷ ls))) laid
    ∙ (λ i. first_is l (stored ls ++ more) all.0 i ∷ items_in (length ls) (others_are l (stored ls ++ more) all.0 i))
    ∙ ap (λ (r : List LabelledItem). l ∷ r) (items_again ls more all.1)
