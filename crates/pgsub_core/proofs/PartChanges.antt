-- The changes of a transaction whose items are read part after part.
use Rattle.std.proofs.Common.{◌≡◌, ◌<◌, ◌≤◌, ◌+◌, ◌-◌, ℕ, zero, suc, List, [], ◌∷◌, ◌++◌}
use Rattle.std.proofs.Common.{Option, Result, Ok, Err, Bool, refl, sym, ap, subst, ◌∙◌}
use Rattle.std.proofs.Common.{append_assoc, arith, length, take, drop}
use Rattle.std.proofs.lemmas.List.{take-append-drop, drop_all, append-nil}
use Rattle.std.specs.Prelude.{IsTrue}
use Rattle.pgspool.specs.Labels.{HeldMap}
use Rattle.pglogical.specs.declared.message.RelationDef.{RelationDef}
use Rattle.pglogical.specs.declared.message.Item.{Item}
use Rattle.pglogical.specs.declared.message.Item.TheVariants.{Relation, Insert, Update, Delete}
use Rattle.pglogical.specs.declared.message.Item.TheVariants.{Truncate}
use Rattle.pglogical.specs.Named.{named}
use Rattle.pgapply.specs.Apply.{Change}
use Rattle.pgsub_core.specs.declared.fault.Fault.{Fault}
use Rattle.pgsub_core.specs.declared.fault.Fault.TheVariants as fault
use Rattle.pgsub_core.specs.Machine.Faults.{IsOfSpools}
use Rattle.pgsub_core.specs.Server.Work.{changes_of}
use Rattle.pgsub_core.specs.Server.Described.{described_from, definitions_of, with_changes}
use Rattle.pgsub_core.specs.Server.Described.{found_behind}
use Rattle.pgsub_core.specs.Machine.Replica.{RelationCache, cached, all_cached}
use Rattle.pgsub_core.specs.Calls.Drafts.{known_to, behind_changes, LacksDefinition}
use Rattle.pgsub_core.specs.Calls.Parting.{part, given_changes, changes_in, IsDescribed}
use Rattle.pgsub_core.proofs.DescribedChanges.{known_behind}

-- ---- parts of a list

pub part_at : (items : List Item) (place to : ℕ) (item : Item) → place < to → drop place items ≡ item ∷ drop (place + 1) items
    → part items place to ≡ item ∷ part items (place + 1) to
part_at items place to item less at =
    let one : to - place ≡ suc (to - (place + 1)) = omega arith in
    ap (λ n. take n (drop place items)) one ∙ ap (take (suc (to - (place + 1)))) at

pub part_end : (items : List Item) (place to : ℕ) → to ≤ place → part items place to ≡ []
part_end items place to le =
    let none : to - place ≡ 0 = omega arith in
    ap (λ n. take n (drop place items)) none

drop_none : (m : ℕ) → ◌≡◌ {A = List Item} (drop m []) []
drop_none zero = refl
drop_none (suc m) = refl

drop_drop : (xs : List Item) (n m : ℕ) → drop m (drop n xs) ≡ drop (n + m) xs
drop_drop xs zero m = let same : 0 + m ≡ m = omega arith in ap (λ n. drop n xs) (sym same)
drop_drop [] (suc n) m = let same : suc n + m ≡ suc (n + m) = omega arith in drop_none m ∙ ap (λ k. drop k []) (sym same)
drop_drop (x ∷ xs) (suc n) m =
    let same : suc n + m ≡ suc (n + m) = omega arith in drop_drop xs n m ∙ ap (λ k. drop k (x ∷ xs)) (sym same)

pub part_rest : (items : List Item) (from to : ℕ) → from ≤ to → part items from to ++ drop to items ≡ drop from items
part_rest items from to le =
    let there : from + (to - from) ≡ to = omega arith in
    ap (λ n. part items from to ++ drop n items) (sym there)
    ∙ ap (λ rest. part items from to ++ rest) (sym (drop_drop items from (to - from)))
    ∙ take-append-drop (to - from) (drop from items)

-- ---- changes behind others

abbrev pub followed : Result (List Change) ℕ → Result (List Change) ℕ → Result (List Change) ℕ
followed (Ok done) rest = behind_changes done rest
followed (Err missing) rest = Err missing

followed_with : (i : Item) (definitions : Result (List RelationDef) ℕ) (first rest : Result (List Change) ℕ)
    → with_changes i definitions (followed first rest) ≡ followed (with_changes i definitions first) rest
followed_with i (Err missing) first rest = refl
followed_with i (Ok definitions) (Ok done) (Ok changes) = ap Ok (sym (append_assoc (changes_of i definitions) done changes))
followed_with i (Ok definitions) (Ok done) (Err missing) = refl
followed_with i (Ok definitions) (Err missing) rest = refl

followed_none : (rest : Result (List Change) ℕ) → followed (Ok []) rest ≡ rest
followed_none (Ok changes) = refl
followed_none (Err missing) = refl

known_after : (i : Item) (relations : RelationCache) → found_behind i (known_to relations) ≡ known_to (cached i relations)
known_after (Relation def) relations = known_behind relations def
known_after (Insert oid row) relations = refl
known_after (Update oid prior row) relations = refl
known_after (Delete oid kind row) relations = refl
known_after (Truncate options oids) relations = refl

pub described_append : (relations : RelationCache) (xs ys : List Item)
    → described_from (known_to relations) (xs ++ ys)
    ≡ followed (described_from (known_to relations) xs) (described_from (known_to (all_cached relations xs)) ys)
described_append relations [] ys = sym (followed_none (described_from (known_to relations) ys))
described_append relations (i ∷ xs) ys =
    let defs = definitions_of (known_to relations) (named i) in
    ap (λ (find : ℕ → Option RelationDef). with_changes i defs (described_from find (xs ++ ys))) (known_after i relations)
    ∙ ap (with_changes i defs) (described_append (cached i relations) xs ys)
    ∙ followed_with i defs (described_from (known_to (cached i relations)) xs) (described_from (known_to (all_cached
    (cached i relations) xs)) ys)
    ∙ ap (λ (find : ℕ → Option RelationDef). followed (with_changes i defs (described_from find xs))
    (described_from (known_to (all_cached (cached i relations) xs)) ys)) (sym (known_after i relations))

pub cached_append : (relations : RelationCache) (xs ys : List Item)
    → all_cached relations (xs ++ ys) ≡ all_cached (all_cached relations xs) ys
cached_append relations [] ys = refl
cached_append relations (i ∷ xs) ys = cached_append (cached i relations) xs ys

-- what is described, by its changes
pub is_described : (r : Result (List Change) ℕ) (changes : List Change) → r ≡ Ok changes → r ≡ Ok (given_changes r)
is_described (Ok done) changes h = refl
is_described (Err missing) changes h = absurd (cc)

record Splits (first rest : Result (List Change) ℕ) (changes : List Change) : Type 0 where
  front : first ≡ Ok (given_changes first)
  back : rest ≡ Ok (given_changes rest)
  whole : changes ≡ given_changes first ++ given_changes rest

same_ok : (xs ys : List Change) → ◌≡◌ {A = Result (List Change) ℕ} (Ok xs) (Ok ys) → xs ≡ ys
same_ok xs ys h = cc

followed_splits : (first rest : Result (List Change) ℕ) (changes : List Change) → followed first rest ≡ Ok changes
    → Splits first rest changes
followed_splits (Ok done) (Ok more) changes h =
    record { front = refl; back = refl; whole = sym (same_ok (done ++ more) changes h) }
followed_splits (Ok done) (Err missing) changes h = absurd (cc)
followed_splits (Err missing) rest changes h = absurd (cc)

module _ (relations : RelationCache) (xs ys : List Item) (are : IsDescribed relations (xs ++ ys)) where
  splits : Splits (described_from (known_to relations) xs) (described_from (known_to (all_cached relations xs)) ys)
      (changes_in relations (xs ++ ys))
  splits = followed_splits (described_from (known_to relations) xs) (described_from (known_to (all_cached relations xs)) ys)
      (changes_in relations (xs ++ ys)) (sym (described_append relations xs ys) ∙ are)

  pub described_front : IsDescribed relations xs
  described_front = splits.front

  pub described_back : IsDescribed (all_cached relations xs) ys
  described_back = splits.back

  pub changes_append : changes_in relations (xs ++ ys) ≡ changes_in relations xs ++ changes_in (all_cached relations xs) ys
  changes_append = splits.whole

-- once no item of the part is left, all are described
pub described_part : (done : List Change) (relations : RelationCache) (items : List Item) (place to : ℕ) (whole : Result (List Change) ℕ)
    → to ≤ place → behind_changes done (described_from (known_to relations) (part items place to)) ≡ behind_changes [] whole → whole
    ≡ Ok done
described_part done relations items place to (Ok changes) le h =
    let ends : ◌≡◌ {A = Result (List Change) ℕ} (Ok (done ++ [])) (Ok changes) =
    ap (λ rest. behind_changes done (described_from (known_to relations) rest)) (sym (part_end items place to le)) ∙ h in
    sym ends ∙ ap Ok (append-nil done)
described_part done relations items place to (Err missing) le h =
    let ends : ◌≡◌ {A = Result (List Change) ℕ} (Ok (done ++ [])) (Err missing) =
    ap (λ rest. behind_changes done (described_from (known_to relations) rest)) (sym (part_end items place to le)) ∙ h in
    absurd (cc)

-- ---- part after part

none_before : (rest : Result (List Change) ℕ) → rest ≡ behind_changes [] rest
none_before (Ok changes) = refl
none_before (Err missing) = refl

behind_both : (done more : List Change) (rest : Result (List Change) ℕ) → behind_changes done (behind_changes more rest)
    ≡ behind_changes (done ++ more) rest
behind_both done more (Ok changes) = ap Ok (sym (append_assoc done more changes))
behind_both done more (Err missing) = refl

-- the items before an index were described and cached
pub record Comes (before : RelationCache) (items : List Item) (relations : RelationCache) (from : ℕ) : Type 0 where
  pub changes : List Change
  pub described : described_from (known_to before) items ≡ behind_changes changes (described_from (known_to relations) (drop from items))
  pub cached : all_cached relations (drop from items) ≡ all_cached before items

pub comes_first : (before : RelationCache) (items : List Item) → Comes before items before 0
comes_first before items = record { changes = []; described = none_before (described_from (known_to before) items); cached = refl }

-- those of a part too
pub cached_on : (before relations relations' : RelationCache) (items : List Item) (from to : ℕ) → from ≤ to
    → relations' ≡ all_cached relations (part items from to) → all_cached relations (drop from items) ≡ all_cached before items
    → all_cached relations' (drop to items) ≡ all_cached before items
cached_on before relations relations' items from to le is was =
    ap (λ (r : RelationCache). all_cached r (drop to items)) is ∙ sym (cached_append relations (part items from to) (drop to items))
    ∙ ap (all_cached relations) (part_rest items from to le) ∙ was

module _ (before : RelationCache) (items : List Item) (relations : RelationCache) (from : ℕ) (was : Comes before items relations from)
    (to : ℕ) (le : from ≤ to) where
  of_part : described_from (known_to before) items
      ≡ behind_changes was.changes (followed (described_from (known_to relations) (part items from to))
      (described_from (known_to (all_cached relations (part items from to))) (drop to items)))
  of_part =
      was.described
      ∙ ap (λ them. behind_changes was.changes (described_from (known_to relations) them)) (sym (part_rest items from to le))
      ∙ ap (behind_changes was.changes) (described_append relations (part items from to) (drop to items))

  pub comes_on : (relations' : RelationCache) (changes : List Change)
      → described_from (known_to relations) (part items from to) ≡ Ok changes
      → relations' ≡ all_cached relations (part items from to) → Comes before items relations' to
  comes_on relations' changes described is = record {
    changes = was.changes ++ changes;
    described =
        of_part
        ∙ ap (λ first. behind_changes was.changes (followed first
        (described_from (known_to (all_cached relations (part items from to))) (drop to items)))) described
        ∙ behind_both was.changes changes (described_from (known_to (all_cached relations (part items from to))) (drop to items))
        ∙ ap (λ (r : RelationCache). behind_changes (was.changes ++ changes) (described_from (known_to r) (drop to items))) (sym is);
    cached = cached_on before relations relations' items from to le is was.cached;
  }

  pub comes_lacks : (f : Fault) → LacksDefinition (described_from (known_to relations) (part items from to)) f
      → LacksDefinition (described_from (known_to before) items) f
  comes_lacks f lacks = (
    lacks.0,
    lacks.1,
    of_part ∙ ap (λ first. behind_changes was.changes (followed first
        (described_from (known_to (all_cached relations (part items from to))) (drop to items)))) lacks.2,
  )

-- no item is left
pub cached_all : (before relations : RelationCache) (items : List Item) (n : ℕ) → length items ≤ n
    → all_cached relations (drop n items) ≡ all_cached before items → relations ≡ all_cached before items
cached_all before relations items n le was = ap (all_cached relations) (sym (drop_all n items le)) ∙ was

pub comes_whole : (before : RelationCache) (items : List Item) (relations : RelationCache) (n : ℕ) → length items ≤ n
    → Comes before items relations n → IsDescribed before items
comes_whole before items relations n le was =
    is_described (described_from (known_to before) items) (was.changes ++ [])
    (was.described ∙ ap (λ them. behind_changes was.changes (described_from (known_to relations) them)) (drop_all n items le))

-- ---- spools whose parts are loaded

-- they hold what they held, and don't become honest
pub record AreKept {P : Type 0} (held : P → HeldMap) (most : P → ℕ) (is_honest : P → Bool) (old new : P) : Type 0 where
  pub held_is : held new ≡ held old
  pub most_is : most new ≡ most old
  pub honest : IsTrue (is_honest new) → IsTrue (is_honest old)

module _ {P : Type 0} (held : P → HeldMap) (most : P → ℕ) (is_honest : P → Bool) where
  pub kept_first : (p : P) → AreKept held most is_honest p p
  kept_first p = record { held_is = refl; most_is = refl; honest = λ h. h }

  pub kept_on : (p q r : P) → AreKept held most is_honest p q → held r ≡ held q → most r ≡ most q
      → (IsTrue (is_honest r) → IsTrue (is_honest q)) → AreKept held most is_honest p r
  kept_on p q r was held_is most_is honest =
      record { held_is = held_is ∙ was.held_is; most_is = most_is ∙ was.most_is; honest = λ h. was.honest (honest h) }

pub of_memory : (may_fail : Type 0) (f : Fault) → f ≡ fault.Memory → IsOfSpools may_fail f
of_memory may_fail f memory = rw memory tt

-- ---- behind a part

module _ (relations relations' : RelationCache) (items : List Item) (from to : ℕ) (le : from ≤ to)
    (are : IsDescribed relations (drop from items)) (is : relations' ≡ all_cached relations (part items from to)) where
  pub described_on : IsDescribed relations' (drop to items)
  described_on = subst (λ (r : RelationCache). IsDescribed r (drop to items)) (sym is)
      (described_back relations (part items from to) (drop to items)
      (subst (IsDescribed relations) (sym (part_rest items from to le)) are))

  pub goes_on : (next : ℕ) → to ≤ next
      → changes_in (all_cached relations (part items from to)) (drop to items)
      ≡ changes_in relations' (part items to next) ++ changes_in (all_cached relations' (part items to next)) (drop next items)
  goes_on next more =
      ap (λ (r : RelationCache). changes_in r (drop to items)) (sym is)
      ∙ ap (changes_in relations') (sym (part_rest items to next more))
      ∙ changes_append relations' (part items to next) (drop next items)
      (subst (IsDescribed relations') (sym (part_rest items to next more)) described_on)
