-- Items that are described one after the other.
use Rattle.std.proofs.Common.{◌≡◌, ◌≢◌, ℕ, List, [], ◌∷◌, ◌++◌}
use Rattle.std.proofs.Common.{Bool, true, false, cond, ◌||◌, eqb, map}
use Rattle.std.proofs.Common.{Option, Some, None, Result, Ok, Err, refl, sym, ap, subst, ◌∙◌}
use Rattle.std.proofs.Common.{append_assoc, append-nil, arith}
use Rattle.std.proofs.lemmas.Bool.Decides.{nat_tests}
use Rattle.std.specs.Prelude.{is_some}
use Rattle.pglogical.specs.Named.{named}
use Rattle.pglogical.specs.declared.message.RelationDef.{RelationDef}
use Rattle.pglogical.specs.declared.message.Item.{Item}
use Rattle.pglogical.specs.declared.message.Item.TheVariants.{Relation, Insert, Update, Delete}
use Rattle.pglogical.specs.declared.message.Item.TheVariants.{Truncate}
use Rattle.pgapply.specs.Apply.{Change}
use Rattle.pgsub_core.specs.Server.Work.{changes_of}
use Rattle.pgsub_core.specs.Server.Described.{last_of, relation_of}
use Rattle.pgsub_core.specs.Server.Described.{relations_after, with_definition}
use Rattle.pgsub_core.specs.Server.Described.{definitions_of, found_behind, with_changes}
use Rattle.pgsub_core.specs.Server.Described.{described_from, described}
use Rattle.pgwatch.specs.Known.{OidSet, none_known, is_known, with_known, is_known-none}
use Rattle.pgwatch.specs.Known.{is_known-with}
use Rattle.pgwatch.specs.Hearing.{first_unknown, names_any, first_missing}
use Rattle.pgwatch.specs.declared.facts.Missing.{Missing}

abbrev pub any : {A : Type 0} → List A → Bool
any [] = false
any (x ∷ xs) = true

pub any-append : {A : Type 0} (xs ys : List A) → any (xs ++ ys) ≡ (any xs || any ys)
any-append [] ys = refl
any-append (x ∷ xs) ys = refl

pub any-map : {A B : Type 0} (f : A → B) (xs : List A) → any (map f xs) ≡ any xs
any-map f [] = refl
any-map f (x ∷ xs) = refl

pub any-none : {A : Type 0} (xs : List A) → (xs ≢ []) → any xs ≡ true
any-none [] some = absurd (some refl)
any-none (x ∷ xs) some = refl

pub none-any : {A : Type 0} (xs : List A) → any xs ≡ true → xs ≢ []
none-any [] holds = absurd (cc)
none-any (x ∷ xs) holds = λ e. cc

-- ---- one item behind others

abbrev pub both : Result (List Change) ℕ → Result (List Change) ℕ → Result (List Change) ℕ
both (Ok a) (Ok b) = Ok (a ++ b)
both (Ok a) (Err e) = Err e
both (Err e) r = Err e

abbrev pub found_after : (ℕ → Option RelationDef) → List Item → ℕ → Option RelationDef
found_after find [] = find
found_after find (i ∷ items) = found_after (found_behind i find) items

with_both : (i : Item) (r : Result (List RelationDef) ℕ) (a b : Result (List Change) ℕ)
    → with_changes i r (both a b) ≡ both (with_changes i r a) b
with_both i (Err e) a b = refl
with_both i (Ok ds) (Err e) b = refl
with_both i (Ok ds) (Ok a) (Err e) = refl
with_both i (Ok ds) (Ok a) (Ok b) = ap Ok (sym (append_assoc (changes_of i ds) a b))

nothing_first : (r : Result (List Change) ℕ) → r ≡ both (Ok []) r
nothing_first (Ok a) = refl
nothing_first (Err e) = refl

from-append : (find : ℕ → Option RelationDef) (xs ys : List Item)
    → described_from find (xs ++ ys) ≡ both (described_from find xs) (described_from (found_after find xs) ys)
from-append find [] ys = nothing_first (described_from find ys)
from-append find (x ∷ xs) ys =
    ap (with_changes x (definitions_of find (named x))) (from-append (found_behind x find) xs ys)
    ∙ with_both x (definitions_of find (named x)) (described_from (found_behind x find) xs)
    (described_from (found_after (found_behind x find) xs) ys)

abbrev pub last_in : List RelationDef → ℕ → Option RelationDef
last_in earlier oid = last_of oid earlier

after-last : (xs : List Item) (earlier : List RelationDef) → found_after (λ oid. last_of oid earlier) xs
    ≡ (λ oid. last_of oid (relations_after earlier xs))
after-last [] earlier = refl
after-last (Relation def ∷ xs) earlier = after-last xs (def ∷ earlier)
after-last (Insert oid row ∷ xs) earlier = after-last xs earlier
after-last (Update oid prior row ∷ xs) earlier = after-last xs earlier
after-last (Delete oid kind row ∷ xs) earlier = after-last xs earlier
after-last (Truncate options oids ∷ xs) earlier = after-last xs earlier

pub described-push : (earlier : List RelationDef) (items : List Item) (i : Item) → described earlier (items ++ i ∷ [])
    ≡ both (described earlier items)
    (with_changes i (definitions_of (λ oid. last_of oid (relations_after earlier items)) (named i)) (Ok []))
described-push earlier items i =
    from-append (λ oid. last_of oid earlier) items (i ∷ [])
    ∙ ap (λ find. both (described earlier items) (described_from find (i ∷ []))) (after-last items earlier)

pub relations-push : (earlier : List RelationDef) (items : List Item) (i : Item)
    → relations_after earlier (items ++ i ∷ []) ≡ relation_of i (relations_after earlier items)
relations-push earlier [] i = refl
relations-push earlier (x ∷ items) i = relations-push (relation_of x earlier) items i

-- ---- what is known

-- the OIDs of these definitions are known
abbrev pub Knows : OidSet → List RelationDef → Type 0
Knows known earlier = (oid : ℕ) → is_known oid known ≡ is_some (last_of oid earlier)

pub knows_none : Knows none_known []
knows_none oid = is_known-none oid

some_or : (b : Bool) (def : RelationDef) (r : Option RelationDef) → (b || is_some r) ≡ is_some (cond b (Some def) r)
some_or true def r = refl
some_or false def r = refl

pub knows_more : (known : OidSet) (earlier : List RelationDef) (def : RelationDef) → Knows known earlier
    → Knows (with_known def.oid known) (def ∷ earlier)
knows_more known earlier def knows oid =
    is_known-with oid def.oid known ∙ ap (λ b. eqb def.oid oid || b) (knows oid) ∙ some_or (eqb def.oid oid) def (last_of oid earlier)

same_oid : (b : Bool) (x : OidSet) (known : OidSet) (def : RelationDef) (r : Option RelationDef) → (b ≡ true → is_some r ≡ true)
    → is_some r ≡ is_some (cond b (Some def) r)
same_oid true x known def r holds = holds refl
same_oid false x known def r holds = refl

pub knows_again : (known : OidSet) (earlier : List RelationDef) (def : RelationDef) → Knows known earlier
    → is_known def.oid known ≡ true → Knows known (def ∷ earlier)
knows_again known earlier def knows holds oid =
    knows oid ∙ same_oid (eqb def.oid oid) known known def (last_of oid earlier)
    (λ same. let is : def.oid ≡ oid = grind (arith, nat_tests) in sym (knows oid) ∙ ap (λ o. is_known o known) (sym is) ∙ holds)

-- ---- the relations that a change names

-- the first of them that isn't known is the one without a definition
abbrev pub FirstIs : Option ℕ → Bool → Result (List RelationDef) ℕ → Type 0
FirstIs (Some oid) names r = r ≡ Err oid
FirstIs None names r = (ds : List RelationDef) × (r ≡ Ok ds) × (any ds ≡ names)

defined : (oid : ℕ) (oids : List ℕ) (def : RelationDef) (u : Option ℕ) (r : Result (List RelationDef) ℕ) → FirstIs u (names_any oids) r
    → FirstIs u true (with_definition oid (Some def) r)
defined oid oids def (Some o) r is = ap (with_definition oid (Some def)) is
defined oid oids def None r is = (def ∷ is.0, ap (with_definition oid (Some def)) is.1, refl)

one_more : (known : OidSet) (oid : ℕ) (oids : List ℕ) (rest : Result (List RelationDef) ℕ)
    → FirstIs (first_unknown known oids) (names_any oids) rest → (there : Option RelationDef)
    → is_known oid known ≡ is_some there
    → FirstIs (cond (is_known oid known) (first_unknown known oids) (Some oid)) true (with_definition oid there rest)
one_more known oid oids rest is None there =
    subst (λ b. FirstIs (cond b (first_unknown known oids) (Some oid)) true (Err oid)) (sym there) refl
one_more known oid oids rest is (Some def) holds =
    subst (λ b. FirstIs (cond b (first_unknown known oids) (Some oid)) true (with_definition oid (Some def) rest)) (sym holds)
    (defined oid oids def (first_unknown known oids) rest is)

first_is : (known : OidSet) (earlier : List RelationDef) → Knows known earlier → (oids : List ℕ)
    → FirstIs (first_unknown known oids) (names_any oids) (definitions_of (λ oid. last_of oid earlier) oids)
first_is known earlier knows [] = ([], refl, refl)
first_is known earlier knows (oid ∷ oids) =
    one_more known oid oids (definitions_of (λ oid. last_of oid earlier) oids) (first_is known earlier knows oids) (last_of oid earlier)
    (knows oid)

any-changes : (i : Item) (ds : List RelationDef) → (any ds ≡ any (named i)) → any (changes_of i ds) ≡ any (named i)
any-changes (Relation def) ds same = refl
any-changes (Insert oid row) ds same = any-map _ ds ∙ same
any-changes (Update oid prior row) ds same = any-map _ ds ∙ same
any-changes (Delete oid kind row) ds same = any-map _ ds ∙ same
any-changes (Truncate options oids) ds same = any-map _ ds ∙ same

-- ---- the pair that is under way

-- The items are described, and this says whether there are changes; or this is the first relation
-- that isn't.
abbrev pub IsPair : Option Missing → Bool → Result (List Change) ℕ → Type 0
IsPair (Some missing) changes r = r ≡ Err missing.oid
IsPair None changes r = (cs : List Change) × (r ≡ Ok cs) × (any cs ≡ changes)

names-any : (oids : List ℕ) → names_any oids ≡ any oids
names-any [] = refl
names-any (oid ∷ oids) = refl

push_ok : (at : ℕ) (changes : Bool) (i : Item) (u : Option ℕ) (a : Result (List Change) ℕ) (r : Result (List RelationDef) ℕ)
    → IsPair None changes a → FirstIs u (names_any (named i)) r
    → IsPair (first_missing None at u) (changes || names_any (named i)) (both a (with_changes i r (Ok [])))
push_ok at changes i (Some oid) a r pair first =
    subst (λ (it : Result (List RelationDef) ℕ). both a (with_changes i it (Ok [])) ≡ Err oid) (sym first)
    (subst (λ (it : Result (List Change) ℕ). both it (Err oid) ≡ Err oid) (sym pair.1) refl)
push_ok at changes i None a r pair first =
    let new = pair.0 ++ (changes_of i first.0 ++ []) in (
      new,
      subst (λ (it : Result (List RelationDef) ℕ). both a (with_changes i it (Ok [])) ≡ Ok new) (sym first.1)
          (subst (λ (it : Result (List Change) ℕ). both it (Ok (changes_of i first.0 ++ [])) ≡ Ok new) (sym pair.1) refl),
      any-append pair.0 (changes_of i first.0 ++ [])
          ∙ ap (λ b. b || any (changes_of i first.0 ++ [])) pair.2
          ∙ ap (λ (cs : List Change). changes || any cs) (append-nil (changes_of i first.0))
          ∙ ap (λ b. changes || b)
          (any-changes i first.0 (first.2 ∙ names-any (named i)) ∙ sym (names-any (named i))),
    )

push_pair : (at : ℕ) (missing : Option Missing) (changes : Bool) (i : Item) (u : Option ℕ) (a : Result (List Change) ℕ)
    (r : Result (List RelationDef) ℕ) → IsPair missing changes a → FirstIs u (names_any (named i)) r
    → IsPair (first_missing missing at u) (changes || names_any (named i)) (both a (with_changes i r (Ok [])))
push_pair at None changes i u a r pair first = push_ok at changes i u a r pair first
push_pair at (Some missing) changes i u a r pair first = ap (λ (it : Result (List Change) ℕ). both it (with_changes i r (Ok []))) pair

-- a change that names these relations
pub pair_change : (at : ℕ) (missing : Option Missing) (changes : Bool) (known : OidSet) (earlier : List RelationDef) (items : List Item)
    (i : Item) → Knows known (relations_after earlier items) → IsPair missing changes (described earlier items)
    → IsPair (first_missing missing at (first_unknown known (named i))) (changes || names_any (named i))
    (described earlier (items ++ i ∷ []))
pair_change at missing changes known earlier items i knows pair =
    let rel = relations_after earlier items in
    let u = first_unknown known (named i) in
    subst (IsPair (first_missing missing at u) (changes || names_any (named i))) (sym (described-push earlier items i))
    (push_pair at missing changes i u (described earlier items) (definitions_of (λ oid. last_of oid rel) (named i)) pair
    (first_is known rel knows (named i)))

ok_nothing : (r : Result (List Change) ℕ) → both r (Ok []) ≡ r
ok_nothing (Ok a) = ap Ok (append-nil a)
ok_nothing (Err e) = refl

-- a Relation message
pub pair_relation : (missing : Option Missing) (changes : Bool) (earlier : List RelationDef) (items : List Item) (def : RelationDef)
    → IsPair missing changes (described earlier items) → IsPair missing changes (described earlier (items ++ Relation def ∷ []))
pair_relation missing changes earlier items def pair =
    subst (IsPair missing changes) (sym (described-push earlier items (Relation def) ∙ ok_nothing (described earlier items))) pair
