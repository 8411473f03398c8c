-- Items without a table are described as before.
use Rattle.std.proofs.Common.{◌≡◌, ℕ, List, [], ◌∷◌, ◌++◌, true, false, not, cond, map, eqb, Option}
use Rattle.std.proofs.Common.{Some, None, Result, Ok, Err, refl, sym, ap, subst, ◌∙◌, arith}
use Rattle.std.proofs.Common.{append-nil}
use Rattle.std.proofs.lemmas.Grind.{flat_map-append}
use Rattle.std.proofs.lemmas.Bool.Decides.{nat_tests}
use Rattle.pglogical.specs.Named.{named}
use Rattle.pglogical.specs.declared.message.RelationDef.{RelationDef}
use Rattle.pglogical.specs.declared.message.Item.{Item}
use Rattle.pglogical.specs.declared.message.Item.TheVariants.{Relation, Insert, Update, Delete}
use Rattle.pglogical.specs.declared.message.Item.TheVariants.{Truncate}
use Rattle.pgapply.specs.Apply.{Change}
use Rattle.pgsub_core.specs.Server.Work.{IsChange, changes_of}
use Rattle.pgsub_core.specs.Server.Described.{last_of, relation_of, relations_after}
use Rattle.pgsub_core.specs.Server.Described.{with_definition, definitions_of, found_behind}
use Rattle.pgsub_core.specs.Server.Described.{with_changes, described_from, described}
use Rattle.pgadding.specs.LeftOut.{other_oids, other_definitions, item_without}
use Rattle.pgadding.proofs.LeftItems.{other_changes, items_without, other-changes_of, IsLeft, left}
use Rattle.pgadding.proofs.LeftWork.{others-append, none_left}

-- what is found of an OID has that OID
abbrev pub IsLookup : (ℕ → Option RelationDef) → Type 0
IsLookup find = (o : ℕ) (def : RelationDef) → find o ≡ Some def → def.oid ≡ o

pub lookup_last : (earlier : List RelationDef) → IsLookup (λ o. last_of o earlier)
lookup_last [] o def e = absurd (cc)
lookup_last (first ∷ earlier) o def e =
    elim (eqb first.oid o) as (λ b. eqb first.oid o ≡ b → cond b (Some first) (last_of o earlier) ≡ Some def → def.oid ≡ o) [
      | true ↦ λ same is. let it : first ≡ def = cc in subst (λ (d : RelationDef). d.oid ≡ o) it (grind (arith, nat_tests))
      | false ↦ λ _ is. lookup_last earlier o def is
    ] refl e

lookup_behind : (i : Item) (find : ℕ → Option RelationDef) → IsLookup find → IsLookup (found_behind i find)
lookup_behind (Relation first) find is o def e =
    elim (eqb first.oid o) as (λ b. eqb first.oid o ≡ b → cond b (Some first) (find o) ≡ Some def → def.oid ≡ o) [
      | true ↦ λ same it. let same_def : first ≡ def = cc in subst (λ (d : RelationDef). d.oid ≡ o) same_def (grind (arith, nat_tests))
      | false ↦ λ _ it. is o def it
    ] refl e
lookup_behind (Insert x row) find is o def e = is o def e
lookup_behind (Update x prior row) find is o def e = is o def e
lookup_behind (Delete x kind row) find is o def e = is o def e
lookup_behind (Truncate options oids) find is o def e = is o def e

-- what a list of definitions that is found consists of
pub record Found (first : Option RelationDef) (rest : Result (List RelationDef) ℕ) (definitions : List RelationDef) : Type 0 where
  pub def : RelationDef
  pub more : List RelationDef
  pub is : first ≡ Some def
  pub others : rest ≡ Ok more
  pub all : definitions ≡ def ∷ more

pub found : (o : ℕ) (first : Option RelationDef) (rest : Result (List RelationDef) ℕ) (definitions : List RelationDef)
    → with_definition o first rest ≡ Ok definitions → Found first rest definitions
found o None rest definitions e = absurd (cc)
found o (Some def) (Ok more) definitions e = record { def = def; more = more; is = refl; others = refl; all = cc }
found o (Some def) (Err missing) definitions e = absurd (cc)

pub record Described (i : Item) (definitions : Result (List RelationDef) ℕ) (rest : Result (List Change) ℕ)
    (changes : List Change) : Type 0 where
  pub defs : List RelationDef
  pub more : List Change
  pub is : definitions ≡ Ok defs
  pub others : rest ≡ Ok more
  pub all : changes ≡ changes_of i defs ++ more

pub described_parts : (i : Item) (definitions : Result (List RelationDef) ℕ) (rest : Result (List Change) ℕ) (changes : List Change)
    → with_changes i definitions rest ≡ Ok changes → Described i definitions rest changes
described_parts i (Err missing) rest changes e = absurd (cc)
described_parts i (Ok defs) (Err missing) changes e = absurd (cc)
described_parts i (Ok defs) (Ok more) changes e = record { defs = defs; more = more; is = refl; others = refl; all = cc }

definitions-others : (oid : ℕ) (find : ℕ → Option RelationDef) (oids : List ℕ) (definitions : List RelationDef) → IsLookup find
    → definitions_of find oids ≡ Ok definitions
    → (definitions_of find (other_oids oid oids) ≡ Ok (other_definitions oid definitions))
    × (map (λ (def : RelationDef). def.oid) definitions ≡ oids)
definitions-others oid find [] definitions lookup e =
    let none : definitions ≡ [] = cc in
    subst (λ (ds : List RelationDef). (◌≡◌ {A = Result (List RelationDef) ℕ} (Ok []) (Ok (other_definitions oid ds)))
    × (map (λ (def : RelationDef). def.oid) ds ≡ [])) (sym none) (refl, refl)
definitions-others oid find (o ∷ oids) definitions lookup e =
    let it = found o (find o) (definitions_of find oids) definitions e in
    let rest = definitions-others oid find oids it.more lookup it.others in
    let same : it.def.oid ≡ o = lookup o it.def it.is in
    subst (λ (ds : List RelationDef). (definitions_of find (other_oids oid (o ∷ oids)) ≡ Ok (other_definitions oid ds))
    × (map (λ (def : RelationDef). def.oid) ds ≡ o ∷ oids)) (sym it.all) (
      subst (λ (x : ℕ). definitions_of find (other_oids oid (o ∷ oids))
          ≡ Ok (cond (not (eqb x oid)) (it.def ∷ other_definitions oid it.more) (other_definitions oid it.more))) (sym same)
          (elim (eqb o oid) as (λ b. definitions_of find (cond (not b) (o ∷ other_oids oid oids) (other_oids oid oids))
          ≡ Ok (cond (not b) (it.def ∷ other_definitions oid it.more) (other_definitions oid it.more))) [
            | true ↦ rest.0
            | false ↦ ap (λ f. with_definition o f (definitions_of find (other_oids oid oids))) it.is
                ∙ ap (with_definition o (Some it.def)) rest.0
          ]),
      ap (λ x. x ∷ map (λ (def : RelationDef). def.oid) it.more) same ∙ ap (λ os. o ∷ os) rest.1,
    )

found-change : (i : Item) (find : ℕ → Option RelationDef) → IsChange i → found_behind i find ≡ find
found-change (Relation def) find is = absurd is
found-change (Insert o row) find is = refl
found-change (Update o prior row) find is = refl
found-change (Delete o kind row) find is = refl
found-change (Truncate options oids) find is = refl

-- one item before others that are described
described_with : (oid : ℕ) (find : ℕ → Option RelationDef) (i : Item) (kept rest : List Item) (defs : List RelationDef) (more : List Change)
    → IsLeft (other_oids oid (named i)) i kept
    → definitions_of find (other_oids oid (named i)) ≡ Ok (other_definitions oid defs)
    → map (λ (def : RelationDef). def.oid) defs ≡ named i
    → described_from (found_behind i find) rest ≡ Ok more
    → described_from find (kept ++ rest) ≡ Ok (changes_of i (other_definitions oid defs) ++ more)
described_with oid find i [] rest defs more is found names e =
    ap (λ f. described_from f rest) (sym (found-change i find is.0)) ∙ e
    ∙ ap (λ cs. Ok (cs ++ more)) (sym (none_left oid i defs is.0 names is.1))
described_with oid find i (kept ∷ []) rest defs more is found names e =
    ap (λ ds. with_changes kept ds (described_from (found_behind kept find) rest)) (ap (definitions_of find) is.0 ∙ found)
    ∙ ap (with_changes kept (Ok (other_definitions oid defs))) (ap (λ f. described_from (f find) rest) is.3 ∙ e)
    ∙ ap (λ cs. Ok (cs ++ more)) (is.1 (other_definitions oid defs))
described_with oid find i (kept ∷ (another ∷ others)) rest defs more is found names e = absurd is

described_from-without : (oid : ℕ) (find : ℕ → Option RelationDef) (items : List Item) (changes : List Change) → IsLookup find
    → described_from find items ≡ Ok changes
    → described_from find (items_without oid items) ≡ Ok (other_changes oid changes)
described_from-without oid find [] changes lookup e =
    let none : changes ≡ [] = cc in
    subst (λ (cs : List Change). ◌≡◌ {A = Result (List Change) ℕ} (Ok []) (Ok (other_changes oid cs))) (sym none) refl
described_from-without oid find (i ∷ items) changes lookup e =
    let it = described_parts i (definitions_of find (named i)) (described_from (found_behind i find) items) changes e in
    let rest = described_from-without oid (found_behind i find) items it.more (lookup_behind i find lookup) it.others in
    let names = definitions-others oid find (named i) it.defs lookup it.is in
    described_with oid find i (item_without oid i) (items_without oid items) it.defs (other_changes oid it.more) (left oid i) names.0
    names.1 rest
    ∙ ap Ok (ap (λ cs. cs ++ other_changes oid it.more) (sym (other-changes_of oid i it.defs))
    ∙ sym (others-append oid (changes_of i it.defs) it.more) ∙ ap (other_changes oid) (sym it.all))

pub described-without : (oid : ℕ) (earlier : List RelationDef) (items : List Item) (changes : List Change)
    → described earlier items ≡ Ok changes → described earlier (items_without oid items) ≡ Ok (other_changes oid changes)
described-without oid earlier items changes e = described_from-without oid (λ o. last_of o earlier) items changes (lookup_last earlier) e

relation-change : (i : Item) (earlier : List RelationDef) → IsChange i → relation_of i earlier ≡ earlier
relation-change (Relation def) earlier is = absurd is
relation-change (Insert o row) earlier is = refl
relation-change (Update o prior row) earlier is = refl
relation-change (Delete o kind row) earlier is = refl
relation-change (Truncate options oids) earlier is = refl

relations_with : (others : List ℕ) (i : Item) (kept rest : List Item) (earlier : List RelationDef) → IsLeft others i kept
    → relations_after earlier (kept ++ rest) ≡ relations_after (relation_of i earlier) rest
relations_with others i [] rest earlier is = ap (λ known. relations_after known rest) (sym (relation-change i earlier is.0))
relations_with others i (kept ∷ []) rest earlier is = ap (λ known. relations_after known rest) (is.4 earlier)
relations_with others i (kept ∷ (another ∷ more)) rest earlier is = absurd is

pub relations-without : (oid : ℕ) (items : List Item) (earlier : List RelationDef)
    → relations_after earlier (items_without oid items) ≡ relations_after earlier items
relations-without oid [] earlier = refl
relations-without oid (i ∷ items) earlier =
    relations_with (other_oids oid (named i)) i (item_without oid i) (items_without oid items) earlier (left oid i)
    ∙ relations-without oid items (relation_of i earlier)

pub without-push : (oid : ℕ) (items : List Item) (i : Item)
    → items_without oid (items ++ i ∷ []) ≡ items_without oid items ++ item_without oid i
without-push oid items i =
    flat_map-append (item_without oid) items (i ∷ []) ∙ ap (λ x. items_without oid items ++ x) (append-nil (item_without oid i))

pub relations-append : (xs ys : List Item) (earlier : List RelationDef)
    → relations_after earlier (xs ++ ys) ≡ relations_after (relations_after earlier xs) ys
relations-append [] ys earlier = refl
relations-append (x ∷ xs) ys earlier = relations-append xs ys (relation_of x earlier)
