-- What a commit's items may be the work of.
use Rattle.std.proofs.Common.{◌≡◌, ℕ, List, [], ◌∷◌, ◌++◌}
use Rattle.std.proofs.Common.{true, false, cond, eqb, map, Option, Some}
use Rattle.std.proofs.Common.{None, Result, Ok, Err, refl, ap, subst, ◌∙◌, arith}
use Rattle.std.proofs.lemmas.Bool.Decides.{nat_tests}
use Rattle.pglogical.specs.Named.{named}
use Rattle.pglogical.specs.declared.message.RelationDef.{RelationDef}
use Rattle.pglogical.specs.declared.message.Item.{Item}
use Rattle.pglogical.specs.declared.message.Item.TheVariants.{Relation, Insert, Update, Delete}
use Rattle.pglogical.specs.declared.message.Item.TheVariants.{Truncate}
use Rattle.pgapply.specs.Apply.{Change}
use Rattle.pgsub_core.specs.Server.Work.{Work, Nothing, Changed}
use Rattle.pgsub_core.specs.Server.Work.{changes_of, surviving_changes, IsWork}
use Rattle.pgsub_core.specs.Server.Work.{xids_of}
use Rattle.pgsub_core.specs.Server.Described.{last_of, with_definition}
use Rattle.pgsub_core.specs.Server.Described.{definitions_of, found_behind}
use Rattle.pgsub_core.specs.Server.Described.{with_changes, described_from, described}

-- what is found under an OID has it
abbrev pub Finds : (ℕ → Option RelationDef) → Type 0
Finds find = (oid : ℕ) (def : RelationDef) → find oid ≡ Some def → def.oid ≡ oid

found_first : (find : ℕ → Option RelationDef) (first : RelationDef) → Finds find
    → Finds (λ oid. cond (eqb first.oid oid) (Some first) (find oid))
found_first find first finds oid def =
    elim (eqb first.oid oid) as (λ b. eqb first.oid oid ≡ b → cond b (Some first) (find oid) ≡ Some def → def.oid ≡ oid) [
      | true ↦ λ is e. let same : first ≡ def = cc in let at : first.oid ≡ oid = grind (arith, nat_tests) in
          subst (λ (d : RelationDef). d.oid ≡ oid) same at
      | false ↦ λ is e. finds oid def e
    ] refl

pub finds_last : (earlier : List RelationDef) → Finds (λ oid. last_of oid earlier)
finds_last [] oid def e = absurd (cc)
finds_last (first ∷ earlier) oid def e = found_first (λ o. last_of o earlier) first (finds_last earlier) oid def e

pub finds_behind : (i : Item) (find : ℕ → Option RelationDef) → Finds find → Finds (found_behind i find)
finds_behind (Relation first) find finds = found_first find first finds
finds_behind (Insert oid row) find finds = finds
finds_behind (Update oid prior row) find finds = finds
finds_behind (Delete oid kind row) find finds = finds
finds_behind (Truncate options oids) find finds = finds

one_defined : (oid : ℕ) (oids : List ℕ) (there : Option RelationDef) (rest : Result (List RelationDef) ℕ) (ds : List RelationDef)
    → ((def : RelationDef) → there ≡ Some def → def.oid ≡ oid)
    → ((ds : List RelationDef) → rest ≡ Ok ds → map (λ (def : RelationDef). def.oid) ds ≡ oids)
    → with_definition oid there rest ≡ Ok ds → map (λ (def : RelationDef). def.oid) ds ≡ oid ∷ oids
one_defined oid oids None rest ds finds others e = absurd (cc)
one_defined oid oids (Some def) (Err missing) ds finds others e = absurd (cc)
one_defined oid oids (Some def) (Ok more) ds finds others e =
    let same : def ∷ more ≡ ds = cc in
    subst (λ (l : List RelationDef). map (λ (def : RelationDef). def.oid) l ≡ oid ∷ oids) same
    (ap (λ o. o ∷ map (λ (def : RelationDef). def.oid) more) (finds def refl) ∙ ap (λ os. oid ∷ os) (others more refl))

-- the definitions have the OIDs that are named
pub defined_oids : (find : ℕ → Option RelationDef) → Finds find → (oids : List ℕ) (ds : List RelationDef) → definitions_of find oids ≡ Ok ds
    → map (λ (def : RelationDef). def.oid) ds ≡ oids
defined_oids find finds [] ds e =
    let same : [] ≡ ds = cc in subst (λ (l : List RelationDef). map (λ (def : RelationDef). def.oid) l ≡ []) same refl
defined_oids find finds (oid ∷ oids) ds e =
    one_defined oid oids (find oid) (definitions_of find oids) ds (finds oid) (λ more is. defined_oids find finds oids more is) e

-- a work without subtransactions that makes these changes
pub record IsWorkOf (changes : List Change) : Type 0 where
  pub work : Work
  pub is : IsWork work
  pub makes : surviving_changes work ≡ changes
  pub plain : xids_of work ≡ []

-- with one item in front
in_front : (i : Item) (ds : List RelationDef) (changes : List Change) → map (λ (def : RelationDef). def.oid) ds ≡ named i
    → IsWorkOf changes → IsWorkOf (changes_of i ds ++ changes)
in_front (Relation def) ds changes same w = w
in_front (Insert oid row) ds changes same w = record {
  work = Changed (Insert oid row) ds w.work;
  is = (tt, same, w.is);
  makes = ap (λ cs. changes_of (Insert oid row) ds ++ cs) w.makes;
  plain = w.plain;
}
in_front (Update oid prior row) ds changes same w = record {
  work = Changed (Update oid prior row) ds w.work;
  is = (tt, same, w.is);
  makes = ap (λ cs. changes_of (Update oid prior row) ds ++ cs) w.makes;
  plain = w.plain;
}
in_front (Delete oid kind row) ds changes same w = record {
  work = Changed (Delete oid kind row) ds w.work;
  is = (tt, same, w.is);
  makes = ap (λ cs. changes_of (Delete oid kind row) ds ++ cs) w.makes;
  plain = w.plain;
}
in_front (Truncate options oids) ds changes same w = record {
  work = Changed (Truncate options oids) ds w.work;
  is = (tt, same, w.is);
  makes = ap (λ cs. changes_of (Truncate options oids) ds ++ cs) w.makes;
  plain = w.plain;
}

both_parts : (i : Item) (definitions : Result (List RelationDef) ℕ) (rest : Result (List Change) ℕ) (changes : List Change)
    → with_changes i definitions rest ≡ Ok changes
    → ((ds : List RelationDef) → definitions ≡ Ok ds → map (λ (def : RelationDef). def.oid) ds ≡ named i)
    → ((cs : List Change) → rest ≡ Ok cs → IsWorkOf cs)
    → IsWorkOf changes
both_parts i (Err missing) rest changes e oids works = absurd (cc)
both_parts i (Ok ds) (Err missing) changes e oids works = absurd (cc)
both_parts i (Ok ds) (Ok cs) changes e oids works =
    let same : changes_of i ds ++ cs ≡ changes = cc in subst IsWorkOf same (in_front i ds cs (oids ds refl) (works cs refl))

work_from : (find : ℕ → Option RelationDef) → Finds find → (items : List Item) (changes : List Change)
    → described_from find items ≡ Ok changes → IsWorkOf changes
work_from find finds [] changes e =
    let same : [] ≡ changes = cc in subst IsWorkOf same (record { work = Nothing; is = tt; makes = refl; plain = refl })
work_from find finds (i ∷ items) changes e =
    both_parts i (definitions_of find (named i)) (described_from (found_behind i find) items) changes e
    (λ ds is. defined_oids find finds (named i) ds is)
    (λ cs is. work_from (found_behind i find) (finds_behind i find finds) items cs is)

-- items that are described are some work
pub work_of : (earlier : List RelationDef) (items : List Item) (changes : List Change) → described earlier items ≡ Ok changes
    → IsWorkOf changes
work_of earlier items changes e = work_from (λ oid. last_of oid earlier) (finds_last earlier) items changes e
