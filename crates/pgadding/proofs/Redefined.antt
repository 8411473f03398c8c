-- What is described where one table's definition was replaced, and is replaced again before the
-- table is named.
use Rattle.std.proofs.Common.{◌≡◌, ◌⊎◌, inl, inr, ℕ, List, [], ◌∷◌, ◌++◌, Bool, true, false, cond}
use Rattle.std.proofs.Common.{eqb, ◌||◌, Option, Some, None, Ok, refl, sym, ap, subst, ◌∙◌, arith}
use Rattle.std.proofs.lemmas.Bool.Decides.{nat_tests}
use Rattle.pglogical.specs.Named.{named}
use Rattle.pglogical.specs.declared.message.RelationDef.{RelationDef}
use Rattle.pglogical.specs.declared.message.Item.{Item}
use Rattle.pglogical.specs.declared.message.Item.TheVariants.{Relation, Insert, Update, Delete}
use Rattle.pglogical.specs.declared.message.Item.TheVariants.{Truncate}
use Rattle.pgapply.specs.Apply.{Change}
use Rattle.pgsub_core.specs.Server.Work.{is_among}
use Rattle.pgsub_core.specs.Server.Described.{last_of, relation_of, relations_after}
use Rattle.pgsub_core.specs.Server.Described.{with_definition, definitions_of, found_behind}
use Rattle.pgsub_core.specs.Server.Described.{with_changes, described_from, described}
use Rattle.pgadding.specs.Around.{is_relation_of, DefinedBeforeNamed}
use Rattle.pgadding.proofs.LeftDescribed.{found, described_parts}

-- the same definitions are found, of all tables or of all but one
abbrev pub Alike : List RelationDef → List RelationDef → Type 0
Alike earlier other = (o : ℕ) → last_of o earlier ≡ last_of o other

abbrev pub AlikeBut : ℕ → List RelationDef → List RelationDef → Type 0
AlikeBut oid earlier other = (o : ℕ) → eqb o oid ≡ false → last_of o earlier ≡ last_of o other

alike_found : (earlier other : List RelationDef) → Alike earlier other
    → ◌≡◌ {A = ℕ → Option RelationDef} (λ o. last_of o earlier) (λ o. last_of o other)
alike_found earlier other alike = λ i o. alike o i

pub alike_described : (earlier other : List RelationDef) → Alike earlier other → (items : List Item)
    → described earlier items ≡ described other items
alike_described earlier other alike items = ap (λ find. described_from find items) (alike_found earlier other alike)

alike_relation : (earlier other : List RelationDef) → Alike earlier other → (i : Item) → Alike (relation_of i earlier) (relation_of i other)
alike_relation earlier other alike (Relation def) o = ap (λ x. cond (eqb def.oid o) (Some def) x) (alike o)
alike_relation earlier other alike (Insert x row) o = alike o
alike_relation earlier other alike (Update x prior row) o = alike o
alike_relation earlier other alike (Delete x kind row) o = alike o
alike_relation earlier other alike (Truncate options oids) o = alike o

pub alike_after : (earlier other : List RelationDef) → Alike earlier other → (items : List Item)
    → Alike (relations_after earlier items) (relations_after other items)
alike_after earlier other alike [] = alike
alike_after earlier other alike (i ∷ items) =
    alike_after (relation_of i earlier) (relation_of i other) (alike_relation earlier other alike i) items

but_relation : (oid : ℕ) (earlier other : List RelationDef) → AlikeBut oid earlier other → (i : Item)
    → AlikeBut oid (relation_of i earlier) (relation_of i other)
but_relation oid earlier other alike (Relation def) o isnt = ap (λ x. cond (eqb def.oid o) (Some def) x) (alike o isnt)
but_relation oid earlier other alike (Insert x row) o isnt = alike o isnt
but_relation oid earlier other alike (Update x prior row) o isnt = alike o isnt
but_relation oid earlier other alike (Delete x kind row) o isnt = alike o isnt
but_relation oid earlier other alike (Truncate options oids) o isnt = alike o isnt

-- a definition of the table itself makes them alike
redefined : (oid : ℕ) (earlier other : List RelationDef) → AlikeBut oid earlier other → (def : RelationDef) → eqb def.oid oid ≡ true
    → Alike (def ∷ earlier) (def ∷ other)
redefined oid earlier other alike def is o =
    elim (eqb def.oid o) as (λ b. eqb def.oid o ≡ b → cond b (Some def) (last_of o earlier) ≡ cond b (Some def) (last_of o other)) [
      | true ↦ λ same. refl
      | false ↦ λ differ. alike o (grind (arith, nat_tests))
    ] refl

both_not : (a b : Bool) → (a || b) ≡ false → (a ≡ false) × (b ≡ false)
both_not true b e = absurd (cc)
both_not false b e = (refl, e)

-- of tables that are found alike
same_definitions : (oid : ℕ) (earlier other : List RelationDef) → AlikeBut oid earlier other → (oids : List ℕ) → is_among oids oid ≡ false
    → definitions_of (λ o. last_of o earlier) oids ≡ definitions_of (λ o. last_of o other) oids
same_definitions oid earlier other alike [] isnt = refl
same_definitions oid earlier other alike (o ∷ oids) isnt =
    let each = both_not (eqb o oid) (is_among oids oid) isnt in
    ap (λ f. with_definition o f (definitions_of (λ x. last_of x earlier) oids)) (alike o each.0)
    ∙ ap (with_definition o (last_of o other)) (same_definitions oid earlier other alike oids each.1)

found-relation : (i : Item) (earlier : List RelationDef)
    → found_behind i (λ o. last_of o earlier) ≡ (λ (o : ℕ). last_of o (relation_of i earlier))
found-relation (Relation def) earlier = refl
found-relation (Insert x row) earlier = refl
found-relation (Update x prior row) earlier = refl
found-relation (Delete x kind row) earlier = refl
found-relation (Truncate options oids) earlier = refl

described-first : (i : Item) (items : List Item) (earlier : List RelationDef)
    → described earlier (i ∷ items)
    ≡ with_changes i (definitions_of (λ o. last_of o earlier) (named i)) (described (relation_of i earlier) items)
described-first i items earlier =
    ap (λ find. with_changes i (definitions_of (λ o. last_of o earlier) (named i)) (described_from find items)) (found-relation i earlier)

-- an item that defines the table
makes_alike : (oid : ℕ) (earlier other : List RelationDef) → AlikeBut oid earlier other → (i : Item) → is_relation_of oid i ≡ true
    → (definitions_of (λ o. last_of o earlier) (named i) ≡ definitions_of (λ o. last_of o other) (named i))
    × Alike (relation_of i earlier) (relation_of i other)
makes_alike oid earlier other alike (Relation def) is = (refl, redefined oid earlier other alike def is)
makes_alike oid earlier other alike (Insert x row) is = absurd (cc)
makes_alike oid earlier other alike (Update x prior row) is = absurd (cc)
makes_alike oid earlier other alike (Delete x kind row) is = absurd (cc)
makes_alike oid earlier other alike (Truncate options oids) is = absurd (cc)

-- what is described of items that define the table before they name it, and what holds behind them
pub record Same (oid : ℕ) (Later : Type 0) (earlier other : List RelationDef) (items : List Item) : Type 0 where
  pub described_same : described earlier items ≡ described other items
  pub behind : Alike (relations_after earlier items) (relations_after other items)
      ⊎ (Later × AlikeBut oid (relations_after earlier items) (relations_after other items))

pub same : (oid : ℕ) (Later : Type 0) (items : List Item) (earlier other : List RelationDef) → AlikeBut oid earlier other
    → DefinedBeforeNamed oid Later items → Same oid Later earlier other items
same oid Later [] earlier other alike late = record { described_same = refl; behind = inr (late, alike) }
same oid Later (i ∷ items) earlier other alike (inl is) =
    let both = makes_alike oid earlier other alike i is in
    record {
      described_same = described-first i items earlier
          ∙ ap (λ ds. with_changes i ds (described (relation_of i earlier) items)) both.0
          ∙ ap (with_changes i (definitions_of (λ o. last_of o other) (named i)))
          (alike_described (relation_of i earlier) (relation_of i other) both.1 items)
          ∙ sym (described-first i items other);
      behind = inl (alike_after (relation_of i earlier) (relation_of i other) both.1 items);
    }
same oid Later (i ∷ items) earlier other alike (inr late) =
    let rest = same oid Later items (relation_of i earlier) (relation_of i other) (but_relation oid earlier other alike i) late.1 in
    record {
      described_same = described-first i items earlier
          ∙ ap (λ ds. with_changes i ds (described (relation_of i earlier) items))
          (same_definitions oid earlier other alike (named i) late.0)
          ∙ ap (with_changes i (definitions_of (λ o. last_of o other) (named i))) rest.described_same
          ∙ sym (described-first i items other);
      behind = rest.behind;
    }

-- a table that has no definition isn't named
not_named : (oid : ℕ) (earlier : List RelationDef) → last_of oid earlier ≡ None → (oids : List ℕ) (definitions : List RelationDef)
    → definitions_of (λ o. last_of o earlier) oids ≡ Ok definitions → is_among oids oid ≡ false
not_named oid earlier none [] definitions e = refl
not_named oid earlier none (o ∷ oids) definitions e =
    let it = found o (last_of o earlier) (definitions_of (λ x. last_of x earlier) oids) definitions e in
    let rest = not_named oid earlier none oids it.more it.others in
    elim (eqb o oid) as (λ b. eqb o oid ≡ b → (b || is_among oids oid) ≡ false) [
      | true ↦ λ yes. let at : o ≡ oid = grind (arith, nat_tests) in
          absurd (let there : last_of oid earlier ≡ Some it.def = subst (λ x. last_of x earlier ≡ Some it.def) at it.is in cc)
      | false ↦ λ isnt. rest
    ] refl

still_none : (oid : ℕ) (earlier : List RelationDef) (i : Item) → is_relation_of oid i ≡ false → last_of oid earlier ≡ None
    → last_of oid (relation_of i earlier) ≡ None
still_none oid earlier (Relation def) isnt none = ap (λ b. cond b (Some def) (last_of oid earlier)) isnt ∙ none
still_none oid earlier (Insert x row) isnt none = none
still_none oid earlier (Update x prior row) isnt none = none
still_none oid earlier (Delete x kind row) isnt none = none
still_none oid earlier (Truncate options oids) isnt none = none

-- so items that are described define it before they name it
pub defined_first : (oid : ℕ) (Later : Type 0) (items : List Item) (earlier : List RelationDef) (changes : List Change)
    → last_of oid earlier ≡ None → described earlier items ≡ Ok changes
    → (last_of oid (relations_after earlier items) ≡ None → Later) → DefinedBeforeNamed oid Later items
defined_first oid Later [] earlier changes none e later = later none
defined_first oid Later (i ∷ items) earlier changes none e later =
    let it = described_parts i (definitions_of (λ o. last_of o earlier) (named i)) (described (relation_of i earlier) items) changes
    (sym (described-first i items earlier) ∙ e) in
    elim (is_relation_of oid i) as
    (λ b. is_relation_of oid i ≡ b → (b ≡ true) ⊎ ((is_among (named i) oid ≡ false) × DefinedBeforeNamed oid Later items)) [
      | true ↦ λ yes. inl refl
      | false ↦ λ isnt. inr (
        not_named oid earlier none (named i) it.defs it.is,
        defined_first oid Later items (relation_of i earlier) it.more (still_none oid earlier i isnt none) it.others later,
      )
    ] refl

-- what comes behind the items may be weaker
pub defined_split : (oid : ℕ) (Later : Type 0) (items more : List Item) → DefinedBeforeNamed oid (Unit {0}) (items ++ more)
    → (DefinedBeforeNamed oid (Unit {0}) more → Later) → DefinedBeforeNamed oid Later items
defined_split oid Later [] more late then = then late
defined_split oid Later (i ∷ items) more (inl is) then = inl is
defined_split oid Later (i ∷ items) more (inr late) then = inr (late.0, defined_split oid Later items more late.1 then)
