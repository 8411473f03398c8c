-- What is left of an item without a table.
use Rattle.std.proofs.Common.{◌≡◌, ℕ, List, [], ◌∷◌, true, false, not, cond, map, eqb, ◌||◌}
use Rattle.std.proofs.Common.{flat_map, filter, ◌==◌, refl, sym, ap}
use Rattle.pglogical.specs.Named.{named}
use Rattle.pglogical.specs.declared.message.RelationDef.{RelationDef}
use Rattle.pglogical.specs.declared.message.Item.{Item}
use Rattle.pglogical.specs.declared.message.Item.TheVariants.{Relation, Insert, Update, Delete}
use Rattle.pglogical.specs.declared.message.Item.TheVariants.{Truncate}
use Rattle.pgapply.specs.declared.op.Op.{Op}
use Rattle.pgapply.specs.Apply.{Change}
use Rattle.pgsub_core.specs.Server.Work.{changes_of, IsChange, is_among}
use Rattle.pgsub_core.specs.Server.Described.{found_behind, relation_of}
use Rattle.pgadding.specs.LeftOut.{other_oids, other_definitions, truncation, item_without}

abbrev pub other_changes : ℕ → List Change → List Change
other_changes oid changes = filter (λ (c : Change). not (c.definition.oid == oid)) changes

abbrev pub items_without : ℕ → List Item → List Item
items_without oid items = flat_map (item_without oid) items

abbrev changes_by : Op → List RelationDef → List Change
changes_by op definitions = map (λ (def : RelationDef). record { definition = def; op = op }) definitions

other-by : (oid : ℕ) (op : Op) (definitions : List RelationDef)
    → other_changes oid (changes_by op definitions) ≡ changes_by op (other_definitions oid definitions)
other-by oid op [] = refl
other-by oid op (def ∷ definitions) =
    let rest = other-by oid op definitions in
    let first : Change = record { definition = def; op = op } in
    elim (eqb def.oid oid) as
    (λ b. cond (not b) (first ∷ other_changes oid (changes_by op definitions)) (other_changes oid (changes_by op definitions))
    ≡ changes_by op (cond (not b) (def ∷ other_definitions oid definitions) (other_definitions oid definitions))) [
      | true ↦ rest
      | false ↦ ap (λ cs. first ∷ cs) rest
    ]

pub other-changes_of : (oid : ℕ) (i : Item) (definitions : List RelationDef)
    → other_changes oid (changes_of i definitions) ≡ changes_of i (other_definitions oid definitions)
other-changes_of oid (Relation def) definitions = refl
other-changes_of oid (Insert o row) definitions = other-by oid _ definitions
other-changes_of oid (Update o prior row) definitions = other-by oid _ definitions
other-changes_of oid (Delete o kind row) definitions = other-by oid _ definitions
other-changes_of oid (Truncate options oids) definitions = other-by oid _ definitions

pub other-oids : (oid : ℕ) (definitions : List RelationDef)
    → map (λ (def : RelationDef). def.oid) (other_definitions oid definitions)
    ≡ other_oids oid (map (λ (def : RelationDef). def.oid) definitions)
other-oids oid [] = refl
other-oids oid (def ∷ definitions) =
    let rest = other-oids oid definitions in
    elim (eqb def.oid oid) as
    (λ b. map (λ (d : RelationDef). d.oid) (cond (not b) (def ∷ other_definitions oid definitions) (other_definitions oid definitions))
    ≡ cond (not b) (def.oid ∷ other_oids oid (map (λ (d : RelationDef). d.oid) definitions))
    (other_oids oid (map (λ (d : RelationDef). d.oid) definitions))) [
      | true ↦ rest
      | false ↦ ap (λ os. def.oid ∷ os) rest
    ]

others_all : (oid : ℕ) (oids : List ℕ) → is_among oids oid ≡ false → other_oids oid oids ≡ oids
others_all oid [] isnt = refl
others_all oid (o ∷ oids) isnt =
    elim (eqb o oid) as (λ b. (b || is_among oids oid) ≡ false → cond (not b) (o ∷ other_oids oid oids) (other_oids oid oids) ≡ o ∷ oids) [
      | true ↦ λ is. absurd (cc)
      | false ↦ λ isnt'. ap (λ os. o ∷ os) (others_all oid oids isnt')
    ] isnt

-- An item that is left does to the other tables what the whole one does; where nothing is left, it
-- names no other.
abbrev pub IsLeft : List ℕ → Item → List Item → Type 0
IsLeft others i [] = IsChange i × (others ≡ [])
IsLeft others i (kept ∷ []) =
    (named kept ≡ others)
    × ((definitions : List RelationDef) → changes_of kept definitions ≡ changes_of i definitions)
    × (IsChange i → IsChange kept)
    × (found_behind kept ≡ found_behind i)
    × ((earlier : List RelationDef) → relation_of kept earlier ≡ relation_of i earlier)
IsLeft others i (kept ∷ (another ∷ more)) = ⊥

left_truncation : (options : ℕ) (oids others : List ℕ) → IsLeft others (Truncate options oids) (truncation options others)
left_truncation options oids [] = (tt, refl)
left_truncation options oids (o ∷ others) = (refl, (λ definitions. refl), (λ is. is), refl, (λ earlier. refl))

pub left : (oid : ℕ) (i : Item) → IsLeft (other_oids oid (named i)) i (item_without oid i)
left oid (Relation def) = (refl, (λ definitions. refl), (λ is. is), refl, (λ earlier. refl))
left oid (Insert o row) =
    elim (eqb o oid) as (λ b. IsLeft (cond (not b) (o ∷ []) []) (Insert o row) (cond b [] (Insert o row ∷ []))) [
      | true ↦ (tt, refl)
      | false ↦ (refl, (λ definitions. refl), (λ is. is), refl, (λ earlier. refl))
    ]
left oid (Update o prior row) =
    elim (eqb o oid) as (λ b. IsLeft (cond (not b) (o ∷ []) []) (Update o prior row) (cond b [] (Update o prior row ∷ []))) [
      | true ↦ (tt, refl)
      | false ↦ (refl, (λ definitions. refl), (λ is. is), refl, (λ earlier. refl))
    ]
left oid (Delete o kind row) =
    elim (eqb o oid) as (λ b. IsLeft (cond (not b) (o ∷ []) []) (Delete o kind row) (cond b [] (Delete o kind row ∷ []))) [
      | true ↦ (tt, refl)
      | false ↦ (refl, (λ definitions. refl), (λ is. is), refl, (λ earlier. refl))
    ]
left oid (Truncate options oids) =
    elim (is_among oids oid) as
    (λ b. is_among oids oid ≡ b
    → IsLeft (other_oids oid oids) (Truncate options oids)
    (cond b (truncation options (other_oids oid oids)) (Truncate options oids ∷ []))) [
      | true ↦ λ is. left_truncation options oids (other_oids oid oids)
      | false ↦ λ isnt. (sym (others_all oid oids isnt), (λ definitions. refl), (λ is. is), refl, (λ earlier. refl))
    ] refl

pub no_changes : (i : Item) → IsChange i → changes_of i [] ≡ []
no_changes (Relation def) is = refl
no_changes (Insert o row) is = refl
no_changes (Update o prior row) is = refl
no_changes (Delete o kind row) is = refl
no_changes (Truncate options oids) is = refl
