-- Work without a table changes what it changes, without that table.
use Rattle.std.proofs.Common.{◌≡◌, ℕ, List, [], ◌∷◌, ◌++◌, not, map, ◌==◌, refl, sym, ap, ◌∙◌}
use Rattle.std.proofs.lemmas.List.Elements.{filter-append}
use Rattle.pglogical.specs.Named.{named}
use Rattle.pglogical.specs.declared.message.RelationDef.{RelationDef}
use Rattle.pglogical.specs.declared.message.Item.{Item}
use Rattle.pgapply.specs.Apply.{Change}
use Rattle.pgsub_core.specs.Server.Work.{Work, Nothing, Changed, Subtransaction, RolledBack, IsWork}
use Rattle.pgsub_core.specs.Server.Work.{IsChange, changes_of, surviving_changes, xids_of}
use Rattle.pgadding.specs.LeftOut.{other_oids, other_definitions, item_without, with_change}
use Rattle.pgadding.specs.LeftOut.{work_without}
use Rattle.pgadding.proofs.LeftItems.{other_changes, other-changes_of, other-oids, IsLeft, left}
use Rattle.pgadding.proofs.LeftItems.{no_changes}

pub others-append : (oid : ℕ) (xs ys : List Change) → other_changes oid (xs ++ ys) ≡ other_changes oid xs ++ other_changes oid ys
others-append oid xs ys = filter-append (λ (c : Change). not (c.definition.oid == oid)) xs ys

no_definitions : (definitions : List RelationDef) → map (λ (def : RelationDef). def.oid) definitions ≡ [] → definitions ≡ []
no_definitions [] e = refl
no_definitions (def ∷ definitions) e = absurd (cc)

-- of a change that names no other table nothing is left
pub none_left : (oid : ℕ) (i : Item) (definitions : List RelationDef) → IsChange i
    → map (λ (def : RelationDef). def.oid) definitions ≡ named i → other_oids oid (named i) ≡ []
    → changes_of i (other_definitions oid definitions) ≡ []
none_left oid i definitions is names none =
    ap (changes_of i) (no_definitions _ (other-oids oid definitions ∙ ap (other_oids oid) names ∙ none)) ∙ no_changes i is

work_with : (oid : ℕ) (i : Item) (definitions : List RelationDef) (rest : Work) (kept : List Item)
    → IsLeft (other_oids oid (named i)) i kept → IsChange i → map (λ (def : RelationDef). def.oid) definitions ≡ named i → IsWork rest
    → IsWork (with_change kept (other_definitions oid definitions) rest)
work_with oid i definitions rest [] is change names work = work
work_with oid i definitions rest (kept ∷ []) is change names work =
    (is.2 change, other-oids oid definitions ∙ ap (other_oids oid) names ∙ sym is.0, work)
work_with oid i definitions rest (kept ∷ (another ∷ more)) is change names work = absurd is

pub is_work : (oid : ℕ) (w : Work) → IsWork w → IsWork (work_without oid w)
is_work oid Nothing h = tt
is_work oid (Changed i definitions rest) h =
    work_with oid i definitions (work_without oid rest) (item_without oid i) (left oid i) h.0 h.1 (is_work oid rest h.2)
is_work oid (Subtransaction xid inner rest) h = (is_work oid inner h.0, is_work oid rest h.1)
is_work oid (RolledBack xid inside rest) h = is_work oid rest h

surviving_with : (oid : ℕ) (i : Item) (definitions : List RelationDef) (rest : Work) (kept : List Item)
    → IsLeft (other_oids oid (named i)) i kept → IsChange i → map (λ (def : RelationDef). def.oid) definitions ≡ named i
    → surviving_changes (with_change kept (other_definitions oid definitions) rest) ≡ changes_of i (other_definitions oid definitions)
    ++ surviving_changes rest
surviving_with oid i definitions rest [] is change names =
    ap (λ cs. cs ++ surviving_changes rest) (sym (none_left oid i definitions change names is.1))
surviving_with oid i definitions rest (kept ∷ []) is change names =
    ap (λ cs. cs ++ surviving_changes rest) (is.1 (other_definitions oid definitions))
surviving_with oid i definitions rest (kept ∷ (another ∷ more)) is change names = absurd is

pub surviving-without : (oid : ℕ) (w : Work) → IsWork w → surviving_changes (work_without oid w) ≡ other_changes oid (surviving_changes w)
surviving-without oid Nothing h = refl
surviving-without oid (Changed i definitions rest) h =
    surviving_with oid i definitions (work_without oid rest) (item_without oid i) (left oid i) h.0 h.1
    ∙ ap (λ cs. changes_of i (other_definitions oid definitions) ++ cs) (surviving-without oid rest h.2)
    ∙ ap (λ cs. cs ++ other_changes oid (surviving_changes rest)) (sym (other-changes_of oid i definitions))
    ∙ sym (others-append oid (changes_of i definitions) (surviving_changes rest))
surviving-without oid (Subtransaction xid inner rest) h =
    ap (λ cs. cs ++ surviving_changes (work_without oid rest)) (surviving-without oid inner h.0)
    ∙ ap (λ cs. other_changes oid (surviving_changes inner) ++ cs) (surviving-without oid rest h.1)
    ∙ sym (others-append oid (surviving_changes inner) (surviving_changes rest))
surviving-without oid (RolledBack xid inside rest) h = surviving-without oid rest h

xids-with : (kept : List Item) (definitions : List RelationDef) (rest : Work) → xids_of (with_change kept definitions rest) ≡ xids_of rest
xids-with [] definitions rest = refl
xids-with (kept ∷ more) definitions rest = refl

pub xids-without : (oid : ℕ) (w : Work) → xids_of (work_without oid w) ≡ xids_of w
xids-without oid Nothing = refl
xids-without oid (Changed i definitions rest) =
    xids-with (item_without oid i) (other_definitions oid definitions) (work_without oid rest) ∙ xids-without oid rest
xids-without oid (Subtransaction xid inner rest) =
    ap (λ xs. xid ∷ (xs ++ xids_of (work_without oid rest))) (xids-without oid inner)
    ∙ ap (λ xs. xid ∷ (xids_of inner ++ xs)) (xids-without oid rest)
xids-without oid (RolledBack xid inside rest) = ap (λ xs. xid ∷ (inside ++ xs)) (xids-without oid rest)
