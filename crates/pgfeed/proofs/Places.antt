-- Where definitions are told.
use Rattle.std.proofs.Common.{◌≡◌, ℕ, List, [], ◌∷◌, ◌++◌, Option, Some, None, refl, ap, sym, ◌∙◌}
use Rattle.std.proofs.Common.{is_some, true, false, Bool, ◌==◌, if◌then◌else◌, subst, append_assoc}
use Rattle.std.specs.Prelude.{IfSome, slice_get}
use Rattle.std.specs.Cmp.{nat_eq_equiv}
use Rattle.std.proofs.lemmas.Option.{same_Some}
use Rattle.pglogical.specs.declared.message.RelationDef.{RelationDef}
use Rattle.pgfeed.specs.declared.told.Told.{Told}
use Rattle.pgfeed.specs.declared.told.Last.{Last}
use Rattle.pgfeed.specs.Texts.{if_there, newer, newest, place, same_definition, told_at}
use Rattle.pgfeed.proofs.SameDefinition.{definition_itself}

newer_none : (a : Option (Option ℕ)) → a ≡ newer a None
newer_none (Some place) = refl
newer_none None = refl

newer_both : (a b c : Option (Option ℕ)) → newer (newer a b) c ≡ newer a (newer b c)
newer_both (Some place) b c = refl
newer_both None b c = refl

-- those that are told later count first
pub newest_append : (told more : List Told) (def : RelationDef) → newest (told ++ more) def ≡ newer (newest more def) (newest told def)
newest_append [] more def = newer_none (newest more def)
newest_append (t ∷ told) more def =
    ap (λ a. newer a (told_at t def)) (newest_append told more def) ∙ newer_both (newest more def) (newest told def) (told_at t def)

-- the last one counts first
pub newest_last : (told : List Told) (t : Told) (def : RelationDef) → newest (told ++ t ∷ []) def ≡ newer (told_at t def) (newest told def)
newest_last told t def = newest_append told (t ∷ []) def

pub one_place : (all told : List Told) (t : Told) (def : RelationDef) (here : Option (Option ℕ)) → all ≡ told ++ t ∷ []
    → here ≡ told_at t def → is_some here ≡ true → here ≡ newest all def
one_place all told t def (Some at) split is some =
    sym (ap (λ ts. newest ts def) split ∙ newest_last told t def ∙ ap (λ a. newer a (newest told def)) (sym is))
one_place all told t def None split is some = cc

pub no_place : (all told : List Told) (t : Told) (def : RelationDef) (here : Option (Option ℕ)) → all ≡ told ++ t ∷ []
    → here ≡ told_at t def → is_some here ≡ false → newest told def ≡ newest all def
no_place all told t def (Some at) split is none = cc
no_place all told t def None split is none =
    sym (ap (λ ts. newest ts def) split ∙ newest_last told t def ∙ ap (λ a. newer a (newest told def)) (sym is))

place_append : (told more : List Told) (def : RelationDef)
    → place (told ++ more) def ≡ if_there (newer (newest more def) (newest told def))
place_append told more def = ap if_there (newest_append told more def)

-- by the later ones where they tell anything of the relation, else by those before
pub place_later : (told more : List Told) (def : RelationDef) (found : Option (Option ℕ)) → found ≡ newest more def
    → is_some found ≡ true → if_there found ≡ place (told ++ more) def
place_later told more def (Some at) is some =
    sym (place_append told more def ∙ ap (λ a. if_there (newer a (newest told def))) (sym is))
place_later told more def None is some = cc

pub place_before : (told more : List Told) (def : RelationDef) (found before : Option (Option ℕ)) → found ≡ newest more def
    → is_some found ≡ false → before ≡ newest told def → if_there before ≡ place (told ++ more) def
place_before told more def (Some at) before is none there = cc
place_before told more def None before is none there =
    ap if_there there ∙ sym (place_append told more def ∙ ap (λ a. if_there (newer a (newest told def))) (sym is))

both_true : (a b : Bool) (at : ℕ) → a ≡ true → b ≡ true
    → (if a then Some (if b then Some at else None) else None) ≡ Some (Some at)
both_true true true at p q = refl
both_true true false at p q = cc
both_true false b at p q = cc

told_itself : (def : RelationDef) (at : ℕ) → told_at (record { definition = def; offset = at }) def ≡ Some (Some at)
told_itself def at = both_true (def.oid == def.oid) (same_definition def def) at (nat_eq_equiv.refl def.oid) (definition_itself def)

told_is : (t : Told) (def : RelationDef) (at : ℕ) → t.definition ≡ def → t.offset ≡ at → told_at t def ≡ Some (Some at)
told_is t def at is there =
    ap (λ d. told_at (record { definition = d; offset = t.offset }) def) is
    ∙ ap (λ k. told_at (record { definition = def; offset = k }) def) there ∙ told_itself def at

-- one that was told last stands where it was told
pub now_told : (told own new : List Told) (t : Told) (def : RelationDef) (at : ℕ) → new ≡ own ++ t ∷ [] → t.definition ≡ def
    → t.offset ≡ at → place (told ++ new) def ≡ Some at
now_told told own new t def at adds is there =
    ap (λ ts. place (told ++ ts) def) adds ∙ ap (λ ts. place ts def) (sym (append_assoc told own (t ∷ [])))
    ∙ ap if_there (newest_last (told ++ own) t def) ∙ ap (λ a. if_there (newer a (newest (told ++ own) def))) (told_is t def at is there)

-- the definition of the last change stands there
abbrev pub LastStands : List RelationDef → List Told → Option Last → Type 0
LastStands defs told last =
    IfSome last (λ it. (def : RelationDef) → slice_get defs it.number ≡ Some def → place told def ≡ Some it.offset)

pub known_stands : (defs : List RelationDef) (told : List Told) (last : Option Last) (number : ℕ) (known : Option ℕ) (def : RelationDef)
    → LastStands defs told last → IfSome known (λ it. last ≡ Some (record { number = number; offset = it }))
    → slice_get defs number ≡ Some def → IfSome known (λ it. place told def ≡ Some it)
known_stands defs told last number None def stands is here = tt
known_stands defs told last number (Some it) def stands is here = subst (LastStands defs told) is stands def here

pub now_stands : (defs : List RelationDef) (told : List Told) (number at : ℕ) (def : RelationDef) → slice_get defs number ≡ Some def
    → place told def ≡ Some at → LastStands defs told (Some (record { number = number; offset = at }))
now_stands defs told number at def here is = λ other there.
    subst (λ d. place told d ≡ Some at) (same_Some def other (sym here ∙ there)) is
