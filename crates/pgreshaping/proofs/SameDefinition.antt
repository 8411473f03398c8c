-- Definitions that compare as equal are one.
use Rattle.std.proofs.Common.{◌≡◌, ◌&&◌, ◌==◌, Bool, true, Decides, refl, ap, sym, ◌∙◌}
use Rattle.std.specs.Prelude.{nat_eq}
use Rattle.std.specs.Ordering.{int_eq}
use Rattle.std.specs.Cmp.{first_so, second_so, nat_eq_equiv, booleans_Decides, signed_Decides}
use Rattle.std.specs.Cmp.Lexicographic.{pointwise}
use Rattle.std.proofs.Math.Bool.{beq}
use Rattle.std.proofs.lemmas.Bool.{eqb-true}
use Rattle.std.proofs.lemmas.Slice.Eq.{bytes_eq-Decides, slice_eq-Decides}
use Rattle.pglogical.specs.declared.message.Column.{Column}
use Rattle.pglogical.specs.declared.message.RelationDef.{RelationDef}

both : (p q : Bool) → p ≡ true → q ≡ true → (p && q) ≡ true
both p q h k = λ i. h i && k i

abbrev same_column : Column → Column → Bool
same_column a b =
    beq a.key b.key && (pointwise nat_eq a.name b.name && ((a.type_oid == b.type_oid) && int_eq a.modifier b.modifier))

one_column : (a b : Column) → same_column a b ≡ true → a ≡ b
one_column a b h =
    let r₁ = second_so _ _ h in
    let r₂ = second_so _ _ r₁ in
    let key : a.key ≡ b.key = (booleans_Decides a.key b.key).0 (first_so _ _ h) in
    let name : a.name ≡ b.name = (bytes_eq-Decides a.name b.name).0 (first_so _ _ r₁) in
    let type_oid : a.type_oid ≡ b.type_oid = eqb-true a.type_oid b.type_oid (first_so _ _ r₂) in
    let modifier : a.modifier ≡ b.modifier = (signed_Decides a.modifier b.modifier).0 (second_so _ _ r₂) in
    λ i. record { key = key i; name = name i; type_oid = type_oid i; modifier = modifier i }

column_itself : (a : Column) → same_column a a ≡ true
column_itself a =
    both _ _ ((booleans_Decides a.key a.key).1 refl) (both _ _ ((bytes_eq-Decides a.name a.name).1 refl)
    (both _ _ (nat_eq_equiv.refl a.type_oid) ((signed_Decides a.modifier a.modifier).1 refl)))

column_Decides : (a b : Column) → Decides (same_column a b) (a ≡ b)
column_Decides a b = (one_column a b, λ e. ap (λ (x : Column). same_column a x) (sym e) ∙ column_itself a)

-- what `==` answers
abbrev pub same_definition : RelationDef → RelationDef → Bool
same_definition a b = (a.oid == b.oid)
    && (pointwise nat_eq a.namespace b.namespace
    && (pointwise nat_eq a.name b.name && ((a.letter == b.letter) && pointwise same_column a.columns b.columns)))

pub one_definition : (a b : RelationDef) → same_definition a b ≡ true → a ≡ b
one_definition a b h =
    let r₁ = second_so _ _ h in
    let r₂ = second_so _ _ r₁ in
    let r₃ = second_so _ _ r₂ in
    let oid : a.oid ≡ b.oid = eqb-true a.oid b.oid (first_so _ _ h) in
    let namespace : a.namespace ≡ b.namespace = (bytes_eq-Decides a.namespace b.namespace).0 (first_so _ _ r₁) in
    let name : a.name ≡ b.name = (bytes_eq-Decides a.name b.name).0 (first_so _ _ r₂) in
    let letter : a.letter ≡ b.letter = eqb-true a.letter b.letter (first_so _ _ r₃) in
    let columns : a.columns ≡ b.columns =
    (slice_eq-Decides column_Decides a.columns b.columns (pointwise same_column a.columns b.columns) refl).0 (second_so _ _ r₃) in
    λ i. record { oid = oid i; namespace = namespace i; name = name i; letter = letter i; columns = columns i }
