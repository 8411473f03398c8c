-- The relation cache as a map: what a look-up finds, before and behind a change.
use Rattle.std.proofs.Common.{◌≡◌, List, [], ◌∷◌, ℕ, true, false, cond, Option, Some, None, Result}
use Rattle.std.proofs.Common.{Ok, Err, sym, ◌∙◌, refl, subst}
use Rattle.std.specs.Prelude.{IfOk, IfErr, OnErr, ◌==◌, if◌then◌else◌}
use Rattle.std.specs.Option.{ok_or, option_copied}
use Rattle.std.specs.Map.{lookup}
use Rattle.std.specs.FinMap as map
use Rattle.std.specs.FinMap.{find, get-from_entries, get-insert, same_map, nat_cmp-IsAntisymmetric}
use Rattle.std.specs.Ordering.{nat_cmp}
use Rattle.std.specs.Cmp.{nat_cmp_total, unsigned_ties, unsigned_Decides}
use Rattle.indexmap.specs.IndexMap.{insert_entry}
use Rattle.pglogical.specs.declared.message.RelationDef.{RelationDef}
use Rattle.pglogical.specs.Spelling.{IsDefinition}
use Rattle.pgrel.specs.declared.fault.RelFault.{RelFault}
use Rattle.pgrel.specs.declared.fault.RelFault.TheVariants.{UnknownRelation}
use Rattle.pgrel.specs.Known.{IsKnown, AreDefinitions}
use denote.Ref.{Bor}

abbrev Entries : Type 0
Entries = List (ℕ × RelationDef)

abbrev Known : Type 0
Known = map.FinMap nat_cmp RelationDef

find_lookup : (entries : Entries) (oid : ℕ) → find nat_cmp oid entries ≡ lookup (λ k. oid == k) entries
find_lookup [] oid = refl
find_lookup (e ∷ es) oid = λ i. cond (sym (unsigned_ties oid e.0) i) (Some e.1) (find_lookup es oid i)

-- the map has what a scan of its entries finds
pub get_lookup : (entries : Entries) (oid : ℕ) → map.get (map.from_entries {R = nat_cmp} entries) oid ≡ lookup (λ k. oid == k) entries
get_lookup entries oid = get-from_entries nat_cmp_total entries oid ∙ find_lookup entries oid

symmetric : (a b : ℕ) → (a == b) ≡ (b == a)
symmetric a b =
    elim (a == b) as (λ r. (a == b) ≡ r → r ≡ (b == a)) [
      | true ↦ λ e. sym ((unsigned_Decides b a).1 (sym ((unsigned_Decides a b).0 e)))
      | false ↦ λ e. elim (b == a) as (λ r. (b == a) ≡ r → false ≡ r)
          [ true ↦ λ f. sym e ∙ (unsigned_Decides a b).1 (sym ((unsigned_Decides b a).0 f)) | false ↦ λ f. refl ] refl
    ] refl

-- where each look-up finds what it found, but for one OID, that OID was put in
pub insert_lookup : (before after : Entries) (oid : ℕ) (def : RelationDef)
    → ((q : ℕ) → lookup (λ k. q == k) after ≡ cond (oid == q) (Some def) (lookup (λ k. q == k) before))
    → map.from_entries {R = nat_cmp} after ≡ map.insert (map.from_entries before) oid def
insert_lookup before after oid def says =
    same_map nat_cmp_total nat_cmp-IsAntisymmetric (map.from_entries after) (map.insert (map.from_entries before) oid def)
    (λ q. get_lookup after q ∙ says q ∙ (λ i. cond ((symmetric oid q ∙ unsigned_ties q oid) i) (Some def) (sym (get_lookup before q) i))
    ∙ sym (get-insert nat_cmp_total (map.from_entries before) oid def q))

-- a definition that is put in under its OID stands there with the others
pub insert_definition : (entries : Entries) (def : RelationDef) → AreDefinitions entries → IsDefinition def
    → AreDefinitions (insert_entry ◌==◌ entries def.oid def)
insert_definition [] def h d = (record { oid = refl; spellable = d }, tt)
insert_definition (e ∷ es) def h d =
    elim (def.oid == e.0) as
    (λ b. (def.oid == e.0) ≡ b → AreDefinitions (if b then (e.0, def) ∷ es else e ∷ insert_entry ◌==◌ es def.oid def)) [
      | true ↦ λ same. (record { oid = (unsigned_Decides def.oid e.0).0 same; spellable = d }, h.1)
      | false ↦ λ other. (h.0, insert_definition es def h.1 d)
    ] refl

-- what a look-up finds is the definition of that OID
pub lookup_definition : (entries : Entries) (oid : ℕ) (def : RelationDef) → AreDefinitions entries
    → lookup (λ k. oid == k) entries ≡ Some def → IsKnown (oid, def)
lookup_definition [] oid def h e = absurd (cc)
lookup_definition (entry ∷ es) oid def h e =
    elim (oid == entry.0) as (λ b. (oid == entry.0) ≡ b → cond b (Some entry.1) (lookup (λ k. oid == k) es) ≡ Some def
    → IsKnown (oid, def)) [
      | true ↦ λ same found. here oid entry def h.0 ((unsigned_Decides oid entry.0).0 same) cc
      | false ↦ λ other found. lookup_definition es oid def h.1 found
    ] refl e
  where
    here : (oid : ℕ) (entry : ℕ × RelationDef) (def : RelationDef) → IsKnown entry → oid ≡ entry.0 → entry.1 ≡ def → IsKnown (oid, def)
    here oid entry def h same is = let P : ℕ × RelationDef → Type 0 = IsKnown in subst P (λ i. (sym same i, is i)) h

-- what a look-up answers
pub answer_found : (o : Option (Bor RelationDef)) (result : Result (Bor RelationDef) RelFault) (oid : ℕ) (known : Option RelationDef)
    → result ≡ ok_or o (UnknownRelation oid) → option_copied o ≡ known → IfOk result (λ def. known ≡ Some def.now)
answer_found None result oid known e f = let P : Result (Bor RelationDef) RelFault → Type 0 = λ r. IfOk r (λ def. known ≡ Some def.now) in
    subst P (sym e) tt
answer_found (Some d) result oid known e f = let P : Result (Bor RelationDef) RelFault → Type 0 =
    λ r. IfOk r (λ def. known ≡ Some def.now) in subst P (sym e) (sym f)

pub answer_unknown : (o : Option (Bor RelationDef)) (result : Result (Bor RelationDef) RelFault) (oid : ℕ) (known : Option RelationDef)
    → result ≡ ok_or o (UnknownRelation oid) → option_copied o ≡ known
    → IfErr result (λ fault. (fault ≡ UnknownRelation oid) × (known ≡ None))
answer_unknown None result oid known e f = let P : Result (Bor RelationDef) RelFault → Type 0 =
    λ r. IfErr r (λ fault. (fault ≡ UnknownRelation oid) × (known ≡ None)) in subst P (sym e) (refl, sym f)
answer_unknown (Some d) result oid known e f = let P : Result (Bor RelationDef) RelFault → Type 0 =
    λ r. IfErr r (λ fault. (fault ≡ UnknownRelation oid) × (known ≡ None)) in subst P (sym e) tt

pub answer_named : (result : Result (Bor RelationDef) RelFault) (oid : ℕ) (entries : Entries) → AreDefinitions entries
    → IfOk result (λ def. lookup (λ k. oid == k) entries ≡ Some def.now) → IfOk result (λ def. def.now.oid ≡ oid)
answer_named (Ok def) oid entries h e = (lookup_definition entries oid def.now h e).oid
answer_named (Err fault) oid entries h e = tt

pub answer_spellable : (result : Result (Bor RelationDef) RelFault) (oid : ℕ) (entries : Entries) → AreDefinitions entries
    → IfOk result (λ def. lookup (λ k. oid == k) entries ≡ Some def.now) → IfOk result (λ def. IsDefinition def.now)
answer_spellable (Ok def) oid entries h e = (lookup_definition entries oid def.now h e).spellable
answer_spellable (Err fault) oid entries h e = tt

-- what holds, holds of a refusal
pub refused : {T E P : Type 0} (result : Result T E) → P → OnErr result P
refused (Ok x) h = tt
refused (Err e) h = h
