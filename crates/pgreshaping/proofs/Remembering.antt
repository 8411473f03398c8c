-- What is known of the definitions behind a call.
use Rattle.std.proofs.Common.{◌≡◌, true, false, cond, Option, Some, None, Result, Ok, Err, sym, ap}
use Rattle.std.proofs.Common.{subst, ◌∙◌, inl, inr}
use Rattle.std.specs.Prelude.{option_map, ⊤, OnOk, OnErr}
use Rattle.std.specs.Ordering.{nat_cmp, eq_by_cmp}
use Rattle.std.specs.Cmp.{nat_cmp_total}
use Rattle.std.specs.FinMap as map
use Rattle.std.specs.FinMap.{FinMap, get-empty, get-insert}
use Rattle.std.proofs.lemmas.Bool.{cases_Bool}
use Rattle.sqlite.specs.Store.{Ghosts}
use Rattle.pglogical.specs.declared.message.RelationDef.{RelationDef}
use Rattle.pgtables.specs.Kept as stored
use Rattle.pgapply.specs.Value.{Rows, Table, Tables}
use Rattle.pgapply.proofs.KeepsForm.{same_number, same_some}
use Rattle.pgencoded.specs.Spelled.{IsChanging, IsStored, spelled_definition}
use Rattle.pgencoded.proofs.SpelledRows.{defined_still, own_table, table_at, tied_number}
use Rattle.pgreshaping.specs.Known.{AreKnown, AreStored, Notes}

abbrev spelled_at : Option Table → Option stored.Definition
spelled_at o = option_map (λ (table : Table). spelled_definition table.definition) o

-- nothing is known
pub none_known : {S : Type 0} (g : Ghosts S) (known : FinMap nat_cmp RelationDef) (s : S) → known ≡ map.empty → AreKnown g known s
none_known g known s none clean still oid def at =
    absurd (let no = sym (get-empty nat_cmp oid) ∙ ap (λ (k : FinMap nat_cmp RelationDef). map.get k oid) (sym none) ∙ at in cc)

-- where a relation's rows change, each has the definition that it had
pub defined_as : (v : Tables) (def : RelationDef) (rows next : Rows) (t after : stored.Tables) → IsChanging v def rows t
    → IsChanging v def next after → (known : FinMap nat_cmp RelationDef) → AreStored known t → AreStored known after
defined_as v def rows next t after one two known are oid d at =
    two.spelled.defined oid ∙ sym (defined_still v def rows t one.spelled next oid) ∙ are oid d at

-- a definition was given, and noted
pub noted_stored : (known next : FinMap nat_cmp RelationDef) (v : Tables) (def : RelationDef) (rows : Rows) (t after : stored.Tables)
    → AreStored known t → IsStored v t → IsChanging v def rows after → Notes known def next → AreStored next after
noted_stored known next v def rows t after are h c notes oid d at = elim (notes oid d at) [
  | inl own ↦
      ap (map.get after.defined) own.1 ∙ c.spelled.defined def.oid ∙ ap spelled_at (own_table v def rows)
      ∙ ap (λ e. Some (spelled_definition e)) (sym own.0)
  | inr other ↦
      let apart : eq_by_cmp nat_cmp oid def.oid ≡ false = elim (cases_Bool (eq_by_cmp nat_cmp oid def.oid)) [
        | inl same ↦ absurd (other.1 (same_number oid def.oid same))
        | inr is ↦ is
      ] in
      c.spelled.defined oid
      ∙ ap spelled_at
      (table_at v def rows oid ∙ ap (λ b. cond b (Some (record { definition = def; rows = rows })) (map.get v oid)) apart)
      ∙ sym (h.spelled.defined oid) ∙ are oid d other.0
]

-- ---- what is noted

pub notes_none : (known next : FinMap nat_cmp RelationDef) (def : RelationDef) → next ≡ map.empty → Notes known def next
notes_none known next def none oid d at =
    absurd (let no = sym (get-empty nat_cmp oid) ∙ ap (λ (k : FinMap nat_cmp RelationDef). map.get k oid) (sym none) ∙ at in cc)

module _ (known : FinMap nat_cmp RelationDef) (def : RelationDef) where
  notes_put : Notes known def (map.insert known def.oid def)
  notes_put oid d at = elim (cases_Bool (eq_by_cmp nat_cmp oid def.oid)) [
    | inl same ↦
        let here = ap (λ b. cond b (Some def) (map.get known oid)) (sym same) ∙ sym (get-insert nat_cmp_total known def.oid def oid) ∙ at in
        inl (sym (same_some here), same_number oid def.oid same)
    | inr other ↦
        let there = ap (λ b. cond b (Some def) (map.get known oid)) (sym other) ∙ sym (get-insert nat_cmp_total known def.oid def oid) ∙ at
        in
        inr (there, λ is. let no : false ≡ true = sym other ∙ ap (λ n. eq_by_cmp nat_cmp n def.oid) is ∙ tied_number def.oid in cc)
  ]

  notes_still : map.get known def.oid ≡ None → Notes known def known
  notes_still none oid d at = inr (at, λ is. let no = sym none ∙ ap (map.get known) (sym is) ∙ at in cc)

  pub notes_set : {E : Type 0} (copy : RelationDef) (next : FinMap nat_cmp RelationDef) (r : Result ⊤ E) → copy ≡ def
      → OnOk r (next ≡ map.insert known copy.oid copy) → OnErr r (next ≡ known) → OnErr r (map.get known copy.oid ≡ None)
      → Notes known def next
  notes_set copy next (Ok u) same put stays absent =
      subst (Notes known def) (sym (put ∙ ap (λ (d : RelationDef). map.insert known d.oid d) same)) notes_put
  notes_set copy next (Err e) same put stays absent =
      subst (Notes known def) (sym stays) (notes_still (ap (λ (d : RelationDef). map.get known d.oid) (sym same) ∙ absent))
