-- Changes of the tables of bytes, as changes of the value that they hold.
use Rattle.std.proofs.Common.{◌≡◌, ℕ, List, [], ◌∷◌, Bool, true, false, cond, not, Option, Some}
use Rattle.std.proofs.Common.{None, refl, sym, ap, subst, ◌∙◌, inl, inr, true≢false, eq-eqb}
use Rattle.std.specs.Prelude.{option_map, ◌==◌, ◌&&◌}
use Rattle.std.specs.Ordering.{nat_cmp, eq_by_cmp, is_eq, ordering_then}
use Rattle.std.specs.declared.cmp.Ordering.{Ordering}
use Rattle.std.specs.declared.cmp.Ordering.TheVariants.{Less, Equal, Greater}
use Rattle.std.specs.Cmp.{nat_cmp_total}
use Rattle.std.specs.Cmp.Lexicographic.{slice_cmp, nat_list_cmp_total}
use Rattle.std.specs.FinMap as map
use Rattle.std.specs.FinMap.{get-empty, get-insert, get-remove, get-retain_keys}
use Rattle.std.proofs.lemmas.Bool.{cases_Bool, eqb-true}
use Rattle.std.proofs.lemmas.Cmp.{tied_itself}
use Rattle.pglogical.specs.declared.message.RelationDef.{RelationDef}
use Rattle.pgtables.specs.Kept as stored
use Rattle.pgtables.specs.Kept.{with_row, without_row, without_rows, with_definition, is_of}
use Rattle.pgapply.specs.Value.{Row, Rows, Table, Tables}
use Rattle.pgencoded.specs.Spelled.{IsSpelled, spelled_definition, spelled_row, row_in, with_rows}
use Rattle.pgapply.proofs.KeepsForm.{same_number, same_place}

abbrev pub same_key : List ℕ → List ℕ → Bool
same_key = eq_by_cmp (slice_cmp nat_cmp)

pub tied_number : (n : ℕ) → eq_by_cmp nat_cmp n n ≡ true
tied_number n = ap is_eq (tied_itself nat_cmp_total n)

both_eq : (a b : Ordering) → is_eq (ordering_then a b) ≡ (is_eq a && is_eq b)
both_eq Less b = refl
both_eq Equal b = refl
both_eq Greater b = refl

-- a key is another one's if the OID and the identity are
pub key_parts : (q o : ℕ) (p i : List ℕ) → same_key (q ∷ p) (o ∷ i) ≡ (eq_by_cmp nat_cmp q o && same_key p i)
key_parts q o p i = both_eq (nat_cmp q o) (slice_cmp nat_cmp p i)

-- the table at an OID when one relation's rows are given
pub table_at : (v : Tables) (def : RelationDef) (rows : Rows) (oid : ℕ)
    → map.get (with_rows v def rows) oid
    ≡ cond (eq_by_cmp nat_cmp oid def.oid) (Some (record { definition = def; rows = rows })) (map.get v oid)
table_at v def rows oid = get-insert nat_cmp_total v def.oid (record { definition = def; rows = rows }) oid

pub own_table : (v : Tables) (def : RelationDef) (rows : Rows)
    → map.get (with_rows v def rows) def.oid ≡ Some (record { definition = def; rows = rows })
own_table v def rows = table_at v def rows def.oid
    ∙ ap (λ b. cond b (Some (record { definition = def; rows = rows })) (map.get v def.oid)) (tied_number def.oid)

pub own_row : (v : Tables) (def : RelationDef) (rows : Rows) (t : stored.Tables) → IsSpelled (with_rows v def rows) t → (place : List ℕ)
    → map.get t.rows (def.oid ∷ place) ≡ option_map spelled_row (map.get rows place)
own_row v def rows t h place = h.rows def.oid place ∙ ap (λ table. option_map spelled_row (row_in table place)) (own_table v def rows)

module _ (v : Tables) (def : RelationDef) (rows : Rows) (t : stored.Tables) (h : IsSpelled (with_rows v def rows) t) where
  -- the definitions stay
  pub defined_still : (next : Rows) (oid : ℕ)
      → map.get t.defined oid ≡ option_map (λ (table : Table). spelled_definition table.definition) (map.get (with_rows v def next) oid)
  defined_still next oid =
      h.defined oid ∙ ap (option_map (λ (table : Table). spelled_definition table.definition)) (table_at v def rows oid)
      ∙ go (eq_by_cmp nat_cmp oid def.oid)
      ∙ ap (option_map (λ (table : Table). spelled_definition table.definition)) (sym (table_at v def next oid))
    where
      go : (b : Bool) → option_map (λ (table : Table). spelled_definition table.definition)
          (cond b (Some (record { definition = def; rows = rows })) (map.get v oid))
          ≡ option_map (λ (table : Table). spelled_definition table.definition)
          (cond b (Some (record { definition = def; rows = next })) (map.get v oid))
      go true = refl
      go false = refl

  -- what is at a key when the rows of the relation are others
  rows_then : (next : Rows) (oid : ℕ) (place : List ℕ) → option_map spelled_row (row_in (map.get (with_rows v def next) oid) place)
      ≡ cond (eq_by_cmp nat_cmp oid def.oid) (option_map spelled_row (map.get next place))
      (option_map spelled_row (row_in (map.get v oid) place))
  rows_then next oid place =
      ap (λ table. option_map spelled_row (row_in table place)) (table_at v def next oid) ∙ go (eq_by_cmp nat_cmp oid def.oid)
    where
      go : (b : Bool) → option_map spelled_row (row_in (cond b (Some (record { definition = def; rows = next })) (map.get v oid)) place)
          ≡ cond b (option_map spelled_row (map.get next place)) (option_map spelled_row (row_in (map.get v oid) place))
      go true = refl
      go false = refl

  -- a row is put
  pub row_put : (place : List ℕ) (row : Row)
      → IsSpelled (with_rows v def (map.insert rows place row)) (with_row def.oid place (spelled_row row) t)
  row_put place row = record {
    defined = defined_still (map.insert rows place row);
    rows = λ oid q. get-insert nat_list_cmp_total t.rows (def.oid ∷ place) (spelled_row row) (oid ∷ q)
        ∙ ap (λ b. cond b (Some (spelled_row row)) (map.get t.rows (oid ∷ q))) (key_parts oid def.oid q place)
        ∙ ap (cond (eq_by_cmp nat_cmp oid def.oid && same_key q place) (Some (spelled_row row))) (h.rows oid q ∙ rows_then rows oid q)
        ∙ go oid q (eq_by_cmp nat_cmp oid def.oid) (same_key q place)
        ∙ ap (λ o. cond (eq_by_cmp nat_cmp oid def.oid) (option_map spelled_row o) (option_map spelled_row (row_in (map.get v oid) q)))
        (sym (get-insert nat_list_cmp_total rows place row q))
        ∙ sym (rows_then (map.insert rows place row) oid q);
    keyed = get-insert nat_list_cmp_total t.rows (def.oid ∷ place) (spelled_row row) [] ∙ h.keyed;
  }
    where
      go : (oid : ℕ) (q : List ℕ) (a b : Bool)
          → cond (a && b) (Some (spelled_row row))
          (cond a (option_map spelled_row (map.get rows q)) (option_map spelled_row (row_in (map.get v oid) q)))
          ≡ cond a (option_map spelled_row (cond b (Some row) (map.get rows q))) (option_map spelled_row (row_in (map.get v oid) q))
      go oid q true true = refl
      go oid q true false = refl
      go oid q false b = refl

  -- a row goes
  pub row_gone : (place : List ℕ) → IsSpelled (with_rows v def (map.remove rows place)) (without_row def.oid place t)
  row_gone place = record {
    defined = defined_still (map.remove rows place);
    rows = λ oid q. get-remove nat_list_cmp_total t.rows (def.oid ∷ place) (oid ∷ q)
        ∙ ap (λ b. cond b None (map.get t.rows (oid ∷ q))) (key_parts oid def.oid q place)
        ∙ ap (cond (eq_by_cmp nat_cmp oid def.oid && same_key q place) None) (h.rows oid q ∙ rows_then rows oid q)
        ∙ go oid q (eq_by_cmp nat_cmp oid def.oid) (same_key q place)
        ∙ ap (λ o. cond (eq_by_cmp nat_cmp oid def.oid) (option_map spelled_row o) (option_map spelled_row (row_in (map.get v oid) q)))
        (sym (get-remove nat_list_cmp_total rows place q))
        ∙ sym (rows_then (map.remove rows place) oid q);
    keyed = get-remove nat_list_cmp_total t.rows (def.oid ∷ place) [] ∙ h.keyed;
  }
    where
      go : (oid : ℕ) (q : List ℕ) (a b : Bool)
          → cond (a && b) None (cond a (option_map spelled_row (map.get rows q)) (option_map spelled_row (row_in (map.get v oid) q)))
          ≡ cond a (option_map spelled_row (cond b None (map.get rows q))) (option_map spelled_row (row_in (map.get v oid) q))
      go oid q true true = refl
      go oid q true false = refl
      go oid q false b = refl

  -- all rows of the relation go
  pub rows_gone : IsSpelled (with_rows v def map.empty) (without_rows def.oid t)
  rows_gone = record {
    defined = defined_still map.empty;
    rows = λ oid q. kept (oid ∷ q) ∙ at oid q ∙ sym (rows_then map.empty oid q);
    keyed = kept [] ∙ h.keyed;
  }
    where
      kept : (q : List ℕ) → map.get (without_rows def.oid t).rows q ≡ cond (not (is_of def.oid q)) (map.get t.rows q) None
      kept q = get-retain_keys t.rows (λ key. not (is_of def.oid key)) q
          (λ x tie. ap (λ key. not (is_of def.oid key)) (sym (same_place q x (ap is_eq tie))))

      none : (q : List ℕ) → option_map spelled_row (map.get (map.empty {X = Row} {R = slice_cmp nat_cmp}) q) ≡ None
      none q = ap (option_map spelled_row) (get-empty (slice_cmp nat_cmp) q)

      not_tied : (oid : ℕ) → (def.oid == oid) ≡ false → eq_by_cmp nat_cmp oid def.oid ≡ false
      not_tied oid other = elim (cases_Bool (eq_by_cmp nat_cmp oid def.oid)) [
        | inr apart ↦ apart
        | inl tie ↦ absurd (true≢false (sym (eq-eqb def.oid oid (sym (same_number oid def.oid tie))) ∙ other))
      ]

      at : (oid : ℕ) (q : List ℕ) → cond (not (is_of def.oid (oid ∷ q))) (map.get t.rows (oid ∷ q)) None
          ≡ cond (eq_by_cmp nat_cmp oid def.oid) (option_map spelled_row (map.get (map.empty {X = Row} {R = slice_cmp nat_cmp}) q))
          (option_map spelled_row (row_in (map.get v oid) q))
      at oid q = elim (cases_Bool (def.oid == oid)) [
        | inl own ↦
            let same : def.oid ≡ oid = eqb-true def.oid oid own in
            let tie : eq_by_cmp nat_cmp oid def.oid ≡ true = subst (λ n. eq_by_cmp nat_cmp oid n ≡ true) (sym same) (tied_number oid) in
            ap (λ b. cond (not b) (map.get t.rows (oid ∷ q)) None) own ∙ sym (none q)
            ∙ ap (λ b. cond b (option_map spelled_row (map.get (map.empty {X = Row} {R = slice_cmp nat_cmp}) q))
            (option_map spelled_row (row_in (map.get v oid) q))) (sym tie)
        | inr other ↦
            let apart : eq_by_cmp nat_cmp oid def.oid ≡ false = not_tied oid other in
            ap (λ b. cond (not b) (map.get t.rows (oid ∷ q)) None) other ∙ h.rows oid q ∙ rows_then rows oid q
            ∙ ap (λ b. cond b (option_map spelled_row (map.get rows q)) (option_map spelled_row (row_in (map.get v oid) q))) apart
            ∙ ap (λ b. cond b (option_map spelled_row (map.get (map.empty {X = Row} {R = slice_cmp nat_cmp}) q))
            (option_map spelled_row (row_in (map.get v oid) q))) (sym apart)
      ]

-- ---- a relation gets its definition

abbrev spelled_table : Option Table → Option stored.Definition
spelled_table table = option_map (λ (table : Table). spelled_definition table.definition) table

module _ (v : Tables) (def : RelationDef) (rows : Rows) (t : stored.Tables) (h : IsSpelled v t)
    (same : (place : List ℕ) → row_in (map.get v def.oid) place ≡ map.get rows place) where
  rows_as : (oid : ℕ) (q : List ℕ)
      → option_map spelled_row (row_in (map.get v oid) q) ≡ option_map spelled_row (row_in (map.get (with_rows v def rows) oid) q)
  rows_as oid q = elim (cases_Bool (eq_by_cmp nat_cmp oid def.oid)) [
    | inl own ↦
        let is = same_number oid def.oid own in
        ap (λ n. option_map spelled_row (row_in (map.get v n) q)) is ∙ ap (option_map spelled_row) (same q)
        ∙ ap (λ table. option_map spelled_row (row_in table q)) (sym (own_table v def rows))
        ∙ ap (λ n. option_map spelled_row (row_in (map.get (with_rows v def rows) n) q)) (sym is)
    | inr other ↦ ap (λ table. option_map spelled_row (row_in table q))
        (sym (table_at v def rows oid ∙ ap (λ b. cond b (Some (record { definition = def; rows = rows })) (map.get v oid)) other))
  ]

  pub definition_put : IsSpelled (with_rows v def rows) (with_definition def.oid (spelled_definition def) t)
  definition_put = record {
    defined = λ oid. get-insert nat_cmp_total t.defined def.oid (spelled_definition def) oid
        ∙ ap (cond (eq_by_cmp nat_cmp oid def.oid) (Some (spelled_definition def))) (h.defined oid)
        ∙ go oid (eq_by_cmp nat_cmp oid def.oid) ∙ ap spelled_table (sym (table_at v def rows oid));
    rows = λ oid q. h.rows oid q ∙ rows_as oid q;
    keyed = h.keyed;
  }
    where
      go : (oid : ℕ) (b : Bool)
          → cond b (Some (spelled_definition def)) (spelled_table (map.get v oid))
          ≡ spelled_table (cond b (Some (record { definition = def; rows = rows })) (map.get v oid))
      go oid true = refl
      go oid false = refl

  -- or has it already
  pub definition_stands : map.get t.defined def.oid ≡ Some (spelled_definition def) → IsSpelled (with_rows v def rows) t
  definition_stands stands = record {
    defined = λ oid. elim (cases_Bool (eq_by_cmp nat_cmp oid def.oid)) [
      | inl own ↦
          let is = same_number oid def.oid own in
          ap (map.get t.defined) is ∙ stands ∙ ap spelled_table (sym (own_table v def rows))
          ∙ ap (λ n. spelled_table (map.get (with_rows v def rows) n)) (sym is)
      | inr other ↦ h.defined oid
          ∙ ap spelled_table (sym (table_at v def rows oid
          ∙ ap (λ b. cond b (Some (record { definition = def; rows = rows })) (map.get v oid)) other))
    ];
    rows = λ oid q. h.rows oid q ∙ rows_as oid q;
    keyed = h.keyed;
  }
