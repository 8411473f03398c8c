-- Tables that are made, or that get their first position.
use Rattle.std.proofs.Common.{◌≡◌, true, [], ◌∷◌, sym, ap, subst, ◌∙◌, arith}
use Rattle.std.specs.Prelude.{option_map}
use Rattle.std.specs.Ordering.{nat_cmp}
use Rattle.std.specs.Cmp.Lexicographic.{slice_cmp}
use Rattle.std.specs.FinMap as map
use Rattle.std.specs.FinMap.{get-empty}
use Rattle.sqlite.specs.Tree.{Trees}
use Rattle.sqlite.specs.Effect.{Database}
use Rattle.sqlite.specs.Store.{Ghosts}
use Rattle.sqlite.specs.Held.{Held, state}
use Rattle.sqlite.specs.State.{HasCleanDisk, Survives}
use Rattle.sqlite.proofs.Callers.{survives_begin}
use Rattle.sqlite.proofs.StateLemmas.{survives_then}
use Rattle.pgtables.specs.Schema.{store_schema}
use Rattle.pgtables.specs.Kept as stored
use Rattle.pgtables.specs.Kept.{tables_of, tables_in}
use Rattle.pgapply.specs.Value.{Table}
use Rattle.pgencoded.specs.Spelled.{IsStored, spelled_definition, spelled_row, row_in}
use Rattle.pgencoded.specs.DatabaseValue.{AreOf, nothing_stored}
use Rattle.pgapply.proofs.KeepsForm.{none_keeps}

-- where there are no tables, nothing is stored
pub no_value : IsStored map.empty stored.no_tables
no_value = record {
  spelled = record {
    defined = λ oid. get-empty nat_cmp oid ∙ sym (ap (option_map (λ (t : Table). spelled_definition t.definition)) (get-empty nat_cmp oid));
    rows = λ oid place. get-empty (slice_cmp nat_cmp) (oid ∷ place)
        ∙ sym (ap (λ o. option_map spelled_row (row_in o place)) (get-empty nat_cmp oid));
    keyed = get-empty (slice_cmp nat_cmp) [];
  };
  form = none_keeps;
  spellable = λ oid table there. absurd (let none = sym (get-empty nat_cmp oid) ∙ there in cc);
}

module _ {S : Type 0} (g : Ghosts S) (old begun last new : Held S) (is : begun ≡ record old { in_transaction = true }) where
  empty_trees : (db : Trees) → stored.IsUnderWay g last → tables_of g last ≡ stored.no_tables → db ≡ (state g last).now.trees
      → AreOf nothing_stored db
  empty_trees db under none same =
      let whole : ◌≡◌ {A = Database} (state g last).now (record { schema = store_schema; trees = db }) =
      λ i. record { schema = under.kept.schema i; trees = sym same i } in
      let tables : tables_in db ≡ stored.no_tables = ap tables_in same ∙ none in
      record {
        kept = subst stored.IsKept whole under.kept;
        stored = subst (IsStored map.empty) (sym tables) no_value;
        position = ap (λ (t : stored.Tables). t.place) tables;
        range = omega arith;
      }

  -- all was committed, or nothing
  pub crash_begun : (HasCleanDisk (state g last) → stored.IsUnderWay g last × (tables_of g last ≡ stored.no_tables))
      → Survives (state g begun) (state g last) (λ _. ⊥)
      → Survives (state g last) (state g new) (λ db. db ≡ (state g last).now.trees)
      → Survives (state g old) (state g new) (AreOf nothing_stored)
  crash_begun made one two = survives_begin g old (state g new) _ (subst (λ h. Survives (state g h) (state g new) (AreOf nothing_stored)) is
      (survives_then (state g begun) (state g last) (state g new) (λ _. ⊥) (λ db. db ≡ (state g last).now.trees) _
      (λ _ db none. absurd none)
      (λ clean db same. let it = made (omega (arith, two.clean)) in empty_trees db it.0 it.1 same) one two))
