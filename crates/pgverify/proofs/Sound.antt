-- Trees that are listed as a store's and whose rows have the form are a database that holds the
-- tables of a store.
use Rattle.std.proofs.Common.{◌≡◌, inl, inr, ℕ, pos, true, List, [], ◌∷◌, refl, sym, ap, subst, ◌∙◌}
use Rattle.std.specs.Prelude.{slice_get, unwrap_or}
use Rattle.std.proofs.lemmas.Cmp.{tied_itself}
use Rattle.sqlite_value.specs.declared.value.Value.TheVariants.{Int}
use Rattle.sqlite_value.specs.Order.{Row, column, bytes}
use Rattle.sqlite_value.proofs.OrderLemmas.{value_cmp_total}
use Rattle.sqlite_trees.specs.Tree.{Trees}
use Rattle.sqlite_trees.specs.Objects.{catalog_tree}
use Rattle.sqlite_sql.specs.Ops.{binary}
use Rattle.sqlite_sql.specs.Catalog.{IsIndexOf}
use Rattle.sqlite_schema.specs.declared.schema.Constraint.{Constraint}
use Rattle.sqlite_schema.specs.declared.schema.Constraint.TheVariants.{Datatype, NotNull, Check}
use Rattle.sqlite_schema.specs.declared.schema.Constraint.TheVariants.{PrimaryKey, Unique}
use Rattle.sqlite_schema.specs.declared.schema.Constraint.TheVariants.{ForeignKey}
use Rattle.sqlite_schema.specs.Rules.{Keeps, passes, passes_checks}
use Rattle.sqlite_rules.specs.Lists.{Has}
use Rattle.sqlite_rules.proofs.ListLemmas.{all_from}
use Rattle.sqlite_catalog.specs.Listing.{Lists}
use Rattle.pgtables.specs.Schema.{held_table, pos_at, rel, store_schema}
use Rattle.pgtables.specs.Kept.{AreDefined, AreHeld, IsKept, pos_row}
use Rattle.pgrows.specs.Rows.{database}
use Rattle.pgrows.proofs.Unique.{keeps_unique_rows}
use Rattle.pgrows.proofs.Edited.{apart_of}

module _ (db : Trees) (place : List ℕ) (defined : AreDefined (db 0)) (held : AreHeld (db 1)) (at : db 3 ≡ pos_row place ∷ []) where
  checked : passes_checks pos_at (pos_row place) ≡ true
  unfolding binary
  checked = rw (tied_itself value_cmp_total (Int (pos 0))) refl

  all_pos : (rule : Constraint) → passes rule store_schema db pos_at (pos_row place) ≡ true → (row : Row) → Has (db 3) row
      → passes rule store_schema db pos_at row ≡ true
  all_pos rule one row h = go (subst (λ l. Has l row) at h)
    where
      go : Has (pos_row place ∷ []) row → passes rule store_schema db pos_at row ≡ true
      go (inl is) = subst (λ r. passes rule store_schema db pos_at r ≡ true) (sym is) one
      go (inr none) = absurd none

  three : (rule : Constraint) → ((row : Row) → Has (db 0) row → passes rule store_schema db rel row ≡ true)
      → ((row : Row) → Has (db 1) row → passes rule store_schema db held_table row ≡ true)
      → passes rule store_schema db pos_at (pos_row place) ≡ true → Keeps rule store_schema db
  three rule a b c = (all_from _ (db 0) a, (all_from _ (db 1) b, (all_from _ (db 3) (all_pos rule c), tt)))

  keeps : (rule : Constraint) → Keeps rule store_schema db
  keeps Datatype = three Datatype (λ row h. subst (λ r. passes Datatype store_schema db rel r ≡ true) (sym (defined.formed row h)) refl)
      (λ row h. subst (λ r. passes Datatype store_schema db held_table r ≡ true) (sym (held.formed row h)) refl) refl
  keeps NotNull = three NotNull (λ row h. subst (λ r. passes NotNull store_schema db rel r ≡ true) (sym (defined.formed row h)) refl)
      (λ row h. subst (λ r. passes NotNull store_schema db held_table r ≡ true) (sym (held.formed row h)) refl) refl
  keeps Check = three Check (λ row h. refl) (λ row h. refl) checked
  keeps PrimaryKey = three PrimaryKey (λ row h. refl) (λ row h. refl) refl
  keeps Unique = keeps_unique_rows db (apart_of (db 1) held)
  keeps ForeignKey = three ForeignKey (λ row h. refl) (λ row h. refl) refl

  pub kept : Lists (db catalog_tree) store_schema → IsIndexOf (1 ∷ 2 ∷ []) (db 1) (db 2) → IsKept (database db)
  kept lists indexed = record {
    schema = refl;
    sound = record { lists = lists; obeys = record { rules = keeps; indexed = (indexed, tt) } };
    defined = defined;
    held = held;
    place = at ∙ ap (λ b. pos_row b ∷ []) (sym (ap (λ (rows : List Row). bytes (column (unwrap_or (slice_get rows 0) []) 2)) at));
  }
