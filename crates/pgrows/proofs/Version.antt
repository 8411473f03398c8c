-- The version that a file tells stands beside the tables.
use Rattle.std.proofs.Common.{◌≡◌, inl, inr, ℕ, Option, ℤ, [], ◌∷◌, refl, sym, ap, subst, ◌∙◌}
use Rattle.sqlite_trees.specs.Tree.{Trees, IsTable}
use Rattle.sqlite_trees.specs.View.{View, SetsTree, OnlyWrites}
use Rattle.sqlite_trees.specs.Objects.{catalog_tree, version_tree, version_rows}
use Rattle.sqlite_sql.specs.Catalog.{IsIndexOf}
use Rattle.pgtables.specs.Schema.{pos_at}
use Rattle.pgtables.specs.Kept.{AreDefined, AreHeld, IsKept, Tables, pos_row, tables_in}
use Rattle.pgrows.specs.Rows.{IsGood, IsUnder, database}
use Rattle.pgrows.proofs.Unique.{keeps_unique_rows}
use Rattle.pgrows.proofs.Edited.{apart_of, edited_sound}
use Rattle.pgrows.proofs.Found.{low_still, wrote_under}

module _ (old new : Trees) (kept : IsKept (database old)) (at_0 : new 0 ≡ old 0) (at_1 : new 1 ≡ old 1) (at_2 : new 2 ≡ old 2)
    (at_3 : new 3 ≡ old 3) (objects : new catalog_tree ≡ old catalog_tree) where
  held : AreHeld (new 1)
  held = subst AreHeld (sym at_1) kept.held

  index : IsIndexOf (1 ∷ 2 ∷ []) (new 1) (new 2)
  index = subst (λ l. IsIndexOf (1 ∷ 2 ∷ []) l (new 2)) (sym at_1)
      (subst (λ l. IsIndexOf (1 ∷ 2 ∷ []) (old 1) l) (sym at_2) kept.sound.obeys.indexed.0)

  pub stays_kept : IsKept (database new) × (tables_in new ≡ tables_in old)
  stays_kept =
      let same : tables_in new ≡ tables_in old = rw (at_0, at_1, at_3) refl in (
        record {
          schema = refl;
          sound = edited_sound old new pos_at [] [] (inr (inr (inl refl))) kept.sound (subst IsTable (sym kept.place) (tt, tt)) refl at_3
              (λ _. at_0, (λ _. at_1, (λ other. absurd (other refl), tt))) objects
              (record { typed = refl; present = refl; checked = refl }) (keeps_unique_rows new (apart_of (new 1) held)) index;
          defined = subst AreDefined (sym at_0) kept.defined;
          held = held;
          place = at_3 ∙ kept.place ∙ ap (λ (t : Tables). pos_row t.place ∷ []) (sym same);
        },
        same,
      )

module _ (old new : View) (n : ℕ) (sets : SetsTree old new version_tree (λ _. version_rows n)) where
  pub version_is : new.trees version_tree ≡ version_rows n
  version_is = ap (λ (v : View). v.trees version_tree) sets.is

  pub version_stays : IsGood old → IsKept (database new.trees) × (tables_in new.trees ≡ tables_in old.trees)
  version_stays good =
      stays_kept old.trees new.trees good.kept (ap (λ (v : View). v.trees 0) sets.is) (ap (λ (v : View). v.trees 1) sets.is)
      (ap (λ (v : View). v.trees 2) sets.is) (ap (λ (v : View). v.trees 3) sets.is) (ap (λ (v : View). v.trees catalog_tree) sets.is)

  pub only_writes : OnlyWrites old new
  only_writes = λ i. record (sets.is i) { trees = new.trees; cursors = new.cursors }

  pub version_under : (last : Option ℤ) → IsUnder old last → IsUnder new last
  version_under last under =
      wrote_under old new last only_writes under.good under.behind (version_stays under.good).0
      (low_still last old.committed (old.trees 1) (new.trees 1) (ap (λ (v : View). v.trees 1) sets.is) under.below)
