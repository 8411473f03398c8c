-- The rows of `rel`, as the definitions that were read of them.
use Rattle.std.proofs.Common.{◌≡◌, ℕ, pos, Bool, true, false, ◌&&◌, List, [], ◌∷◌, ◌++◌, length}
use Rattle.std.proofs.Common.{map, refl, sym, ap, subst, ◌∙◌, arith, Less, nat_cmp}
use Rattle.std.specs.Prelude.{T}
use Rattle.std.specs.List.{AllByRecursion}
use Rattle.std.specs.Ordering.{is_lt}
use Rattle.std.specs.FinMap.{find, is_sorted, get-from_entries}
use Rattle.std.specs.FinMap.Entries.{below_all}
use Rattle.std.specs.Cmp.{nat_cmp_total}
use Rattle.std.proofs.lemmas.List.{map-append}
use Rattle.sqlite_value.specs.declared.value.Value.TheVariants.{Null, Int, Text, Blob}
use Rattle.sqlite_value.specs.Order.{Row, column, value_cmp}
use Rattle.sqlite_value.proofs.OrderLemmas.{value_cmp-Int}
use Rattle.sqlite_trees.specs.Tree.{Trees, IsTable, rowid}
use Rattle.sqlite_rules.specs.Lists.{Has}
use Rattle.sqlite_rules.proofs.ProbeLemmas.{has_mapped}
use Rattle.pgtables.specs.Kept.{AreDefined, AreKeyed, Definition, definition_in, oid_in, rel_row}
use Rattle.pgtables.specs.Kept.{tables_in}
use Rattle.pgtables.specs.Opened.{ListsDefinitions}
use Rattle.pgtables.proofs.Queries.{map_twice}
use Rattle.pgrows.proofs.Seek.{nat_as_int}
use Rattle.pgverify.specs.Seen.{AreRowsOf}
use Rattle.pgverify.proofs.HeldRows.{rowids_once, rows_apart}

abbrev Entry : Type 0
Entry = ℕ × Definition

abbrev row_of : Entry → Row
row_of e = rel_row e.0 e.1

pub rows_on : (rows : List Row) (all more : List Entry) (row : Row) (e : Entry) → AreRowsOf rows all → row ≡ row_of e → more ≡ all ++ e ∷ []
    → AreRowsOf (rows ++ row ∷ []) more
rows_on rows all more row e are is pushed =
    ap (λ l. l ++ row ∷ []) are ∙ ap (λ r. map row_of all ++ r ∷ []) is ∙ sym (map-append row_of all (e ∷ []))
    ∙ ap (map row_of) (sym pushed)

-- ---- a row by its columns

six : (row : Row) → length row ≡ 6 → row ≡ column row 0 ∷ column row 1 ∷ column row 2 ∷ column row 3 ∷ column row 4 ∷ column row 5 ∷ []
six [] len = absurd (omega (arith, len))
six (a ∷ []) len = absurd (omega (arith, len))
six (a ∷ b ∷ []) len = absurd (omega (arith, len))
six (a ∷ b ∷ c ∷ []) len = absurd (omega (arith, len))
six (a ∷ b ∷ c ∷ d ∷ []) len = absurd (omega (arith, len))
six (a ∷ b ∷ c ∷ d ∷ e ∷ []) len = absurd (omega (arith, len))
six (a ∷ b ∷ c ∷ d ∷ e ∷ f ∷ []) len = refl
six (a ∷ b ∷ c ∷ d ∷ e ∷ f ∷ g ∷ row) len = absurd (omega (arith, len))

pub row_is : (row : Row) (oid : ℕ) (d : Definition) → length row ≡ 6 → column row 0 ≡ Int (pos oid) → column row 1 ≡ Null
    → column row 2 ≡ Text d.namespace → column row 3 ≡ Text d.name → column row 4 ≡ Int (pos d.letter) → column row 5 ≡ Blob d.columns
    → row ≡ rel_row oid d
row_is row oid d len a b c e f h = six row len ∙ (λ i. a i ∷ b i ∷ c i ∷ e i ∷ f i ∷ h i ∷ [])

-- ---- OIDs that rise

both : (a b : Bool) → T a → T b → T (a && b)
both true b p q = q
both false b p q = p

lower : (m n : ℕ) → value_cmp (Int (pos m)) (Int (pos n)) ≡ Less → T (is_lt (nat_cmp m n))
lower m n less = subst T (ap is_lt (sym (sym (nat_as_int m n) ∙ sym (value_cmp-Int (pos m) (pos n)) ∙ less))) tt

below : (e : Entry) (all : List Entry) → AllByRecursion (λ r. value_cmp (rowid (row_of e)) (rowid r) ≡ Less) (map row_of all)
    → T (below_all nat_cmp e.0 all)
below e [] each = tt
below e (f ∷ all) each = both _ _ (lower e.0 f.0 each.0) (below e all each.1)

sorted : (all : List Entry) → IsTable (map row_of all) → T (is_sorted nat_cmp all)
sorted [] up = tt
sorted (e ∷ all) up = both _ _ (below e all up.0) (sorted all up.1)

as_pairs : (all : List Entry) → map (λ e. (oid_in (row_of e), definition_in (row_of e))) all ≡ all
as_pairs [] = refl
as_pairs (e ∷ all) = ap (λ l. e ∷ l) (as_pairs all)

module _ (db : Trees) (all : List Entry) (are : AreRowsOf (db 0) all) (table : IsTable (db 0)) where
  entry_of : (r : Row) → Has (db 0) r → (e : Entry) × Has all e × (r ≡ row_of e)
  entry_of r h = has_mapped row_of all r (subst (λ l. Has l r) are h)

  keyed : AreKeyed oid_in (db 0)
  keyed r s hr hs e =
      let d = entry_of r hr in
      let f = entry_of s hs in
      let same : d.0.0 ≡ f.0.0 = sym (ap oid_in d.2) ∙ e ∙ ap oid_in f.2 in
      rowids_once (db 0) table r s hr hs (ap rowid d.2 ∙ ap (λ n. Int (pos n)) same ∙ sym (ap rowid f.2))

  pairs : map (λ r. (oid_in r, definition_in r)) (db 0) ≡ all
  pairs = ap (map (λ r. (oid_in r, definition_in r))) are ∙ map_twice row_of (λ r. (oid_in r, definition_in r)) all ∙ as_pairs all

  pub definitions_found : AreDefined (db 0) × ListsDefinitions (tables_in db) all
  definitions_found = (
    record {
      formed = λ r h. subst (λ s. s ≡ rel_row (oid_in s) (definition_in s)) (sym (entry_of r h).2) refl;
      keyed = keyed;
      table = rows_apart (db 0) table;
    },
    record {
      rises = sorted all (subst IsTable are table);
      each = λ q. sym (get-from_entries nat_cmp_total (map (λ r. (oid_in r, definition_in r)) (db 0)) q ∙ ap (find nat_cmp q) pairs);
    },
  )
