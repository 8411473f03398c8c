-- The rows of a relation one after the other, by their identities.
use Rattle.std.specs.Prelude.{◌≡◌, ◌∷◌, ℕ, List, Some, None, IfSome, IsSome, true, false}
use Rattle.std.specs.Ordering.{nat_cmp, is_lt}
use Rattle.std.specs.Cmp.Lexicographic.{slice_cmp}
use Rattle.std.specs.FinMap.{FinMap, get}
use Rattle.sqlite.specs.declared.types.Value.TheVariants.{Blob}
use Rattle.sqlite.specs.Order.{Row, column, bytes}
use Rattle.sqlite.specs.Tree.{Trees}
use Rattle.sqlite_rules.specs.Lists.{Has}
use Rattle.pgtables.specs.Kept.{Copies, Tables, copies_in, tables_in}
use Rattle.pgtables.specs.Shown.{FitsCopies}
use Rattle.pgrows.specs.Dump.{row_at}

-- the relation has no row from this identity on
abbrev pub EndsAt : ℕ → List ℕ → FinMap (slice_cmp nat_cmp) Copies → Type 0
EndsAt o from rows = (j : List ℕ) → is_lt (slice_cmp nat_cmp j from) ≡ false → get rows (o ∷ j) ≡ None

-- it is the relation's first row from this identity on
pub record IsNextRow (o : ℕ) (from : List ℕ) (rows : FinMap (slice_cmp nat_cmp) Copies) (ident : List ℕ) (k : Copies) : Type 0 where
  pub not_below : is_lt (slice_cmp nat_cmp ident from) ≡ false
  pub there : get rows (o ∷ ident) ≡ Some k
  pub first : (j : List ℕ) → is_lt (slice_cmp nat_cmp j from) ≡ false → is_lt (slice_cmp nat_cmp j ident) ≡ true → get rows (o ∷ j) ≡ None

-- the entry is that of this row
pub record IsNextEntry (o : ℕ) (from : List ℕ) (db : Trees) (e : Row) : Type 0 where
  pub listed : Has (db 2) e
  pub ident_is : column e 1 ≡ Blob (bytes (column e 1))
  pub row : IsNextRow o from (tables_in db).rows (bytes (column e 1)) (copies_in (row_at (db 1) e))

-- each row of the relation fits
abbrev pub EachFits : ℕ → Tables → Type 0
EachFits o t = (ident : List ℕ) → IfSome (get t.rows (o ∷ ident)) FitsCopies

-- the relation has a row
abbrev pub HasRow : ℕ → FinMap (slice_cmp nat_cmp) Copies → Type 0
HasRow o rows = (ident : List ℕ) × IsSome (get rows (o ∷ ident))

-- it has none
abbrev pub HasNoRow : ℕ → FinMap (slice_cmp nat_cmp) Copies → Type 0
HasNoRow o rows = (ident : List ℕ) → get rows (o ∷ ident) ≡ None
