-- A gap of the index: two entries of a relation, between which no row stands.
use Rattle.std.specs.Prelude.{◌≡◌, ◌∷◌, ℕ, List, pos, false, true, IsSome}
use Rattle.std.specs.Ordering.{nat_cmp, is_lt}
use Rattle.std.specs.Cmp.Lexicographic.{slice_cmp}
use Rattle.std.specs.FinMap.{FinMap, get}
use Rattle.sqlite.specs.declared.types.Value.TheVariants.{Int, Blob}
use Rattle.sqlite.specs.Order.{Row, column}
use Rattle.pgtables.specs.Kept.{Copies}

-- the entry is one of the relation's, and its identity is below this one
pub record IsPast (o : ℕ) (i : List ℕ) (e : Row) : Type 0 where
  pub ident : List ℕ
  pub oid_is : column e 0 ≡ Int (pos o)
  pub ident_is : column e 1 ≡ Blob ident
  pub below : is_lt (slice_cmp nat_cmp ident i) ≡ true

-- the entry is one of the relation's, and its identity isn't above this one
pub record IsReached (o : ℕ) (i : List ℕ) (e : Row) : Type 0 where
  pub ident : List ℕ
  pub oid_is : column e 0 ≡ Int (pos o)
  pub ident_is : column e 1 ≡ Blob ident
  pub not_above : is_lt (slice_cmp nat_cmp i ident) ≡ false

-- each row of the relation above this identity is that of the entry, or behind it
abbrev pub IsNext : ℕ → List ℕ → Row → FinMap (slice_cmp nat_cmp) Copies → Type 0
IsNext o l e rows = (i : List ℕ) → is_lt (slice_cmp nat_cmp l i) ≡ true → IsSome (get rows (o ∷ i)) → IsReached o i e

-- Each row of the first entry's relation above it is that of the second, or behind it. Of a first
-- entry that is empty this says nothing.
abbrev pub IsGap : Row → Row → FinMap (slice_cmp nat_cmp) Copies → Type 0
IsGap low high rows = (o : ℕ) (l : List ℕ) → column low 0 ≡ Int (pos o) → column low 1 ≡ Blob l → IsNext o l high rows
