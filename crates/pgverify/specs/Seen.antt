-- What was seen of the entries of a tree.
use Rattle.std.specs.Prelude.{◌≡◌, ◌<◌, ◌^◌, ◌++◌, ◌⊎◌, ℕ, ℤ, List}
use Rattle.std.specs.Prelude.{[], ◌∷◌, length, Option, None, Some}
use Rattle.std.specs.Prelude.{map, ⊤}
use Rattle.std.specs.Int.{w64, to_be_bytes}
use Rattle.sqlite.specs.declared.types.Value.TheVariants.{Int}
use Rattle.sqlite.specs.Order.{Row, column}
use Rattle.sqlite_rules.specs.Lists.{Has}
use Rattle.sqlite.specs.View.{View}
use Rattle.sqlite_sql.specs.Catalog.{entry_of}
use Rattle.sqlite_exec.specs.Loops.{left_of}
use Rattle.pgtables.specs.Kept.{Copies, Definition, held_row, pos_row, rel_row}

-- a row of `held` that is accepted
pub record IsHeldRow {C : Type 0} (accepts : C → ℕ → List ℕ → Copies → Type 0) (check : C) (row : Row) : Type 0 where
  pub id : ℤ
  pub oid : ℕ
  pub ident : List ℕ
  pub kept : Copies
  pub is : row ≡ held_row (Int id) oid ident kept
  pub accepted : accepts check oid ident kept

-- the entry is that of a row, which is accepted
pub record IsNamed {C : Type 0} (accepts : C → ℕ → List ℕ → Copies → Type 0) (check : C) (rows : List Row) (entry : Row) : Type 0 where
  pub row : Row
  pub there : Has rows row
  pub held : IsHeldRow accepts check row
  pub is : entry ≡ entry_of (1 ∷ 2 ∷ []) row

-- two entries of the index have one OID and one identity
abbrev pub IsSameKey : Row → Row → Type 0
IsSameKey a b = (column a 0 ≡ column b 0) × (column a 1 ≡ column b 1)

-- the next entry, if there is one, has another key
abbrev pub IsFollowed : Row → List Row → Type 0
IsFollowed e [] = ⊤
IsFollowed e (f ∷ es) = ¬ IsSameKey e f

-- no two neighbors have one key
abbrev pub AreApart : List Row → Type 0
AreApart [] = ⊤
AreApart (e ∷ es) = IsFollowed e es × AreApart es

-- so it is of these entries, of which this is the last
pub record HaveOwnKeys (last : Row) (entries : List Row) : Type 0 where
  pub apart : AreApart entries
  pub ends : (entries ≡ []) ⊎ ((front : List Row) × (entries ≡ front ++ last ∷ []))

-- each entry is that of a row, which is accepted, no two neighbors have one key, and there are as
-- many entries as rows
pub record AreMatched {C : Type 0} (accepts : C → ℕ → List ℕ → Copies → Type 0) (check : C) (rows entries : List Row) : Type 0 where
  pub named : (entry : Row) → Has entries entry → IsNamed accepts check rows entry
  pub apart : AreApart entries
  pub count : length entries ≡ length rows

-- cursor 1 has given so many rows of the table, and this one last, or is at the end
pub record HasGiven (v : View) (row : Row) (count : ℕ) : Type 0 where
  pub given : List Row
  pub all : given ++ left_of v 1 ≡ v.trees 1
  pub many : length given ≡ count
  pub last : (row ≡ []) ⊎ Has (v.trees 1) row

-- the rows are those of these definitions
abbrev pub AreRowsOf : List Row → List (ℕ × Definition) → Type 0
AreRowsOf rows all = rows ≡ map (λ e. rel_row e.0 e.1) all

-- there is one row, of this position, or none
abbrev pub IsPlaceOf : Option ℕ → List Row → Type 0
IsPlaceOf None rows = rows ≡ []
IsPlaceOf (Some position) rows = (rows ≡ pos_row (to_be_bytes w64 position) ∷ []) × (position < 2 ^ 64)
