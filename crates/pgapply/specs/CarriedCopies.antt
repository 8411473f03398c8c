-- How many copies come of rows that are carried over.
use Rattle.std.specs.Prelude.{◌≡◌, ◌⊎◌, ◌<◌, ◌+◌, ℕ, List, [], ◌∷◌, true, false, Option, Some, None}
use Rattle.std.specs.Prelude.{Ok, Err, if◌then◌else◌}
use Rattle.std.specs.Ordering.{nat_cmp, eq_by_cmp}
use Rattle.std.specs.Cmp.Lexicographic.{slice_cmp}
use Rattle.std.specs.FinMap as map
use Rattle.pglogical.specs.declared.message.RelationDef.{RelationDef}
use Rattle.pgrel.specs.Identity.{keyed, same_shape}
use Rattle.pgrel.specs.Carried.{carried}
use Rattle.pgapply.specs.declared.op.Op.{Op}
use Rattle.pgapply.specs.declared.fault.StoreFault.{StoreFault}
use Rattle.pgapply.specs.declared.fault.StoreFault.TheVariants.{Clash, TooManyCopies}
use Rattle.pgapply.specs.Value.{Row, Rows, Table, AreRows, identity_key, most_copies}
use Rattle.pgapply.specs.Apply.{found_rows, is_truncate}

abbrev pub copies_of : Option Row → ℕ
copies_of None = 0
copies_of (Some row) = row.copies

-- how often a row is stored at an identity
abbrev pub copies_at : Rows → List ℕ → ℕ
copies_at rows place = copies_of (map.get rows place)

-- the copies of those rows of a list that come to this identity under the new definition
abbrev pub copies_to : RelationDef → RelationDef → List ℕ → List (List ℕ × Row) → ℕ
copies_to old new place [] = 0
copies_to old new place (entry ∷ more) =
    (if eq_by_cmp (slice_cmp nat_cmp) place (identity_key new (carried old new entry.1.cells)) then entry.1.copies else 0)
    + copies_to old new place more

-- No copy is lost and none comes: at each identity there are those of all rows that come to it.
abbrev pub CarriedCopiesAddUp : Type 0
CarriedCopiesAddUp =
    (table : Table) (new : RelationDef) (op : Op) (rows : Rows) → same_shape table.definition new ≡ false → is_truncate op ≡ false
    → found_rows (Some table) new op ≡ Ok rows
    → (place : List ℕ) → copies_at rows place ≡ copies_to table.definition new place (map.entries table.rows)

-- more copies than a row may have, and the fault that says so
abbrev pub Exceeds : RelationDef → StoreFault → ℕ → Type 0
Exceeds def fault copies =
    ((fault ≡ Clash) × (keyed def ≡ true) × (1 < copies)) ⊎ ((fault ≡ TooManyCopies) × (keyed def ≡ false) × (most_copies < copies))

-- Rows that can't be carried over have too many copies at one identity.
abbrev pub CarryingHasCauses : Type 0
CarryingHasCauses =
    (table : Table) (new : RelationDef) (op : Op) (fault : StoreFault) → AreRows table.definition table.rows
    → same_shape table.definition new ≡ false → is_truncate op ≡ false → found_rows (Some table) new op ≡ Err fault
    → (place : List ℕ) × Exceeds new fault (copies_to table.definition new place (map.entries table.rows))
