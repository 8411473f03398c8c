-- Rows of a relation that are parked under an OID that no other row has, while the relation gets
-- another identity.
use Rattle.std.specs.Prelude.{◌≡◌, ◌≢◌, ◌⊎◌, ◌∷◌, ℕ, List, None}
use Rattle.std.specs.FinMap as finite
use Rattle.sqlite.specs.Store.{Ghosts}
use Rattle.sqlite.specs.State.{HasCleanDisk}
use Rattle.pgtables.specs.Kept as stored
use Rattle.pgrows.specs.Rows.{state, tables_of}
use Rattle.pgrows.specs.Walk.{EachFits, HasNoRow}
use Rattle.pgapply.specs.declared.fault.StoreFault.{StoreFault}
use Rattle.pgapply.specs.Stored.{IsOwnFault}
use Rattle.pgencoded.specs.Acts.{Goes, GoesOpen}

-- the row goes to the other OID
abbrev pub parked_row : ℕ → ℕ → List ℕ → stored.Copies → stored.Tables → stored.Tables
parked_row oid park place kept t = stored.without_row oid place (stored.with_row park place kept t)

-- each row of the relation has gone to the other OID, and nothing else has changed
pub record HasParked (oid park : ℕ) (t next : stored.Tables) : Type 0 where
  pub there : (place : List ℕ) → finite.get next.rows (park ∷ place) ≡ finite.get t.rows (oid ∷ place)
  pub rest : stored.without_rows park next ≡ stored.without_rows oid t

-- the row with this identity has gone, or it hasn't
abbrev pub IsAtOne : ℕ → ℕ → stored.Tables → stored.Tables → List ℕ → Type 0
IsAtOne oid park t next place =
    ((finite.get next.rows (oid ∷ place) ≡ finite.get t.rows (oid ∷ place)) × (finite.get next.rows (park ∷ place) ≡ None))
    ⊎ ((finite.get next.rows (oid ∷ place) ≡ None) × (finite.get next.rows (park ∷ place) ≡ finite.get t.rows (oid ∷ place)))

-- rows have gone, and the others have not
pub record IsParking (oid park : ℕ) (t next : stored.Tables) : Type 0 where
  pub each : (place : List ℕ) → IsAtOne oid park t next place
  pub rest : stored.without_rows park (stored.without_rows oid next) ≡ stored.without_rows oid t

module _ {S : Type 0} (g : Ghosts S) (old new : S) (oid park : ℕ) where
  -- what a loop over the rows keeps
  pub record ParksOn : Type 0 where
    pub goes : Goes g old new
    pub made : HasCleanDisk (state g new) → HasNoRow park (tables_of g old).rows → IsParking oid park (tables_of g old) (tables_of g new)

  -- all rows have gone
  abbrev pub ParksAll : Type 0
  ParksAll = GoesOpen g old new × (HasNoRow park (tables_of g old).rows → HasParked oid park (tables_of g old) (tables_of g new))

abbrev pub RefusesToPark : {S : Type 0} → Ghosts S → S → ℕ → ℕ → StoreFault → Type 0
RefusesToPark g old oid park e = HasNoRow park (tables_of g old).rows → EachFits oid (tables_of g old) → IsOwnFault e

-- rows of other relations, and those that are parked, are as they were
abbrev pub StaysBeside : ℕ → stored.Tables → stored.Tables → Type 0
StaysBeside oid t next = (other : ℕ) → other ≢ oid → (place : List ℕ)
    → finite.get next.rows (other ∷ place) ≡ finite.get t.rows (other ∷ place)

-- rows were read, and nothing has changed
pub record StaysOn {S : Type 0} (g : Ghosts S) (old new : S) : Type 0 where
  pub goes : Goes g old new
  pub same : HasCleanDisk (state g new) → tables_of g new ≡ tables_of g old
