-- The parts of a transaction's items, each of which can be read by itself.
use Rattle.std.specs.Prelude.{◌≡◌, ◌<◌, ◌≤◌, ℕ, List, Some, length, take, slice_get}
use Rattle.pgspool.specs.declared.first_place.FirstPlace.{FirstPlace}
use Rattle.pgspool.specs.Labels.{LabelledItem, costs}

-- so many items, and what they cost
pub record IsPlace (held : List LabelledItem) (p : FirstPlace) : Type 0 where
  pub within : p.place ≤ length held
  pub bytes : p.bytes ≡ costs (take p.place held)

-- where each part but the first begins: none without items before it, and each behind the one
-- before
pub record AreParts (held : List LabelledItem) (parts : List FirstPlace) : Type 0 where
  pub each : (i : ℕ) (p : FirstPlace) → slice_get parts i ≡ Some p → IsPlace held p
  pub some : (i : ℕ) (p : FirstPlace) → slice_get parts i ≡ Some p → 0 < p.place
  pub order : (i j : ℕ) (p q : FirstPlace) → i < j → slice_get parts i ≡ Some p → slice_get parts j ≡ Some q → p.place < q.place

-- where a part begins and ends, which has items where any are left
pub record AreBounds (held : List LabelledItem) (from : ℕ) (p q : FirstPlace) : Type 0 where
  pub begins : p.place ≡ from
  pub first : IsPlace held p
  pub last : IsPlace held q
  pub order : from ≤ q.place
  pub some : from < length held → from < q.place
