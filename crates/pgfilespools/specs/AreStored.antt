-- What is true of the bytes of a transaction's items, and of what is kept beside them: where each
-- label first stands, and what the items cost.
use Rattle.std.specs.Prelude.{◌≡◌, ℕ, List}
use Rattle.std.specs.List.{AllByRecursion}
use Rattle.pgspool.specs.Labels.{LabelledItem}
use Rattle.pgspool.specs.FirstPlaces.{FirstPlaces}
use Rattle.pgspool.specs.AreIndexed.{AreIndexed}
use Rattle.pgfilespools.specs.Stored.{stored, IsStorable}

pub record AreStored (held : List LabelledItem) (bytes : List ℕ) (firsts : FirstPlaces) (cost : ℕ) : Type 0 where
  pub index : AreIndexed held firsts cost
  pub written : bytes ≡ stored held
  pub storable : AllByRecursion IsStorable held
