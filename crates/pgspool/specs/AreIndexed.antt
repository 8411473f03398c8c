-- What is true of what is kept beside a transaction's items: where each label first stands, and
-- what the items cost.
use Rattle.std.specs.Prelude.{◌≡◌, ℕ, List}
use Rattle.std.specs.List.{AllByRecursion}
use Rattle.pglogical.specs.Spelling.{IsSpellable}
use Rattle.pgspool.specs.Labels.{LabelledItem, costs}
use Rattle.pgspool.specs.FirstPlaces.{FirstPlaces, first_places}

pub record AreIndexed (held : List LabelledItem) (firsts : FirstPlaces) (bytes : ℕ) : Type 0 where
  pub indexed : firsts ≡ first_places held
  pub counted : bytes ≡ costs held
  pub spellable : AllByRecursion (λ (l : LabelledItem). IsSpellable l.1) held
