-- What is true of the fields of a transaction's items that are kept as bytes: each of them can be
-- read again.
use Rattle.std.specs.Prelude.{◌≡◌, ℕ, List}
use Rattle.std.specs.List.{AllByRecursion}
use Rattle.pgspool.specs.declared.mark.Mark.{Mark}
use Rattle.pgspool.specs.Labels.{LabelledItem}
use Rattle.pgspool.specs.FirstPlaces.{FirstPlaces}
use Rattle.pgspool.specs.AreIndexed.{AreIndexed}
use Rattle.pgspool.specs.Marks.{spelled, marks_from, IsReadable}

pub record AreEncoded (held : List LabelledItem) (marks : List Mark) (buffer : List ℕ) (firsts : FirstPlaces) (bytes : ℕ) : Type 0 where
  pub index : AreIndexed held firsts bytes
  pub marked : marks ≡ marks_from 0 held
  pub written : buffer ≡ spelled held
  pub readable : AllByRecursion (λ (l : LabelledItem). IsReadable l.1) held
