-- What loading a transaction's items does to the store beside which it is done.
use Rattle.std.specs.Prelude.{◌≡◌, ℕ}
use Rattle.pgapply.specs.Tallies.{Tally}
use Rattle.pgapply.specs.Value.{Tables}
use Rattle.pgapply.specs.Taken.{Stays}

-- Its tables, held and staged, both positions and both tallies are as they were, and a crash leaves
-- nothing more. It may serve no longer, where the items aren't as they were written; while it is
-- honest, it serves on.
pub record LoadsBeside {S : Type 0} (serves is_honest : S → Type 0) (holds stages : S → Tables → Type 0) (place reach : S → ℕ)
    (tally stages_tally : S → Tally) (reopens : S → S → Type 0) (old new : S) : Type 0 where
  pub served : serves new → serves old
  pub serves_on : is_honest new → serves old → serves new
  pub honest : is_honest new → is_honest old
  pub held : Stays holds old new
  pub staged : Stays stages old new
  pub place_is : place new ≡ place old
  pub reach_is : reach new ≡ reach old
  pub tally_is : tally new ≡ tally old
  pub stages_tally_is : stages_tally new ≡ stages_tally old
  pub reopens_less : (other : S) → reopens new other → reopens old other
