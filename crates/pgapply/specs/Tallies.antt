-- What a store has taken since it was opened: its commits, and how many of their changes found no
-- row. PostgreSQL documentation, Logical Replication Message Formats, Begin, Commit and Stream
-- Commit; Logical Replication, Conflicts, update_missing and delete_missing.
use Rattle.std.specs.Prelude.{◌≡◌, ◌++◌, ℕ, List, [], ◌∷◌, Option}
use Rattle.pgapply.specs.declared.commit.About.{About}
use Rattle.pgapply.specs.declared.misses.Misses.{Misses}
use Rattle.pgapply.specs.Value.{Tables}
use Rattle.pgapply.specs.Apply.{Change}
use Rattle.pgapply.specs.Missing.{all_missing, nothing_missed, with_misses}

-- one commit: the end LSN of its commit, what its message told of it, and its changes
pub record TakenCommit : Type 0 where
  pub end : ℕ
  pub about : Option About
  pub changes : List Change

-- the commits, the oldest first, and the count of the changes that found no row
pub record Tally : Type 0 where
  pub misses : Misses
  pub commits : List TakenCommit

abbrev pub nothing_taken : Tally
nothing_taken = record { misses = nothing_missed; commits = [] }

-- A commit without changes isn't noted: a server needn't send it.
abbrev pub taken_commit : ℕ → Option About → List Change → List TakenCommit
taken_commit end about [] = []
taken_commit end about (change ∷ changes) = record { end = end; about = about; changes = change ∷ changes } ∷ []

-- one commit more, over the tables before it
abbrev pub with_commit : Tally → Tables → ℕ → Option About → List Change → Tally
with_commit t tables end about changes =
    record {
      misses = with_misses t.misses end (all_missing tables changes);
      commits = t.commits ++ taken_commit end about changes;
    }

module _ {S : Type 0} (holds : S → Tables → Type 0) where
  -- behind a commit that ends here, its message told this and its changes were made, it is in the
  -- tally
  abbrev pub Counts : S → ℕ → Option About → List Change → Tally → Tally → Type 0
  Counts old end about changes before behind = (tables : Tables) → holds old tables → behind ≡ with_commit before tables end about changes
