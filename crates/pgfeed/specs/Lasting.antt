-- A feed outlasts crashes, and that others remove segments which have ended.
use Rattle.std.specs.Prelude.{◌≡◌, ◌<◌, ◌++◌, ◌⊎◌, ℕ, List, [], Bool}
use Rattle.std.specs.List.{AllByRecursion}
use Rattle.pgledger.specs.Entries.{Entry, last_end}
use Rattle.pgfeed.specs.declared.feed.Feed.{Feed}
use Rattle.pgfeed.specs.Feeds.{BeginBelow, IsHonestFeed, KeepsAll, KeepsLast, LastsUpTo}
use Rattle.pgfeed.specs.Feeds.{LeavesAt, OpensIn}

module _ {F D : Type 0} (seen : D → List ℕ) (may_leave : D → List ℕ → Type 0) (is_clean : D → Bool) (is_true : F → Type 0)
    (places : F → List ℕ) (has : F → ℕ → List ℕ → Type 0) where
  -- A folder has what a crash at this moment may leave of the feed. Others may have removed a front
  -- of the segments that had ended, of which the last one ended below the LSN, and nothing else.
  pub record IsLeftOf (l : Feed F D) (p : ℕ) (gone : List ℕ) (folder : F) : Type 0 where
    pub honest : IsHonestFeed seen may_leave is_clean is_true places has l
    pub rest : places l.folder ≡ gone ++ places folder
    pub ended : AllByRecursion (λ b. b < l.segment.base) gone
    pub front : (gone ≡ []) ⊎ BeginBelow p (places folder)
    pub each : (b : ℕ) (text : List ℕ) → has folder b text → LeavesAt may_leave has l b text

  -- Where it is opened at an LSN up to which the entries outlast a crash, the feed keeps those,
  -- from the first segment that is there.
  abbrev pub FeedsOutlastCrashes : Type 0
  FeedsOutlastCrashes =
      (l new : Feed F D) (p : ℕ) (gone : List ℕ) (told later : List Entry) (folder : F)
      → KeepsAll seen may_leave is_clean is_true places has l (told ++ later) → last_end l.begins told ≡ p
      → LastsUpTo seen may_leave is_clean is_true places has l p → IsLeftOf l p gone folder
      → OpensIn seen may_leave is_clean is_true places has folder p new → IsHonestFeed seen may_leave is_clean is_true places has new
      → KeepsLast seen may_leave is_clean is_true places has l new gone told
      × LastsUpTo seen may_leave is_clean is_true places has new p
