-- How a feed is opened that a run keeps beside its store.
use Rattle.std.specs.Prelude.{◌≡◌, ℕ, List, Bool}
use Rattle.pgfeed.specs.declared.feed.Feed.{Feed}
use Rattle.pgfeed.specs.Feeds.{OpensIn}
use Rattle.pgfeed.specs.Naming.{IsOf}
use Rattle.pgsystem.specs.declared.feed_plan.FeedPlan.{FeedPlan}

module _ {F D : Type 0} (seen : D → List ℕ) (may_leave : D → List ℕ → Type 0) (is_clean : D → Bool) (is_true : F → Type 0)
    (places : F → List ℕ) (has : F → ℕ → List ℕ → Type 0) where
  -- It was opened at this LSN as it was planned: in the folder, as a feed of the system, database
  -- and slot, whose segments end, and whose messages are told, by the limits.
  pub record IsOpenedAt (plan : FeedPlan F D) (p : ℕ) (l : Feed F D) : Type 0 where
    pub opened : OpensIn seen may_leave is_clean is_true places has plan.folder p l
    pub told : IsOf l.names plan.origin.system.now plan.origin.database.now plan.origin.slot.now
    pub limited : l.limits ≡ plan.limits
